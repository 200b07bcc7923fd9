use Rattle.std.proofs.Common.{refl, subst, sym}
use Rattle.gql_tasks.specs.declared.given.Given.TheVariants.{Answered}
use Rattle.gql_place.specs.declared.piece.Piece.TheVariants as kept
use Rattle.gql_engine.specs.PlanHolds.{ComesAlone, IsDataAlone}
use Rattle.gql_objects.specs.Tasks.{job_of_task}
use Rattle.gql_engine.proofs.GivenLemmas.{data_comes}
use Rattle.gql_engine.proofs.execute_field.data_answers.data_of_answer.Goals as goal

pub returns : goal.returns
returns g c =
    subst (λ value. ComesAlone {V = g.row.V.Denot} (Answered c.args.answer) (job_of_task c.args.task.now) (kept.Data value)) (sym c.data_in.ensures)
    (data_comes c.args.task.now c.args.answer c.new-none.result c.new-none.ensures.items
    (subst (λ node. IsDataAlone node c.args.answer) c.as_ref.ensures (c.if-not-is_data_alone.ensures refl)))
