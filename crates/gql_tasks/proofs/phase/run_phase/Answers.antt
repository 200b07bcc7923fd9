use Rattle.std.proofs.Common.{refl, sym, subst}
use Rattle.gql_tasks.specs.Parts.{root_parts, at}
use Rattle.gql_tasks.specs.Phases.{PhaseCut}
use Rattle.gql_tasks.proofs.PhaseLemmas.{phase_cut, phase_cut_below, phase_over}
use Rattle.gql_tasks.proofs.RootLemmas.{if_err}
use Rattle.gql_tasks.proofs.phase.run_phase.Goals as goal

pub returns-in_err-answer_root-clause-cut : goal.returns-in_err-answer_root-clause-cut
returns-in_err-answer_root-clause-cut g c =
    let e = root_parts g.R.ResolverSet g.L.Plan g.H.Rounds g.P.Turns in
    let first = at c.args.plan.now c.args.arena.now c.args.run.now in
    let new = at c.answer_root.new.plan c.answer_root.new.arena c.answer_root.new.run in
    if_err _ (PhaseCut e first new) c.from_residual.result c.from_residual.ensures.1
    (λ want is. phase_cut want refl (subst (λ w. Rattle.gql_tasks.specs.Root.RootEnded e first new w) (sym is) c.in_err-answer_root.ensures.ended))

pub finish-requires : goal.finish-requires
finish-requires g c = record { sound = c.in_ok-answer_root.ensures.answered.sound }

pub returns-in-Ok-clause-over : goal.returns-in-Ok-clause-over
returns-in-Ok-clause-over g c =
    phase_over refl c.in_ok-answer_root.ensures.answered c.in-Ok.ensures.stretch.kept c.in-Ok.ensures.stretch.went c.in-Ok.ensures.answered

pub returns-in-Err-clause-cut : goal.returns-in-Err-clause-cut
returns-in-Err-clause-cut g c =
    phase_cut_below _ refl refl c.in_ok-answer_root.ensures.answered c.in-Err.ensures.stretch.kept c.in-Err.ensures.stretch.ended
