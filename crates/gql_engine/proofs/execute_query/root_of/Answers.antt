use Rattle.std.proofs.Common.{ap, ◌∙◌}
use Rattle.gql_objects.specs.Parents.{jobs_here}
use Rattle.gql_objects.specs.declared.parent.Parent.{Parent}
use Rattle.gql_engine.proofs.QueryLemmas.{root_here}
use Rattle.gql_engine.proofs.execute_query.root_of.Goals as goal

pub returns-clause-jobs : goal.returns-clause-jobs
returns-clause-jobs g c =
    ap (λ (p : Parent g.row.V.Denot). jobs_here p) c.in_ok-root.ensures.ok
    ∙ root_here c.args.by c.args.scene.now c.in_ok-level.level c.in_ok-root_level.field-0 c.in_ok-level.ensures.ok c.in_ok-root_level.ensures.object c.in_ok-root_level.ensures.members
