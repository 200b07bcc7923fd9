use Rattle.std.proofs.Common.{ap, ◌∙◌}
use Rattle.gql_tasks.specs.Pace.{pending_then_ready, to_come}
use Rattle.gql_tasks.specs.Parts.{delay_by}
use Rattle.gql_tasks.proofs.turning.take_turn.Goals as goal

pub returns-in-Pending-clause-paced : goal.returns-in-Pending-clause-paced
returns-in-Pending-clause-paced g c = λ calm pace.
    ap (to_come g.R.ResolverSet.number (delay_by g.R.ResolverSet c.args.run.now.set.now c.args.context.now.resolver)) c.in-Waiting.is
    ∙ ap pending_then_ready (rw c.in-Pending.is at (c.in_ok-answer-in-Waiting.ensures.paced pace))
