-- The lemmas that a turn needs.
use Rattle.gql_tasks.proofs.GivenLemmas.{no_put}
use Rattle.gql_tasks.proofs.RecordLemmas.{with_more_none}
use Rattle.gql_tasks.proofs.RootWorld.{polled_root, polled_other, answered_root, answered_other, started_world}
use Rattle.gql_tasks.proofs.StepLemmas.{none_counted, one_counted}

-- of a turn that begins nothing
pub ruleset later_steps = (with_more_none, none_counted)

-- of a task's first turn
pub ruleset first_steps = (later_steps, no_put, one_counted, started_world)

-- of a poll
pub ruleset poll_steps = (polled_root, polled_other, answered_root, answered_other)
