use Rattle.std.proofs.Common.{◌≡◌}
use Rattle.gql_tasks.specs.Arena.{events_left, polls_left}
use Rattle.gql_tasks.specs.Parts.{root_parts, at}
use Rattle.gql_tasks.specs.Root.{StillWaits}
use Rattle.gql_tasks.proofs.root.reach_root.Given as goal

abbrev pub invariant-polls : goal.invariant-polls
invariant-polls g l = record {
  events : events_left l.arena.states.items ≡ events_left l.initial.arena.states.items;
  waits : StillWaits (root_parts g.R.ResolverSet g.L.Plan g.H.Rounds g.P.Turns)
      (at l.initial.plan l.initial.arena l.initial.run)
      (at l.plan l.arena l.run);
}

abbrev pub decreases-polls : goal.decreases-polls
decreases-polls g l = polls_left g.R.ResolverSet.number l.arena.states.items
