use Rattle.std.proofs.Common.{◌≡◌, ◌<◌, length}
use Rattle.gql_tasks.specs.Arena.{events_left, polls_left}
use Rattle.gql_tasks.specs.Parts.{parts, at}
use Rattle.gql_tasks.specs.Progress.{Kept, Went}
use Rattle.gql_tasks.proofs.scheduler.reach_event.Given as goal

abbrev pub invariant-polls : goal.invariant-polls
invariant-polls g l = record {
  some : 0 < length l.arena.waiting;
  events : events_left l.arena.states.items ≡ events_left l.initial.arena.states.items;
  kept : Kept (parts g.R.ResolverSet g.L.Plan g.H.Rounds g.P.Turns)
      (at l.initial.plan l.initial.arena l.initial.run)
      (at l.plan l.arena l.run);
  went : Went (parts g.R.ResolverSet g.L.Plan g.H.Rounds g.P.Turns)
      (at l.initial.plan l.initial.arena l.initial.run)
      (at l.plan l.arena l.run);
}

abbrev pub decreases-polls : goal.decreases-polls
decreases-polls g l = polls_left g.R.ResolverSet.number l.arena.states.items
