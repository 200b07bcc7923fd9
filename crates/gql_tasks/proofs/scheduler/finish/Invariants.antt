use Rattle.std.proofs.Common.{◌≡◌, []}
use Rattle.gql_tasks.specs.Arena.{events_left}
use Rattle.gql_tasks.specs.Parts.{parts, at}
use Rattle.gql_tasks.specs.Progress.{Kept, Went}
use Rattle.gql_tasks.proofs.scheduler.finish.Given as goal

abbrev pub invariant-events : goal.invariant-events
invariant-events g l = record {
  kept : Kept (parts g.R.ResolverSet g.L.Plan g.H.Rounds g.P.Turns)
      (at l.initial.plan l.initial.arena l.initial.run)
      (at l.plan l.arena l.run);
  went : Went (parts g.R.ResolverSet g.L.Plan g.H.Rounds g.P.Turns)
      (at l.initial.plan l.initial.arena l.initial.run)
      (at l.plan l.arena l.run);
  idle : l.initial.arena.waiting ≡ [] → (l.arena.waiting ≡ []) × (l.run ≡ l.initial.run);
}

abbrev pub decreases-events : goal.decreases-events
decreases-events g l = events_left l.arena.states.items
