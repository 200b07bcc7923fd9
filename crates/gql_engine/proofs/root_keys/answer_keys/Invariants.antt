use Rattle.std.proofs.Common.{◌≡◌, ◌≤◌, [], drop, length, take}
use Rattle.std.specs.List.{AllByRecursion}
use Rattle.gql_tasks.specs.Parts.{at, root_parts}
use Rattle.gql_tasks.specs.Phases.{InTurn, serving_by}
use Rattle.gql_engine.specs.RootKeys.{IsKey}
use Rattle.gql_engine.specs.ExecuteMutation.{PlacedInTurn}
use Rattle.gql_objects.specs.Tasks.{jobs_in}
use Rattle.gql_engine.proofs.root_keys.answer_keys.Given as goal

abbrev pub invariant-keys : goal.invariant-keys
invariant-keys g l = record {
  turn : InTurn (root_parts g.R.ResolverSet (Rattle.gql_engine.specs.contracts.execute_field.tree_plan.TreePlanPlan.TheImpl.ghosts g.row.R-Own g.R.Own.Destruct-dict) g.H.Rounds g.P.Turns)
      (at l.initial.plan l.initial.arena l.initial.run)
      (at l.plan l.arena l.run) (take (length l.own.items) (jobs_in l.initial.tasks.items));
  left : drop (length l.own.items) (jobs_in l.initial.tasks.items) ≡ jobs_in l.tasks.items;
  within : length l.own.items ≤ length (jobs_in l.initial.tasks.items);
  keys : AllByRecursion IsKey (jobs_in l.tasks.items);
  closed : l.plan.kept.items ≡ [];
  placed : g.R.ResolverSet.is_lawful l.initial.run.set.now → g.H.Rounds.are_quiet l.initial.run.hooks.now
      → PlacedInTurn (serving_by g.R.ResolverSet l.initial.run.set.now) (g.R.ResolverSet.world l.initial.run.set.now) (take (length l.own.items) (jobs_in l.initial.tasks.items)) l.own.items;
  idle : jobs_in l.initial.tasks.items ≡ [] → l.run ≡ l.initial.run;
}

abbrev pub decreases-keys : goal.decreases-keys
decreases-keys g l = length l.tasks.items
