use Rattle.std.proofs.Common.{◌+◌, ◌-◌, length}
use Rattle.std.specs.Prelude.{◌==◌}
use Rattle.gql_lists.specs.Sets.{missing}
use Rattle.gql_rules.specs.Reaching.{Marks}
use Rattle.gql_rules.proofs.ReachLemmas.{PlacesWalk, all_led}
use Rattle.gql_rules.proofs.reaching.walk_from.Given as goal

abbrev pub invariant-walk : goal.invariant-walk
invariant-walk l = PlacesWalk l.graph l.starts l.reached l.next × Marks l.marks l.reached

abbrev pub decreases-walk : goal.decreases-walk
decreases-walk l = (missing ◌==◌ (all_led l.graph) l.reached + length l.reached) - l.next
