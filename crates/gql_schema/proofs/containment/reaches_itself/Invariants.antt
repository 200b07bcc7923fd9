use Rattle.std.proofs.Common.{◌+◌, ◌-◌, length}
use Rattle.std.specs.Str.{bytes_eq}
use Rattle.gql_lists.specs.Sets.{missing}
use Rattle.gql_schema.specs.Table.{types_of}
use Rattle.gql_schema.proofs.ReachLemmas.{NeedsWalk, all_needed}
use Rattle.gql_schema.proofs.containment.reaches_itself.Given as goal

abbrev pub invariant-walk : goal.invariant-walk
invariant-walk l = NeedsWalk (types_of l.types) l.start l.reached l.next

abbrev pub decreases-walk : goal.decreases-walk
decreases-walk l = (missing bytes_eq (all_needed (types_of l.types)) l.reached + length l.reached) - l.next
