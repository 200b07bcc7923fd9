use Rattle.std.proofs.Common.{◌+◌}
use Rattle.std.specs.Vec.Iter.{into_iter_items}
use Rattle.gql_place.proofs.RaisingLemmas.{IsRaising}
use Rattle.gql_place.proofs.WeightLemmas.{items_weight, members_weight, tree_weight, weight}
use Rattle.gql_place.proofs.raising.+raise.Given as goal

abbrev pub invariant-values_in-loop-place : goal.invariant-values_in-loop-place
invariant-values_in-loop-place l = IsRaising l.fn.places.items l.values.items (into_iter_items l.place-iterator)

abbrev pub decreases-value_at : goal.decreases-value_at
decreases-value_at l = weight l.place

abbrev pub decreases-tree_value : goal.decreases-tree_value
decreases-tree_value l = tree_weight l.tree

abbrev pub decreases-member_values : goal.decreases-member_values
decreases-member_values l = 2 + members_weight l.members

abbrev pub decreases-values_in : goal.decreases-values_in
decreases-values_in l = 1 + items_weight l.places.items
