use Rattle.std.proofs.Common.{◌≡◌, ◌+◌, length, drop}
use Rattle.std.specs.Vec.Iter.{into_iter_items}
use Rattle.gql_base.specs.Pairs.{names_of, unite_all, values_of}
use Rattle.gql_place.specs.Join.{join, join_items}
use Rattle.gql_place.proofs.JoinStepLemmas.{IsJoining, IsUniting}
use Rattle.gql_place.proofs.WeightLemmas.{items_weight, members_weight, tree_weight, weight}
use Rattle.gql_place.proofs.joining.+join.Given as goal

abbrev pub invariant-join_members-loop-index : goal.invariant-join_members-loop-index
invariant-join_members-loop-index l = record {
  uniting : IsUniting (unite_all join l.initial.members l.fn.others) (names_of l.fn.others) l.index (into_iter_items l.places) l.members;
  left : into_iter_items l.places ≡ drop l.index (values_of l.fn.others);
}

abbrev pub invariant-join_each-loop-index : goal.invariant-join_each-loop-index
invariant-join_each-loop-index l = record {
  joining : IsJoining (join_items l.initial.items l.fn.others) l.index (into_iter_items l.others) l.items;
  long : length l.items ≡ length l.initial.items;
  left : into_iter_items l.others ≡ drop l.index l.fn.others;
}

abbrev pub decreases-join_onto : goal.decreases-join_onto
decreases-join_onto l = weight l.second

abbrev pub decreases-join_tree : goal.decreases-join_tree
decreases-join_tree l = tree_weight l.second

abbrev pub decreases-join_object : goal.decreases-join_object
decreases-join_object l = 2 + members_weight l.others

abbrev pub decreases-join_members : goal.decreases-join_members
decreases-join_members l = 1 + members_weight l.others

abbrev pub decreases-join_list : goal.decreases-join_list
decreases-join_list l = 2 + items_weight l.others

abbrev pub decreases-join_each : goal.decreases-join_each
decreases-join_each l = 1 + items_weight l.others
