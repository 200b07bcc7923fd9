use Rattle.std.proofs.Common.{◌≡◌, ◌++◌, map}
use Rattle.std.specs.Vec.Iter.{into_iter_items}
use Rattle.gql_place.specs.Alike.{SameItems}
use Rattle.gql_place.specs.Pieces.{members_in, places_in}
use Rattle.gql_complete.specs.FillShape.{all_trees, left_after_all}
use Rattle.gql_complete.proofs.fill_shape.+fill.Given as goal

abbrev pub invariant-fill_items-loop-item : goal.invariant-fill_items-loop-item
invariant-fill_items-loop-item l = record {
  places : SameItems l.whole (places_in l.pieces ++ all_trees l.pos l.non_null (into_iter_items l.item-iterator) (map members_in l.members.items))
      (all_trees l.pos l.non_null l.fn.items (map members_in l.initial.members.items));
  left : left_after_all l.pos (into_iter_items l.item-iterator) (map members_in l.members.items)
      ≡ left_after_all l.pos l.fn.items (map members_in l.initial.members.items);
}
