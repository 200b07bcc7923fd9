use Rattle.std.proofs.Common.{◌≡◌, ◌++◌, length, map}
use Rattle.std.specs.Vec.Iter.{into_iter_items}
use Rattle.gql_objects.specs.Parents.{spot_found}
use Rattle.gql_objects.specs.Paths.{path_of}
use Rattle.gql_complete.specs.FoundObjects.{bare, numbered, spots}
use Rattle.gql_objects.proofs.find_objects.+store.Given as goal

abbrev pub invariant-store_items-loop-item : goal.invariant-store_items-loop-item
invariant-store_items-loop-item g l = record {
  bare : l.left ++ map bare (into_iter_items l.item-iterator) ≡ map bare l.fn.items;
  path : l.path.items ≡ l.initial.path.items;
  found : map spot_found l.found.items
      ++ numbered (length l.left) (map spots (into_iter_items l.item-iterator)) (path_of l.initial.path.items)
      ≡ map spot_found l.initial.found.items ++ numbered 0 (map spots l.fn.items) (path_of l.initial.path.items);
}
