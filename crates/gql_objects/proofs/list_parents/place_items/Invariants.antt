use Rattle.std.proofs.Common.{◌≡◌, ◌++◌, length, map}
use Rattle.std.specs.List.{flat_map}
use Rattle.std.specs.Vec.Iter.{into_iter_items}
use Rattle.gql_objects.specs.ListParents.{items_standing}
use Rattle.gql_objects.specs.Parents.{jobs_of_standing, standing_behind}
use Rattle.gql_objects.specs.Tasks.{jobs_in}
use Rattle.gql_objects.proofs.list_parents.place_items.Given as goal

abbrev pub invariant-loop-item : goal.invariant-loop-item
invariant-loop-item g l = record {
  parents : map standing_behind l.parents.items ++ items_standing l.shared (length l.parents.items) (into_iter_items l.item-iterator)
      ≡ items_standing l.shared 0 l.fn.items;
  tasks : jobs_in l.tasks.items ++ flat_map jobs_of_standing
      (items_standing l.shared (length l.parents.items) (into_iter_items l.item-iterator))
      ≡ jobs_in l.initial.tasks.items ++ flat_map jobs_of_standing (items_standing l.shared 0 l.fn.items);
}
