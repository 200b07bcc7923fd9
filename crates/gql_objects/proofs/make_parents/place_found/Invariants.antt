use Rattle.std.proofs.Common.{◌≡◌, ◌++◌, map}
use Rattle.std.specs.List.{flat_map}
use Rattle.std.specs.Vec.Iter.{into_iter_items}
use Rattle.gql_select.specs.Collected.{own_selections}
use Rattle.gql_objects.specs.ObjectLevels.{AreBeneath}
use Rattle.gql_collect.specs.Groups.{united}
use Rattle.gql_objects.specs.Parents.{jobs_of_standing, spot_found, standing_at, standing_behind}
use Rattle.gql_objects.specs.Tasks.{jobs_in}
use Rattle.gql_objects.proofs.make_parents.place_found.Given as goal

abbrev pub invariant-loop-one : goal.invariant-loop-one
invariant-loop-one g l = record {
  levels : AreBeneath l.node l.levels;
  parents : map standing_behind l.parents.items
      ++ map (standing_at l.node.basis (own_selections (united l.node.group))) (map spot_found (into_iter_items l.one-iterator))
      ≡ map (standing_at l.node.basis (own_selections (united l.node.group))) (map spot_found l.fn.found.items);
  tasks : jobs_in l.tasks.items
      ++ flat_map jobs_of_standing (map (standing_at l.node.basis (own_selections (united l.node.group)))
      (map spot_found (into_iter_items l.one-iterator)))
      ≡ jobs_in l.initial.tasks.items
      ++ flat_map jobs_of_standing (map (standing_at l.node.basis (own_selections (united l.node.group)))
      (map spot_found l.fn.found.items));
}
