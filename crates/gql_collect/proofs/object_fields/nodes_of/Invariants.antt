use Rattle.std.proofs.Common.{◌≡◌, ◌++◌, map}
use Rattle.std.specs.Vec.Iter.{into_iter_items}
use Rattle.gql_collect.specs.Groups.{united}
use Rattle.gql_collect.specs.Levels.{asked_behind, asked_of}
use Rattle.gql_collect.specs.Nesting.{AllNest}
use Rattle.gql_collect.proofs.object_fields.nodes_of.Given as goal

abbrev pub invariant-loop-group : goal.invariant-loop-group
invariant-loop-group l = record {
  nest : AllNest l.basis.env.now (map united (into_iter_items l.group-iterator));
  nodes : map asked_behind l.nodes.items ++ map (asked_of l.basis l.object) (map united (into_iter_items l.group-iterator))
      ≡ map (asked_of l.basis l.object) (map united l.fn.groups.items);
}
