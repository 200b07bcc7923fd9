use Rattle.std.proofs.Common.{◌≡◌, ◌++◌, map, Some}
use Rattle.std.specs.Vec.Iter.{into_iter_items}
use Rattle.gql_meaning.specs.Completion.{completed}
use Rattle.gql_resolve.specs.declared.field_value.FieldValue.TheVariants as kind
use Rattle.gql_schema.specs.Table.{types_of}
use Rattle.gql_complete.proofs.complete_value.+complete.Given as goal

abbrev pub invariant-complete_each-loop-item : goal.invariant-complete_each-loop-item
invariant-complete_each-loop-item g l =
    l.shapes ++ map (λ item. completed (types_of l.known.types.now) l.inner (Some item)) (into_iter_items l.item-iterator)
    ≡ map (λ item. completed (types_of l.known.types.now) l.inner (Some item)) l.fn.items

abbrev pub invariant-complete_each_value-loop-item : goal.invariant-complete_each_value-loop-item
invariant-complete_each_value-loop-item g l =
    l.shapes ++ map (λ item. completed (types_of l.known.types.now) l.inner (Some (kind.Value item))) (into_iter_items l.item-iterator)
    ≡ map (λ item. completed (types_of l.known.types.now) l.inner (Some (kind.Value item))) l.fn.items
