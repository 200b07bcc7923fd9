use Rattle.std.proofs.Common.{◌≡◌, None, map, take}
use Rattle.gql_input.specs.EnumType.{item_pair, name_of_item}
use Rattle.gql_input.proofs.enum_type.name_for.Given as goal

abbrev pub invariant-loop-item : goal.invariant-loop-item
invariant-loop-item g l = name_of_item g.T.PartialEq.eq l.value (take l.item-index (map item_pair l.items)) ≡ None
