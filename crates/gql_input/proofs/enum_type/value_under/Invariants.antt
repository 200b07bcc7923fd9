use Rattle.std.proofs.Common.{◌≡◌, None, map, take}
use Rattle.gql_base.specs.Pairs.{under}
use Rattle.gql_input.specs.EnumType.{item_pair}
use Rattle.gql_input.proofs.enum_type.value_under.Given as goal

abbrev pub invariant-loop-item : goal.invariant-loop-item
invariant-loop-item g l = under l.name (take l.item-index (map item_pair l.items)) ≡ None
