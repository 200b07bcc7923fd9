-- What accessors read.
use Rattle.std.specs.Prelude.{ℕ, List}
use Rattle.gql_base.specs.declared.value.Value.{Value}
use Rattle.gql_input.specs.declared.value_accessor.ValueAccessor.{ValueAccessor}
use Rattle.gql_input.specs.declared.object_accessor.ObjectAccessor.{ObjectAccessor}
use Rattle.gql_input.specs.declared.list_accessor.ListAccessor.{ListAccessor}

abbrev pub value_behind : ValueAccessor → Value
value_behind accessor = accessor.value.now

-- the members of an object under their names, in their order
abbrev pub members_behind : ObjectAccessor → List (List ℕ × Value)
members_behind accessor = accessor.members.now

abbrev pub items_behind : ListAccessor → List Value
items_behind accessor = accessor.items.now
