-- What the iterators of accessors have left to give.
use Rattle.std.specs.Prelude.{ℕ, List, drop}
use Rattle.gql_base.specs.declared.value.Value.{Value}
use Rattle.gql_base.specs.Pairs.{names_of, values_of}
use Rattle.gql_input.specs.declared.iterators.Members.{Members}
use Rattle.gql_input.specs.declared.iterators.Keys.{Keys}
use Rattle.gql_input.specs.declared.iterators.Values.{Values}
use Rattle.gql_input.specs.declared.iterators.ListItems.{ListItems}

abbrev pub members_left : Members → List (List ℕ × Value)
members_left members = drop members.place members.members.now

abbrev pub keys_left : Keys → List (List ℕ)
keys_left keys = names_of (members_left keys.members)

abbrev pub values_left : Values → List Value
values_left values = values_of (members_left values.members)

abbrev pub items_left : ListItems → List Value
items_left items = items.items.now
