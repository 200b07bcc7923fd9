-- What the place of a value shows.
use Rattle.gql_rules.specs.VariableUses.{ValuePlace}
use Rattle.gql_rules.specs.declared.value_place.ValuePlace as value_place

-- its type, and whether it has a default
abbrev pub value_place_behind : value_place.ValuePlace → ValuePlace
value_place_behind place = record { ty = place.ty.now; has_default = place.has_default }
