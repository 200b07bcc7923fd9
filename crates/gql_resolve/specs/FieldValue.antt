-- What a resolver gives, as one of its kinds.
use Rattle.std.specs.Prelude.{List, Option, Some, None}
use Rattle.gql_base.specs.declared.value.Value.{Value}
use Rattle.gql_resolve.specs.declared.field_value.FieldValue.{FieldValue, out-FieldValue}
use Rattle.gql_resolve.specs.declared.field_value.FieldValue.TheOpen.{FieldValue-F}

module _ {V : Type 0} where
  abbrev pub value_here : FieldValue-F V (FieldValue V) → Option Value
  value_here (FieldValue-F.Value value) = Some value
  value_here (FieldValue-F.Own own) = None
  value_here (FieldValue-F.List items) = None
  value_here (FieldValue-F.WithType value ty) = None

  -- the value
  abbrev pub value_in : FieldValue V → Option Value
  value_in given = value_here (out-FieldValue V given)

  abbrev pub own_here : FieldValue-F V (FieldValue V) → Option V
  own_here (FieldValue-F.Value value) = None
  own_here (FieldValue-F.Own own) = Some own
  own_here (FieldValue-F.List items) = None
  own_here (FieldValue-F.WithType value ty) = None

  -- the resolver's own value
  abbrev pub own_in : FieldValue V → Option V
  own_in given = own_here (out-FieldValue V given)

  abbrev pub items_here : FieldValue-F V (FieldValue V) → Option (List (FieldValue V))
  items_here (FieldValue-F.Value value) = None
  items_here (FieldValue-F.Own own) = None
  items_here (FieldValue-F.List items) = Some items
  items_here (FieldValue-F.WithType value ty) = None

  -- the items of a list
  abbrev pub items_in : FieldValue V → Option (List (FieldValue V))
  items_in given = items_here (out-FieldValue V given)
