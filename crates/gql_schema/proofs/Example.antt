-- A small table of types, for rows that are computed.
use Rattle.std.proofs.Common.{ℕ, pos, Bool, true, false, List, [], ◌∷◌, codes, Option, Some, None}
use Rattle.gql_base.specs.declared.type_ref.TypeRef.{TypeRef}
use Rattle.gql_base.specs.declared.type_ref.TypeRef.TheVariants as refs
use Rattle.gql_base.specs.declared.value.Value.{Value}
use Rattle.gql_base.specs.declared.value.Value.TheVariants as values
use Rattle.gql_schema.specs.Scalar.{new_scalar}
use Rattle.gql_schema.specs.TableReading.{TypeTable}
use Rattle.gql_schema.specs.declared.field.Field.{Field}
use Rattle.gql_schema.specs.declared.input_value.InputValue.{InputValue}
use Rattle.gql_schema.specs.declared.interface_field.InterfaceField.{InterfaceField}
use Rattle.gql_schema.specs.declared.scalar_rule.ScalarRule.{ScalarRule}
use Rattle.gql_schema.specs.declared.scalar_rule.ScalarRule.TheVariants as rules
use Rattle.gql_schema.specs.declared.schema_type.SchemaType.{SchemaType}
use Rattle.gql_schema.specs.declared.schema_type.SchemaType.TheVariants as types

abbrev pub named : List ℕ → TypeRef
named name = refs.Named name

abbrev pub needed : List ℕ → TypeRef
needed name = refs.NonNull (refs.Named name)

abbrev pub number : ℕ → Value
number n = values.Number (pos n)

-- an argument, or a field of an input object, under its name
abbrev pub input : List ℕ → TypeRef → Option Value → List ℕ × InputValue
input name ty default = (name, record { name = name; ty = ty; default = default })

abbrev pub a_field : List ℕ → TypeRef → List (List ℕ × InputValue) → List ℕ × Field
a_field name ty arguments = (name, record { name = name; ty = ty; resolver = 0; arguments = arguments })

abbrev pub a_promise : List ℕ → TypeRef → List (List ℕ × InputValue) → List ℕ × InterfaceField
a_promise name ty arguments = (name, record { name = name; ty = ty; arguments = arguments })

abbrev pub an_object : List ℕ → List (List ℕ × Field) → List (List ℕ) → SchemaType
an_object name fields interfaces = types.Object (record { name = name; fields = fields; interfaces = interfaces; keys = [] })

abbrev pub an_interface : List ℕ → List (List ℕ × InterfaceField) → SchemaType
an_interface name fields = types.Interface (record { name = name; fields = fields })

abbrev pub a_union : List ℕ → List (List ℕ) → SchemaType
a_union name members = types.Union (record { name = name; members = members })

abbrev pub an_input : List ℕ → List (List ℕ × InputValue) → Bool → SchemaType
an_input name fields oneof = types.InputObject (record { name = name; fields = fields; oneof = oneof })

abbrev pub a_scalar : List ℕ → ScalarRule → List ℕ × SchemaType
a_scalar name rule = (name, types.Scalar (new_scalar name rule))

abbrev pub an_enum : List ℕ → List (List ℕ) → SchemaType
an_enum name items = types.Enum (record { name = name; items = items })

-- a scalar of each rule, an enum, an input object, one of which a value has one member, and an object with what has it
abbrev pub example : TypeTable
example =
    a_scalar (codes "Any") rules.Any ∷ a_scalar (codes "Boolean") rules.Bool ∷ a_scalar (codes "Int") rules.Int ∷ a_scalar (codes "String") rules.Text
    ∷ a_scalar (codes "ID") rules.Id ∷ a_scalar (codes "Day") (rules.IntBetween (pos 1) (pos 31))
    ∷ a_scalar (codes "Side") (rules.OneOf (codes "left" ∷ codes "right" ∷ []))
    ∷ (codes "E", an_enum (codes "E") (codes "A" ∷ []))
    ∷ (codes "In", an_input (codes "In") (input (codes "a") (needed (codes "Int")) None ∷ input (codes "b") (needed (codes "Int")) (Some (number 1)) ∷ []) false)
    ∷ (codes "One", an_input (codes "One") (input (codes "a") (named (codes "Int")) None ∷ input (codes "b") (named (codes "Int")) None ∷ []) true)
    ∷ (codes "O", an_object (codes "O") (a_field (codes "f") (named (codes "Int")) [] ∷ []) (codes "I" ∷ []))
    ∷ (codes "P", an_object (codes "P") (a_field (codes "f") (named (codes "Int")) [] ∷ []) [])
    ∷ (codes "I", an_interface (codes "I") (a_promise (codes "f") (named (codes "Int")) [] ∷ []))
    ∷ (codes "U", a_union (codes "U") (codes "P" ∷ codes "O" ∷ [])) ∷ []
