-- Numbers of the types of a table, by which input objects are known not to contain themselves.
use Rattle.std.specs.Prelude.{◌≡◌, ℕ, ◌≤◌, Bool, true, List, Option, Some, None, nat_le}
use Rattle.std.specs.Prelude.{slice_index}
use Rattle.std.specs.List.{list_all}
use Rattle.gql_base.specs.Names.{place_of}
use Rattle.gql_base.specs.Pairs.{names_of}
use Rattle.gql_schema.specs.InputObject.{input_fields}
use Rattle.gql_schema.specs.NameSet.{is_among}
use Rattle.gql_schema.specs.Sound.{needed_by, needed_name}
use Rattle.gql_schema.specs.TableReading.{TypeTable}
use Rattle.gql_schema.specs.declared.input_object.InputObject.{InputObject}
use Rattle.gql_schema.specs.declared.input_value.InputValue.{InputValue}
use Rattle.gql_schema.specs.declared.schema_type.SchemaType.{SchemaType}
use Rattle.gql_schema.specs.declared.schema_type.SchemaType.TheVariants as types

-- the number at a place, and 0 where there is none
abbrev pub rank_at : List ℕ → Option ℕ → ℕ
rank_at ranks None = 0
rank_at ranks (Some place) = slice_index ranks place

-- the number of the type of a name
abbrev pub rank_of : TypeTable → List ℕ → List ℕ → ℕ
rank_of table ranks name = rank_at ranks (place_of name (names_of table))

-- whether a name, if there is one, has at most this number
abbrev pub is_low : TypeTable → List ℕ → ℕ → Option (List ℕ) → Bool
is_low table ranks most None = true
is_low table ranks most (Some name) = nat_le (rank_of table ranks name) most

abbrev pub is_low_field : TypeTable → List ℕ → ℕ → List ℕ × InputValue → Bool
is_low_field table ranks most field = is_low table ranks most (needed_name field)

abbrev pub has_low_fields : TypeTable → List ℕ → ℕ → InputObject → Bool
has_low_fields table ranks most input =
    list_all (is_low_field table ranks most) (input_fields input)

-- whether all that an input object can't do without has at most this number
abbrev pub needs_low : TypeTable → List ℕ → ℕ → Option SchemaType → Bool
needs_low table ranks most (Some (types.InputObject input)) = has_low_fields table ranks most input
needs_low table ranks most _ = true

abbrev pub is_ranked : TypeTable → List ℕ → List ℕ × SchemaType → Bool
is_ranked table ranks (name, ty) = needs_low table ranks (rank_of table ranks name) (Some ty)

-- no input object needs one of a higher number than its own
abbrev pub AreRanks : TypeTable → List ℕ → Type 0
AreRanks table ranks =
    (from to : List ℕ) → is_among to (needed_by table from) ≡ true
    → rank_of table ranks to ≤ rank_of table ranks from
