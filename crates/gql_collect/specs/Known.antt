-- The types that stand under names in a table, where they were looked up.
use Rattle.std.specs.Prelude.{◌≡◌, ℕ, true, List, Option, None, Some, refl}
use Rattle.std.specs.Borrow.{Bor}
use Rattle.std.specs.Coded.{Coded, Coded-set, code_by}
use Rattle.std.specs.Option.{option_copied}
use Rattle.gql_base.specs.Pairs.{under}
use Rattle.gql_base.specs.TypeRef.{innermost}
use Rattle.gql_schema.specs.Table.{types_of}
use Rattle.gql_schema.specs.declared.schema_type.SchemaType.{SchemaType}
use Rattle.gql_schema.specs.declared.types.Types.{Types}
use Rattle.gql_collect.specs.Asks.{is_call, type_in}
use Rattle.gql_collect.specs.declared.asks.Asks.{Asks}

-- this is what stands under a name of a table, if anything
abbrev pub IsUnder : Types → List ℕ → Option (Bor SchemaType) → Type 0
IsUnder types name ty = option_copied ty ≡ under name (types_of types)

-- this is what stands under the innermost name of the type of what is asked, where that is an
-- answer
abbrev pub IsOfAsked : Types → Asks → Option (Bor SchemaType) → Type 0
IsOfAsked types asks ty = is_call asks ≡ true → IsUnder types (innermost (type_in asks)) ty

module _ {T : Type 0} where
  -- a value, if any, behind a reference that points nowhere
  abbrev pointed : Option T → Option (Bor T)
  pointed None = None
  pointed (Some x) = Some (record { ref_ptr = (0, 0); now = x })

  -- that value is there
  copied_pointed : (x : Option T) → option_copied (pointed x) ≡ x
  copied_pointed None = refl
  copied_pointed (Some x) = refl

  -- values are equal in one way alone, where there is a code of those behind references
  pub copied_set : Coded (Option (Bor T)) → {x y : Option T} → IsProp (x ≡ y)
  copied_set code {x} {y} =
      Coded-set (code_by (Option (Bor T)) code pointed option_copied copied_pointed) x y
