-- Enums whose values names stand for.
use Rattle.std.specs.Prelude.{◌≡◌, ℕ, Bool, true, false, List, [], ◌∷◌, ◌++◌, map, Option, Some, None, Result, Ok, Err, codes}
use Rattle.std.specs.Prelude.{if◌then◌else◌}
use Rattle.std.specs.List.{Contains}
use Rattle.std.specs.Option.{ok_or}
use Rattle.gql_base.specs.Kinds.{enum_name_of}
use Rattle.gql_base.specs.Pairs.{under}
use Rattle.gql_base.specs.declared.value.Value.{Value}
use Rattle.gql_input.specs.declared.enum_type.EnumItem.{EnumItem}
use Rattle.gql_input.specs.InputValueError.{Refusal, custom_text, expected_text, plain}

-- an item as its name and its value
abbrev pub item_pair : {T : Type 0} → EnumItem T → List ℕ × T
item_pair item = (item.name.now, item.value)

-- the name of the first item whose value a test calls the same
abbrev pub name_of_item : {T : Type 0} → (T → T → Bool) → T → List (List ℕ × T) → Option (List ℕ)
name_of_item same value [] = None
name_of_item same value (p ∷ ps) = if same p.1 value then Some p.0 else name_of_item same value ps

abbrev pub no_item_text : List ℕ → List ℕ
no_item_text name = codes "Enumeration type does not contain value \"" ++ (name ++ codes "\".")

-- what a name gives at an enum, or why it gives nothing
abbrev pub read_item : {T : Type 0} → List ℕ → List (List ℕ × T) → List ℕ → Result T Refusal
read_item type_name listed name =
    ok_or (under name listed) (plain (custom_text type_name (no_item_text name)))

abbrev pub read_name : {T : Type 0} → List ℕ → List (List ℕ × T) → Value → Option (List ℕ)
    → Result T Refusal
read_name type_name listed value None = Err (plain (expected_text type_name value))
read_name type_name listed value (Some name) = read_item type_name listed name

-- what a value gives at an enum of a name and items
abbrev pub read_enum : {T : Type 0} → List ℕ → List (List ℕ × T) → Value → Result T Refusal
read_enum type_name listed value = read_name type_name listed value (enum_name_of value)

-- that each reading of a value at the items gives one that a test calls the same as an item's
abbrev pub IsReadBack : {T : Type 0} → (T → T → Bool) → List (List ℕ × T) → T → Value → Type 0
IsReadBack same listed item value = (type_name : List ℕ)
    → (read : _) × (read_enum type_name listed value ≡ Ok read) × (same read item ≡ true)

-- that each reading of a value at the items gives this one
abbrev pub IsReadAs : {T : Type 0} → List (List ℕ × T) → T → Value → Type 0
IsReadAs listed item value = (type_name : List ℕ) → read_enum type_name listed value ≡ Ok item

-- the values that the names of items stand for
abbrev pub values_of : {T : Type 0} → List (List ℕ × T) → List T
values_of listed = map (λ item. item.1) listed

-- that a test calls no two of a list the same
abbrev pub AreApart : {T : Type 0} → (T → T → Bool) → List T → Type 0
AreApart same [] = Unit {0}
AreApart same (x ∷ xs) =
    ((y : _) → Contains xs y → (same x y ≡ false) × (same y x ≡ false)) × AreApart same xs
