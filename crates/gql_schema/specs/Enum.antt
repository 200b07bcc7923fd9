-- What an enum shows: its name, and its items in the order in which they were added.
use Rattle.std.specs.Prelude.{ℕ, List}
use Rattle.gql_schema.specs.NameSet.{with_name}
use Rattle.gql_schema.specs.declared.enum_.Enum.{Enum}

abbrev pub enum_name : Enum → List ℕ
enum_name enum_type = enum_type.name

abbrev pub items_of : Enum → List (List ℕ)
items_of enum_type = enum_type.items

-- the same with one more; one that is there changes nothing
abbrev pub with_item : Enum → List ℕ → Enum
with_item enum_type name = record enum_type { items = with_name enum_type.items name }
