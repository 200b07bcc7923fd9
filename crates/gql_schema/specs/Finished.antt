-- What finishing a table gives.
use Rattle.std.specs.Prelude.{◌≡◌, ℕ, Bool, ◌||◌, false, List, codes, length, take, Result, Ok, Err}
use Rattle.std.specs.Prelude.{IfOk}
use Rattle.std.specs.Str.{bytes_eq}
use Rattle.gql_base.specs.Pairs.{under, names_of}
use Rattle.gql_schema.specs.Sound.{IsFirstRefusal, IsSound}
use Rattle.gql_schema.specs.Table.{types_of}
use Rattle.gql_schema.specs.TableReading.{TypeTable}
use Rattle.gql_schema.specs.declared.schema_error.SchemaError.{SchemaError}
use Rattle.gql_schema.specs.declared.types.Types.{Types}

-- a table that is finished is sound; another gives its first refusal
abbrev pub IsFinished : TypeTable → Result Types SchemaError → Type 0
IsFinished table (Ok types) = (types_of types ≡ table) × IsSound table
IsFinished table (Err error) = IsFirstRefusal table error

-- whether this is the name of a scalar that every schema has
abbrev pub is_built_in : List ℕ → Bool
is_built_in name =
    bytes_eq name (codes "Int") || bytes_eq name (codes "String") || bytes_eq name (codes "Boolean")
    || bytes_eq name (codes "ID")

-- a finished table: each name keeps its place, and under each but those of the scalars stands what
-- stood there
pub record KeepsOthers (table finished : TypeTable) : Type 0 where
  pub places : take (length table) (names_of finished) ≡ names_of table
  pub types : (name : List ℕ) → is_built_in name ≡ false → under name finished ≡ under name table

-- where a table is finished, it keeps what it had
abbrev pub KeepsTypes : TypeTable → Result Types SchemaError → Type 0
KeepsTypes table finished = IfOk finished (λ types. KeepsOthers table (types_of types))
