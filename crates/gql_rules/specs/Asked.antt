-- What a request asks for beside its document.
use Rattle.std.specs.Prelude.{ℕ, List, Option}
use Rattle.gql_base.specs.declared.value.Value.{Value}

-- the variables that a request gives, and the name of the operation that it asks for, if any
pub record Asked : Type 0 where
  pub variables : List (List ℕ × Value)
  pub name : Option (List ℕ)

abbrev pub asking : List (List ℕ × Value) → Option (List ℕ) → Asked
asking variables name = record { variables = variables; name = name }
