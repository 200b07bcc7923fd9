-- What a resolver of a bench answers to a call, by its rule.
use Rattle.std.specs.Prelude.{ℕ, ℤ, List, Option, None, Result}
use Rattle.gql_base.specs.declared.error.Error.{Error}
use Rattle.gql_resolve.specs.declared.field_value.FieldValue.{FieldValue}

-- what an answer comes with: a value, or none; or an error
abbrev pub Outcome : Type 0
Outcome = Result (Option (FieldValue ℤ)) Error

-- an error that tells nothing but its message
abbrev pub plain_error : List ℕ → Error
plain_error message = record { message = message; extensions = None }
