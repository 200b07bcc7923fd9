-- Why a value is no value of an input type.
use Rattle.std.specs.Prelude.{ℕ, List, ◌++◌, Option, None, codes, if◌then◌else◌}
use Rattle.std.specs.Str.{bytes_eq}
use Rattle.gql_base.specs.Json.{literal}
use Rattle.gql_base.specs.declared.value.Value.{Value}
use Rattle.gql_input.specs.declared.input_value_error.InputValueError.{InputValueError}

-- why a value is refused: the message, and the extensions beside it
pub record Refusal : Type 0 where
  pub message : List ℕ
  pub extensions : Option (List (List ℕ × Value))

-- a refusal without extensions
abbrev pub plain : List ℕ → Refusal
plain message = record { message = message; extensions = None }

abbrev pub message_of : {T : Type 0} → InputValueError T → List ℕ
message_of error = error.message

abbrev pub extensions_of : {T : Type 0} → InputValueError T → Option (List (List ℕ × Value))
extensions_of error = error.extensions

-- that a value isn't of the type of a name
abbrev pub expected_text : List ℕ → Value → List ℕ
expected_text name actual = codes "Expected input type \""
    ++ (name ++ (codes "\", found " ++ (literal actual ++ codes ".")))

-- that a value of the type of a name is refused for a reason
abbrev pub custom_text : List ℕ → List ℕ → List ℕ
custom_text name reason = codes "Failed to parse \"" ++ (name ++ (codes "\": " ++ reason))

-- a message once it is told of another type: a type of the same name changes nothing
abbrev pub propagated : List ℕ → List ℕ → List ℕ → List ℕ
propagated name other message =
    if bytes_eq name other
    then message else message ++ (codes " (occurred while parsing \"" ++ (other ++ codes "\")"))
