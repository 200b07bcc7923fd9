-- What values give at an input type.
use Rattle.std.specs.Prelude.{◌≡◌, ℕ, ℤ, List, Option, Some, None, Result, Ok, Err}
use Rattle.std.specs.Prelude.{if◌then◌else◌, option_and_then}
use Rattle.std.specs.Option.{ok_or, unwrap_or}
use Rattle.gql_base.specs.Kinds.{is_null, number_of}
use Rattle.gql_base.specs.Number.{int32_of}
use Rattle.gql_base.specs.declared.value.Value.{Value}
use Rattle.gql_base.specs.declared.value.Value.TheVariants as value
use Rattle.gql_input.specs.declared.input_value_error.InputValueError.{InputValueError}
use Rattle.gql_input.specs.InputValueError.{Refusal, expected_text, extensions_of, message_of}
use Rattle.gql_input.specs.InputValueError.{plain}

-- that a reading gave what is due: the value, or an error that tells the refusal, no extension more
-- and none less
abbrev pub IsReading : {T : Type 0} → Result T Refusal → Result T (InputValueError T) → Type 0
IsReading (Ok due) (Ok read) = read ≡ due
IsReading (Ok due) (Err error) = ⊥
IsReading (Err refusal) (Ok read) = ⊥
IsReading (Err refusal) (Err error) =
    (message_of error ≡ refusal.message) × (extensions_of error ≡ refusal.extensions)

-- an absent value is read as null
abbrev pub or_null : Option Value → Value
or_null given = unwrap_or given value.Null

-- what a value gives at the type of a name whose values are those of one kind
abbrev pub read_as : {T : Type 0} → (Value → Option T) → List ℕ → Option Value → Result T Refusal
read_as kind name given = ok_or (kind (or_null given)) (plain (expected_text name (or_null given)))

-- the number where it has 32 bits with its sign
abbrev pub small_number_of : Value → Option ℤ
small_number_of given = option_and_then int32_of (number_of given)

abbrev pub some_read : {T : Type 0} → Result T Refusal → Result (Option T) Refusal
some_read (Ok read) = Ok (Some read)
some_read (Err refusal) = Err refusal

-- what a value gives at a type to which null belongs beside the values of another
abbrev pub read_nullable : {T : Type 0} → (Option Value → Result T Refusal) → Option Value
    → Result (Option T) Refusal
read_nullable read None = Ok None
read_nullable read (Some given) = if is_null given then Ok None else some_read (read (Some given))

-- the value that stands for one that may be missing
abbrev pub shown_or_null : {T : Type 0} → (T → Value) → Option T → Value
shown_or_null shown None = value.Null
shown_or_null shown (Some held) = shown held
