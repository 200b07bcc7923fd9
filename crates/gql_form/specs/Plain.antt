-- Texts, names, numbers and truth values in JSON.
use Rattle.std.specs.Prelude.{ℕ, ℤ, Bool, List, [], Option, Some, None, Ok, Err, nat_le}
use Rattle.std.specs.Prelude.{if◌then◌else◌, option_and_then}
use Rattle.serde_json.specs.Data.{Data}
use Rattle.serde_json.specs.Find.{as_str, as_number, as_u64, as_i64, as_bool}
use Rattle.gql_base.specs.Letters.{is_name}
use Rattle.gql_base.specs.ReadJson.{Reading, and_then}

-- what is read next, once this one is there
infixl 10 ◌>>=◌
abbrev pub ◌>>=◌ : {A B : Type 0} → Reading A → (A → Reading B) → Reading B
reading >>= next = and_then reading next

-- what has to be there; without it this place is bad
abbrev pub needed : {A : Type 0} → Option A → Reading A
needed None = Err []
needed (Some found) = Ok found

-- a text
abbrev pub text_of : Data → Reading (List ℕ)
text_of json = needed (as_str json)

-- a GraphQL name
abbrev pub name_of : Data → Reading (List ℕ)
name_of json = do
  text ← text_of json
  if is_name text then Ok text else Err []

-- a whole number from 0 to 2^64-1
abbrev pub count_of : Data → Reading ℕ
count_of json = needed (option_and_then as_u64 (as_number json))

-- a whole number from -2^63 to 2^63-1
abbrev pub signed_of : Data → Reading ℤ
signed_of json = needed (option_and_then as_i64 (as_number json))

-- a whole number from 0 to a limit
abbrev pub count_within : ℕ → Data → Reading ℕ
count_within limit json = do
  count ← count_of json
  if nat_le count limit then Ok count else Err []

-- a truth value
abbrev pub truth_of : Data → Reading Bool
truth_of json = needed (as_bool json)
