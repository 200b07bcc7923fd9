-- Sums of arguments.
use Rattle.std.specs.Prelude.{ℕ, ◌^◌, ℤ, pos, negsuc, ◌+ℤ◌, Bool, List, [], ◌∷◌, codes, Option}
use Rattle.std.specs.Prelude.{Some, None, Ok, Err, nat_lt, option_and_then}
use Rattle.std.specs.Prelude.{if◌then◌else◌}
use Rattle.gql_base.specs.Kinds.{members_of_value, number_of}
use Rattle.gql_base.specs.Pairs.{under}
use Rattle.gql_base.specs.declared.value.Value.{Value}
use Rattle.gql_base.specs.declared.value.Value.TheVariants as values
use Rattle.gql_form.specs.declared.path.Path.{Path}
use Rattle.gql_resolve.specs.declared.field_value.FieldValue.TheVariants as given
use Rattle.gql_bench.specs.Outcome.{Outcome, plain_error}

-- whether a number lies from -2^63 to 2^63-1
abbrev pub is_i64 : ℤ → Bool
is_i64 (pos n) = nat_lt n (2 ^ 63)
is_i64 (negsuc n) = nat_lt n (2 ^ 63)

-- the number itself, where it lies there
abbrev pub within_i64 : ℤ → Option ℤ
within_i64 number = if is_i64 number then Some number else None

-- the whole number from -2^63 to 2^63-1 that a value is
abbrev pub signed_of : Value → Option ℤ
signed_of value = option_and_then within_i64 (number_of value)

-- such a number at a path of names inside a value: each name but the last leads into an object
abbrev pub number_in : List (List ℕ) → Value → Option ℤ
number_in [] value = signed_of value
number_in (name ∷ names) value =
    option_and_then (number_in names) (under name (members_of_value value))

-- such a number among the arguments, which are the members that the first name leads into
abbrev pub number_at : List (List ℕ × Value) → Path → Option ℤ
number_at arguments path = number_in path.names (values.Object arguments)

-- the sum of the numbers at these paths on top of a total, where there is such a number at each
abbrev pub sum_behind : List (List ℕ × Value) → ℤ → List Path → Option ℤ
sum_behind arguments total [] = Some total
sum_behind arguments total (path ∷ paths) =
    option_and_then (λ number. sum_behind arguments (total +ℤ number) paths)
    (number_at arguments path)

-- what a whole sum gives: its number, where that lies from -2^63 to 2^63-1
abbrev pub whole_sum : ℤ → Outcome
whole_sum total =
    if is_i64 total then Ok (Some (given.Value (values.Number total)))
    else Err (plain_error (codes "overflow"))

-- the same of a sum; there is none where an argument is no such number
abbrev pub sum_told : Option ℤ → Outcome
sum_told None = Err (plain_error (codes "internal: not an signed integer"))
sum_told (Some total) = whole_sum total

-- what the sum of the arguments at these paths gives
abbrev pub sum_outcome : List Path → List (List ℕ × Value) → Outcome
sum_outcome paths arguments = sum_told (sum_behind arguments (pos 0) paths)
