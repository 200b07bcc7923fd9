-- Numbers (GraphQL, October 2021, sections 2.9.1 and 2.9.2).
use Rattle.std.specs.Prelude.{◌≡◌, ◌≢◌, ℕ, ◌+◌, ◌*◌, ◌-◌, ◌^◌, Bool, true, false, ◌||◌, ◌⊎◌, List}
use Rattle.std.specs.Prelude.{[], ◌∷◌}
use Rattle.std.specs.Prelude.{◌++◌, ◌==◌, if◌then◌else◌, ℤ, pos, negsuc, neg_ℤ, ◌≤ℤ◌, ◌<ℤ◌, fold}
use Rattle.std.specs.Char.{is_ascii_digit}
use Rattle.std.specs.List.{AllByRecursion}
use Rattle.gql_base.specs.Letters.{is_name_start}
use Rattle.gql_tokens.specs.Characters.{plus, minus, full_stop, digit_zero, begins}

-- one digit or more
abbrev pub IsDigits : List ℕ → Type 0
IsDigits cs = (begins is_ascii_digit cs ≡ true) × AllByRecursion (λ c. is_ascii_digit c ≡ true) cs

-- `0`, or digits of which the first isn't `0`
abbrev pub IsWhole : List ℕ → Type 0
IsWhole cs = (cs ≡ digit_zero ∷ []) ⊎ (IsDigits cs × (begins (λ c. c == digit_zero) cs ≡ false))

-- an optional `-`, and then a whole number
abbrev pub IsInteger : List ℕ → Type 0
IsInteger cs = IsWhole cs ⊎ ((digits : List ℕ) × (cs ≡ minus ∷ digits) × IsWhole digits)

-- `.` and digits
abbrev pub IsFraction : List ℕ → Type 0
IsFraction cs = (digits : List ℕ) × (cs ≡ full_stop ∷ digits) × IsDigits digits

-- `e` or `E`
abbrev pub begins_exponent : ℕ → Bool
begins_exponent c = c == 101 || c == 69

-- `+` or `-`
abbrev pub is_sign : ℕ → Bool
is_sign c = c == plus || c == minus

-- an optional sign, and digits
abbrev pub IsPower : List ℕ → Type 0
IsPower cs =
    IsDigits cs
    ⊎ ((sign : ℕ) × (digits : List ℕ) × (cs ≡ sign ∷ digits) × (is_sign sign ≡ true)
    × IsDigits digits)

-- `e` or `E`, and a power of ten
abbrev pub IsExponent : List ℕ → Type 0
IsExponent cs =
    (e : ℕ) × (power : List ℕ) × (cs ≡ e ∷ power) × (begins_exponent e ≡ true) × IsPower power

-- nothing, or something of this form
abbrev pub Optional : (List ℕ → Type 0) → List ℕ → Type 0
Optional Form cs = (cs ≡ []) ⊎ Form cs

-- a fraction, an exponent, both, or none
abbrev pub IsFloatPart : List ℕ → Type 0
IsFloatPart cs =
    (fraction : List ℕ) × (exponent : List ℕ) × (cs ≡ fraction ++ exponent)
    × Optional IsFraction fraction
    × Optional IsExponent exponent

-- an integer with a fraction, an exponent or both
abbrev pub IsFloat : List ℕ → Type 0
IsFloat cs =
    (integer : List ℕ) × (part : List ℕ) × (cs ≡ integer ++ part) × IsInteger integer
    × IsFloatPart part × (part ≢ [])

-- what may not follow a number: a digit, `.` and a name's first character
abbrev pub is_bad_after_number : ℕ → Bool
is_bad_after_number c = (is_ascii_digit c || c == full_stop) || is_name_start c

-- the number that digits write
abbrev pub natural_of : List ℕ → ℕ
natural_of digits = fold (λ n c. 10 * n + (c - digit_zero)) 0 digits

-- the number that an integer's characters write
abbrev pub integer_of : List ℕ → ℤ
integer_of [] = pos 0
integer_of (c ∷ cs) = if c == minus then neg_ℤ (pos (natural_of cs)) else pos (natural_of (c ∷ cs))

-- the numbers that are supported: from -2^63 to 2^64-1
abbrev pub IsSupported : ℤ → Type 0
IsSupported n = (negsuc (2 ^ 63 - 1) ≤ℤ n) × (n <ℤ pos (2 ^ 64))
