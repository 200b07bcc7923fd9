-- Quality values (RFC 9110, section 12.4.2), in thousandths.
use Rattle.std.specs.Prelude.{◌≡◌, ℕ, ◌+◌, ◌-◌, ◌*◌, ◌/◌, ◌<◌, ◌==◌, ◌&&◌, nat_lt, nat_le, List}
use Rattle.std.specs.Prelude.{[], ◌∷◌, Option, Some, None, if◌then◌else◌}
use Rattle.std.specs.Option.{option_map, unwrap_or}
use Rattle.std.specs.Char.{is_ascii_digit}
use Rattle.gql_multipart.specs.Step.{◌>>=◌}

-- `0` or `1`
abbrev pub whole : ℕ → Option ℕ
whole c = if c == 48 then Some 0 else (if c == 49 then Some 1000 else None)

-- digits, of which each counts a tenth of the one before it, as long as that is anything
abbrev pub decimals : ℕ → List ℕ → Option ℕ
decimals weight [] = Some 0
decimals weight (c ∷ cs) =
    if nat_lt 0 weight && is_ascii_digit c
    then option_map (λ n. weight * (c - 48) + n) (decimals (weight / 10) cs)
    else None

-- a text counts as a digit, and then as the rest of it
abbrev pub DigitThen : List ℕ → ℕ → List ℕ → Type 0
DigitThen text digit rest =
    (weight : ℕ) → 0 < weight
    → decimals weight text ≡ option_map (λ n. weight * digit + n) (decimals (weight / 10) rest)

-- nothing, or `.` and at most three digits
abbrev pub fraction : List ℕ → Option ℕ
fraction [] = Some 0
fraction (c ∷ cs) = if c == 46 then decimals 100 cs else None

-- the number that a text spells, at most 1
unfoldable pub thousandths : List ℕ → Option ℕ
thousandths [] = None
thousandths (c ∷ cs) = do
  units ← whole c
  part ← fraction cs
  if nat_le (units + part) 1000 then Some (units + part) else None

-- the quality of a value: 1 where it's spelled in any other way
abbrev pub quality : List ℕ → ℕ
quality value = unwrap_or (thousandths value) 1000
