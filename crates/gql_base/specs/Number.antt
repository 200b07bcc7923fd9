-- Whole numbers as two of their readings, and as a sign and a distance.
use Rattle.std.specs.Prelude.{◌≡◌, ℕ, ℤ, pos, negsuc, ◌^◌, ◌-◌, ◌&&◌, Bool, true, false, Option}
use Rattle.std.specs.Prelude.{Some, None, int_le, if◌then◌else◌}
use Rattle.std.proofs.Common.{refl}

-- the number itself where it isn't negative
abbrev pub unsigned_of : ℤ → Option ℕ
unsigned_of (pos n) = Some n
unsigned_of (negsuc n) = None

-- whether a number is one of those from the first to the second
abbrev pub is_between : ℤ → ℤ → ℤ → Bool
is_between least most number = int_le least number && int_le number most

-- the whole numbers of 32 bits with a sign, which are those of the type Int (GraphQL, October 2021,
-- section 3.5.1)
abbrev pub is_int32 : ℤ → Bool
is_int32 = is_between (negsuc (2 ^ 31 - 1)) (pos (2 ^ 31 - 1))

-- the number itself where it is one of these
abbrev pub int32_of : ℤ → Option ℤ
int32_of number = if is_int32 number then Some number else None

-- the number this far above 0, or, of the negative ones, this far under -1
abbrev pub signed : Bool → ℕ → ℤ
signed true distance = negsuc distance
signed false distance = pos distance

-- and back: whether a number is negative, and how far it is from 0 or from -1
abbrev pub is_negative : ℤ → Bool
is_negative (pos n) = false
is_negative (negsuc n) = true

abbrev pub distance_of : ℤ → ℕ
distance_of (pos n) = n
distance_of (negsuc n) = n

pub sign_back : (negative : Bool) (distance : ℕ) → is_negative (signed negative distance) ≡ negative
sign_back true distance = refl
sign_back false distance = refl

pub distance_back : (negative : Bool) (distance : ℕ)
    → distance_of (signed negative distance) ≡ distance
distance_back true distance = refl
distance_back false distance = refl
