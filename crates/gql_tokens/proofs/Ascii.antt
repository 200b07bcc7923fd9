-- Numbers, punctuators and names are written in ASCII.
use Rattle.std.proofs.Common.{◌≡◌, ℕ, ◌<◌, Bool, true, nat_lt, List, [], ◌∷◌, refl, sym, inl, inr, arith, ltb-true, encode_utf8_all}
use Rattle.std.specs.Char.{is_ascii_digit}
use Rattle.std.specs.Str.{IsAscii}
use Rattle.std.proofs.lemmas.Bool.Decides.{nat_tests}
use Rattle.std.proofs.lemmas.Str.Ascii.{IsAscii-nil, IsAscii-cons, encodes-IsAscii}
use Rattle.gql_tokens.specs.declared.token.Punctuator.{Punctuator}
use Rattle.gql_tokens.specs.declared.token.Punctuator.TheVariants as punctuators
use Rattle.gql_base.specs.Letters.{is_name_part}
use Rattle.gql_tokens.specs.Name.{IsName}
use Rattle.gql_tokens.specs.Number.{IsDigits, IsWhole, IsInteger, IsFraction, IsPower, IsExponent, IsFloatPart, Optional, begins_exponent, is_sign}
use Rattle.gql_tokens.specs.Token.{characters_of}
use Rattle.gql_tokens.specs.Parts.{IsNumeral}
use Rattle.gql_tokens.proofs.Lists.{Each, each_same, each_weaker, each_append}
use Rattle.gql_tokens.proofs.NameLaws.{name_parts}

abbrev pub is_small : ℕ → Bool
is_small c = nat_lt c 128

digit_small : (c : ℕ) → is_ascii_digit c ≡ true → nat_lt c 128 ≡ true
digit_small c h = grind (arith, nat_tests)

exponent_small : (c : ℕ) → begins_exponent c ≡ true → nat_lt c 128 ≡ true
exponent_small c h = grind (arith, nat_tests)

sign_small : (c : ℕ) → is_sign c ≡ true → nat_lt c 128 ≡ true
sign_small c h = grind (arith, nat_tests)

part_small : (c : ℕ) → is_name_part c ≡ true → nat_lt c 128 ≡ true
part_small c h = grind (arith, nat_tests)

digits_small : (cs : List ℕ) → IsDigits cs → Each is_small cs
digits_small cs h = each_weaker is_ascii_digit is_small cs digit_small h.1

whole_small : (cs : List ℕ) → IsWhole cs → Each is_small cs
whole_small cs (inl e) = each_same is_small (sym e) (refl, tt)
whole_small cs (inr h) = digits_small cs h.0

pub integer_small : (cs : List ℕ) → IsInteger cs → Each is_small cs
integer_small cs (inl h) = whole_small cs h
integer_small cs (inr h) = each_same is_small (sym h.1) (refl, whole_small h.0 h.2)

fraction_small : (cs : List ℕ) → Optional IsFraction cs → Each is_small cs
fraction_small cs (inl e) = each_same is_small (sym e) tt
fraction_small cs (inr h) = each_same is_small (sym h.1) (refl, digits_small h.0 h.2)

power_small : (cs : List ℕ) → IsPower cs → Each is_small cs
power_small cs (inl h) = digits_small cs h
power_small cs (inr (sign, digits, is, sign_is, h)) = each_same is_small (sym is) (sign_small sign sign_is, digits_small digits h)

exponent_all_small : (cs : List ℕ) → Optional IsExponent cs → Each is_small cs
exponent_all_small cs (inl e) = each_same is_small (sym e) tt
exponent_all_small cs (inr (e, power, is, begins_e, h)) = each_same is_small (sym is) (exponent_small e begins_e, power_small power h)

float_part_small : (cs : List ℕ) → IsFloatPart cs → Each is_small cs
float_part_small cs h = each_same is_small (sym h.2) (each_append is_small h.0 h.1 (fraction_small h.0 h.3) (exponent_all_small h.1 h.4))

-- a number is written in ASCII
pub numeral_small : (cs : List ℕ) → IsNumeral cs → Each is_small cs
numeral_small cs h = each_same is_small (sym h.2) (each_append is_small h.0 h.1 (integer_small h.0 h.3) (float_part_small h.1 h.4))

-- so is a name
pub name_small : (cs : List ℕ) → IsName cs → Each is_small cs
name_small cs h = each_weaker is_name_part is_small cs part_small (name_parts cs h)

-- so is a punctuator
pub punctuator_small : (p : Punctuator) → Each is_small (characters_of p)
punctuator_small punctuators.Bang = (refl, tt)
punctuator_small punctuators.Dollar = (refl, tt)
punctuator_small punctuators.Ampersand = (refl, tt)
punctuator_small punctuators.OpenParen = (refl, tt)
punctuator_small punctuators.CloseParen = (refl, tt)
punctuator_small punctuators.Spread = (refl, (refl, (refl, tt)))
punctuator_small punctuators.Colon = (refl, tt)
punctuator_small punctuators.Equals = (refl, tt)
punctuator_small punctuators.At = (refl, tt)
punctuator_small punctuators.OpenBracket = (refl, tt)
punctuator_small punctuators.CloseBracket = (refl, tt)
punctuator_small punctuators.OpenBrace = (refl, tt)
punctuator_small punctuators.Pipe = (refl, tt)
punctuator_small punctuators.CloseBrace = (refl, tt)

-- a punctuator of one character
pub mark_small : (p : Punctuator) (c : ℕ) → characters_of p ≡ c ∷ [] → c < 128
mark_small p c e = ltb-true c 128 (each_same is_small e (punctuator_small p)).0

all_ascii : (cs : List ℕ) → Each is_small cs → IsAscii cs
all_ascii [] small = IsAscii-nil
all_ascii (c ∷ cs) small = IsAscii-cons c cs (ltb-true c 128 small.0) (all_ascii cs small.1)

-- ASCII is its own UTF-8
pub small_bytes : (cs : List ℕ) → Each is_small cs → encode_utf8_all cs ≡ cs
small_bytes cs small = encodes-IsAscii cs (all_ascii cs small)
