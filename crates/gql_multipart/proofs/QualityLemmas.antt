-- Digits, one after another.
use Rattle.std.proofs.Common.{◌≡◌, ◌∙◌, ℕ, ◌+◌, ◌-◌, ◌*◌, ◌/◌, Bool, true, false, ◌&&◌, List, [], ◌∷◌, cond}
use Rattle.std.proofs.Common.{Some, None, refl, sym, ap, arith, nat_lt, lit<, lt-ltb}
use Rattle.std.specs.Char.{is_ascii_digit}
use Rattle.std.specs.Option.{option_map}
use Rattle.gql_multipart.specs.Quality.{DigitThen, decimals}

-- a digit counts as itself
pub digit_then : (text rest : List ℕ) (c : ℕ) → text ≡ c ∷ rest → is_ascii_digit c ≡ true →
    DigitThen text (c - 48) rest
digit_then text rest c e digit weight positive =
    ap (decimals weight) e
    ∙ ap (λ b. cond b (option_map (λ n. weight * (c - 48) + n) (decimals (weight / 10) rest)) None)
    (ap (λ b. b && is_ascii_digit c) (lt-ltb 0 weight positive) ∙ digit)

-- anything else is no digit
pub no_digit : (text rest : List ℕ) (c : ℕ) → text ≡ c ∷ rest → is_ascii_digit c ≡ false →
    (weight : ℕ) → decimals weight text ≡ None
no_digit text rest c e other weight =
    ap (decimals weight) e
    ∙ ap (λ b. cond b (option_map (λ n. weight * (c - 48) + n) (decimals (weight / 10) rest)) None)
    (ap (λ b. nat_lt 0 weight && b) other ∙ and_false (nat_lt 0 weight))
  where
    and_false : (b : Bool) → (b && false) ≡ false
    and_false true = refl
    and_false false = refl

-- nothing counts as a zero
pub end_then : (text : List ℕ) → text ≡ [] → DigitThen text 0 text
end_then text e weight positive =
    ap (decimals weight) e
    ∙ (ap Some zero_more ∙ sym (ap (λ t. option_map (λ n. weight * 0 + n) (decimals (weight / 10) t)) e))
  where
    zero_more : 0 ≡ weight * 0 + 0
    zero_more = omega arith

-- one digit, and then what is after it
pub first_digit : (text one : List ℕ) (a : ℕ) → DigitThen text a one →
    decimals 100 text ≡ option_map (λ n. 100 * a + n) (decimals 10 one)
first_digit text one a h = h 100 (lit< tt)

-- two digits
pub two_digits : (text one two : List ℕ) (a b : ℕ) → DigitThen text a one → DigitThen one b two →
    decimals 100 text
    ≡ option_map (λ n. 100 * a + n) (option_map (λ n. 10 * b + n) (decimals 1 two))
two_digits text one two a b h k =
    first_digit text one a h ∙ ap (option_map (λ n. 100 * a + n)) (k 10 (lit< tt))

-- three digits
pub three_digits : (text one two three : List ℕ) (a b c : ℕ) →
    DigitThen text a one → DigitThen one b two → DigitThen two c three →
    decimals 100 text
    ≡ option_map (λ n. 100 * a + n) (option_map (λ n. 10 * b + n)
    (option_map (λ n. 1 * c + n) (decimals 0 three)))
three_digits text one two three a b c h k m =
    two_digits text one two a b h k
    ∙ ap (λ o. option_map (λ n. 100 * a + n) (option_map (λ n. 10 * b + n) o)) (m 1 (lit< tt))

-- three digits and nothing more
pub three_alone : (text one two three : List ℕ) (a b c : ℕ) →
    DigitThen text a one → DigitThen one b two → DigitThen two c three → three ≡ [] →
    Some (100 * a + 10 * b + c) ≡ decimals 100 text
three_alone text one two three a b c h k m e =
    ap Some total
    ∙ sym (three_digits text one two three a b c h k m
    ∙ ap (λ t. option_map (λ n. 100 * a + n) (option_map (λ n. 10 * b + n)
    (option_map (λ n. 1 * c + n) (decimals 0 t)))) e)
  where
    total : 100 * a + 10 * b + c ≡ 100 * a + (10 * b + (1 * c + 0))
    total = omega arith

-- three digits and something more
pub three_and_more : (text one two three rest : List ℕ) (a b c d : ℕ) →
    DigitThen text a one → DigitThen one b two → DigitThen two c three → three ≡ d ∷ rest →
    None ≡ decimals 100 text
three_and_more text one two three rest a b c d h k m e =
    sym (three_digits text one two three a b c h k m
    ∙ ap (λ t. option_map (λ n. 100 * a + n) (option_map (λ n. 10 * b + n)
    (option_map (λ n. 1 * c + n) (decimals 0 t)))) e)

pub ruleset one_digit = (digit_then, no_digit, end_then)

pub ruleset digits = (first_digit, two_digits, three_alone, three_and_more)
