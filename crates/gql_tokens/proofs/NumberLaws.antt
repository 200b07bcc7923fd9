-- Numbers.
use Rattle.std.proofs.Common.{◌≡◌, ℕ, ◌+◌, ◌<◌, ◌≤◌, Bool, true, false, ◌||◌, ◌==◌, ◌⊎◌, List, [], ◌∷◌, ◌++◌, refl, sym, ap, ◌∙◌, inl, inr, arith, append_assoc, Some, None, take, drop, length, take-add, drop_at, length-drop, length-append, subst, one-add, suc, get_or, ◌-◌, ◌*◌, fold, le_refl, take-append-drop, Option}
use Rattle.std.proofs.lemmas.List.Sums.{fold-append}
use Rattle.std.proofs.lemmas.List.{take_rest, drop_more}
use Rattle.std.specs.Char.{is_ascii_digit}
use Rattle.std.specs.List.{prefix_len}
use Rattle.std.proofs.lemmas.List.Sums.{prefix_len-le-length}
use Rattle.std.proofs.lemmas.Bool.Decides.{nat_tests}
use Rattle.std.proofs.lemmas.Bool.{false_from_ne_true}
use Rattle.gql_tokens.specs.Characters.{minus, full_stop, begins}
use Rattle.gql_tokens.specs.Number.{IsDigits, IsWhole, IsInteger, IsFraction, IsPower, IsExponent, IsFloatPart, IsFloat, Optional, begins_exponent, is_bad_after_number, natural_of}
use Rattle.gql_tokens.specs.Parts.{OnlyFront, is_bad_after_fraction, IsNumeral, IsNumeralAt}
use Rattle.gql_tokens.proofs.Lists.{tail_is, Each, each_same, each_back, each_weaker, run_begins, run_passes, run_length}

-- what an integer is written with
unfoldable pub of_integer : ℕ → Bool
of_integer c = is_ascii_digit c || c == minus

-- what a float has beyond its integer
of_float : ℕ → Bool
of_float c = c == full_stop || begins_exponent c

float_not_integer : (c : ℕ) → of_float c ≡ true → of_integer c ≡ true → ⊥
unfolding of_float of_integer
float_not_integer c h i = grind (arith, nat_tests)

digit_of_integer : (c : ℕ) → is_ascii_digit c ≡ true → of_integer c ≡ true
unfolding of_integer
digit_of_integer c h = grind (arith, nat_tests)

whole_of_integer : (cs : List ℕ) → IsWhole cs → Each of_integer cs
unfolding of_integer
whole_of_integer cs (inl e) = each_same _ (sym e) (refl, tt)
whole_of_integer cs (inr h) = each_weaker _ _ cs digit_of_integer h.0.1

pub integer_of_integer : (cs : List ℕ) → IsInteger cs → Each of_integer cs
unfolding of_integer
integer_of_integer cs (inl h) = whole_of_integer cs h
integer_of_integer cs (inr h) = each_same _ (sym h.1) (refl, whole_of_integer h.0 h.2)

-- a fraction or an exponent begins with what no integer is written with
float_part_begins : (cs : List ℕ) → IsFloatPart cs → (cs ≡ []) ⊎ (begins of_float cs ≡ true)
unfolding of_float
float_part_begins cs (f, e, is, inl no_f, inl no_e) = inl (is ∙ ap (λ l. l ++ e) no_f ∙ no_e)
float_part_begins cs (f, e, is, inl no_f, inr h) =
    inr (ap (begins of_float) (is ∙ ap (λ l. l ++ e) no_f ∙ h.2) ∙ (let k = h.3 in grind (arith, nat_tests)))
float_part_begins cs (f, e, is, inr h, k) = inr (ap (begins of_float) (is ∙ ap (λ l. l ++ e) h.1))

pub integer_not_float : (cs : List ℕ) → IsInteger cs → IsFloat cs → ⊥
integer_not_float cs h k = go k.1 k.5 (float_part_begins k.1 k.4) (each_back _ k.0 k.1 (each_same _ k.2 (integer_of_integer cs h)))
  where
    go : (part : List ℕ) → (part ≡ [] → ⊥) → (part ≡ []) ⊎ (begins of_float part ≡ true) → Each of_integer part → ⊥
    go part some (inl none) all = some none
    go [] some (inr b) all = let no : false ≡ true = b in cc
    go (c ∷ cs) some (inr b) all = float_not_integer c b all.0

-- one form and then another
abbrev pub Sequence : (List ℕ → Type 0) → (List ℕ → Type 0) → List ℕ → Type 0
Sequence First Second cs = (first : List ℕ) × (second : List ℕ) × (cs ≡ first ++ second) × First first × Second second

-- what may stand behind the first form, where the second stands there and nothing bad after it
abbrev pub Follows : (List ℕ → Type 0) → (ℕ → Bool) → (ℕ → Bool) → Type 0
Follows Second between bad = (cs rest : List ℕ) → Second cs → begins bad rest ≡ false → begins between (cs ++ rest) ≡ false

module _ (First Second : List ℕ → Type 0) (between bad : ℕ → Bool) (follows : Follows Second between bad) where
  pub sequence_none : (text : List ℕ) → OnlyFront First between text None → OnlyFront (Sequence First Second) bad text None
  sequence_none text h cs rest e k ends =
      h k.0 (k.1 ++ rest) (e ∙ ap (λ l. l ++ rest) k.2 ∙ append_assoc k.0 k.1 rest) k.3 (follows k.1 rest k.4 ends)

  -- where a front of both begins with the only front of the first form, one of the second begins what is left
  second_left : (text : List ℕ) (n : ℕ) → OnlyFront First between text (Some n) → (cs rest : List ℕ) → text ≡ cs ++ rest
      → (k : Sequence First Second cs) → begins bad rest ≡ false → (length k.0 ≡ n) × (drop n text ≡ k.1 ++ rest)
  second_left text n h cs rest e k ends =
      let whole = e ∙ ap (λ l. l ++ rest) k.2 ∙ append_assoc k.0 k.1 rest in
      let same = h.2 k.0 (k.1 ++ rest) whole k.3 (follows k.1 rest k.4 ends) in
      (same, ap (drop n) whole ∙ drop_at k.0 (k.1 ++ rest) n same)

  pub sequence_some : (text : List ℕ) (n m : ℕ) → OnlyFront First between text (Some n) → OnlyFront Second bad (drop n text) (Some m)
      → OnlyFront (Sequence First Second) bad text (Some (n + m))
  sequence_some text n m h k = (
    omega (arith, length-drop n text, h.0, k.0),
    (take n text, take m (drop n text), take-add n m text, h.1, k.1),
    λ cs rest e w ends.
        let (first, left) = second_left text n h cs rest e w ends in
        let second = k.2 w.1 rest left w.4 ends in
        omega (arith, ap length w.2, length-append w.0 w.1),
  )

  pub sequence_then_none : (text : List ℕ) (n : ℕ) → OnlyFront First between text (Some n) → OnlyFront Second bad (drop n text) None
      → OnlyFront (Sequence First Second) bad text None
  sequence_then_none text n h k cs rest e w ends = k w.1 rest (second_left text n h cs rest e w ends).1 w.4 ends

-- digits that no digit follows are all digits at the front
pub digits_only : (text : List ℕ) (cs rest : List ℕ) → text ≡ cs ++ rest → IsDigits cs → begins is_ascii_digit rest ≡ false
    → length cs ≡ prefix_len is_ascii_digit text
digits_only text cs rest e h ends = sym (ap (prefix_len is_ascii_digit) e ∙ run_length is_ascii_digit cs rest h.1 ends)

-- the digits that a text begins with
pub digits_some : (text : List ℕ) (n : ℕ) → n ≡ prefix_len is_ascii_digit text → (n ≡ 0 → ⊥) → OnlyFront IsDigits is_ascii_digit text (Some n)
digits_some text n e some =
    subst (λ k. OnlyFront IsDigits is_ascii_digit text (Some k)) (sym e) (
      prefix_len-le-length is_ascii_digit text,
      (run_begins is_ascii_digit text (λ z. some (e ∙ z)), run_passes is_ascii_digit text),
      digits_only text,
    )

pub digit_bad : (c : ℕ) → is_ascii_digit c ≡ true → is_bad_after_number c ≡ true
digit_bad c h = grind (arith, nat_tests)

pub exponent_bad : (c : ℕ) → begins_exponent c ≡ true → is_bad_after_number c ≡ true
exponent_bad c h = grind (arith, nat_tests)

-- what isn't bad is less
pub fewer : (p q : ℕ → Bool) → ((c : ℕ) → p c ≡ true → q c ≡ true) → (cs : List ℕ) → begins q cs ≡ false → begins p cs ≡ false
fewer p q f [] h = refl
fewer p q f (c ∷ cs) h = false_from_ne_true (p c) (λ e. let k = f c e in cc)

-- an exponent's power stands after its `e`
pub exponent_some : (e : ℕ) (power : List ℕ) (n : ℕ) → begins_exponent e ≡ true → OnlyFront IsPower is_ascii_digit power (Some n)
    → OnlyFront (Optional IsExponent) is_bad_after_number (e ∷ power) (Some (1 + n))
exponent_some e power n h k = rw one-add (
  omega (arith, k.0),
  inr (e, take n power, refl, h, k.1),
  λ cs rest is form ends. go cs rest is form ends,
)
  where
    go : (cs rest : List ℕ) → e ∷ power ≡ cs ++ rest → Optional IsExponent cs → begins is_bad_after_number rest ≡ false → length cs ≡ suc n
    go cs rest is (inl none) ends =
        let bad = exponent_bad e h in
        let good = ap (begins is_bad_after_number) (is ∙ ap (λ l. l ++ rest) none) ∙ ends in cc
    go cs rest is (inr w) ends =
        ap length w.2 ∙ ap suc (k.2 w.1 rest (tail_is (is ∙ ap (λ l. l ++ rest) w.2)) w.4 (fewer is_ascii_digit is_bad_after_number digit_bad rest ends))

pub exponent_at : (text : List ℕ) (n : ℕ) → 1 ≤ length text → begins_exponent (get_or text 0 0) ≡ true
    → OnlyFront IsPower is_ascii_digit (take (length text - 1) (drop 1 text)) (Some n) → OnlyFront (Optional IsExponent) is_bad_after_number text (Some (1 + n))
exponent_at [] n some h k = absurd (omega arith)
exponent_at (c ∷ power) n some h k = exponent_some c power n h (subst (λ l. OnlyFront IsPower is_ascii_digit l (Some n)) (take_rest (c ∷ power) 1) k)

fraction_bad : (c : ℕ) → is_bad_after_fraction c ≡ true → is_bad_after_number c ≡ true
fraction_bad c h = grind (arith, nat_tests)

exponent_no_fraction : (c : ℕ) → begins_exponent c ≡ true → is_bad_after_fraction c ≡ false
exponent_no_fraction c h = grind (arith, nat_tests)

-- after a fraction stands an exponent or what may follow a number
pub exponent_follows : Follows (Optional IsExponent) is_bad_after_fraction is_bad_after_number
exponent_follows cs rest (inl none) ends = ap (λ l. begins is_bad_after_fraction (l ++ rest)) none ∙ fewer is_bad_after_fraction is_bad_after_number fraction_bad rest ends
exponent_follows cs rest (inr h) ends = ap (λ l. begins is_bad_after_fraction (l ++ rest)) h.2 ∙ exponent_no_fraction h.0 h.3

pub fraction_digit : (c : ℕ) → is_ascii_digit c ≡ true → is_bad_after_fraction c ≡ true
fraction_digit c h = grind (arith, nat_tests)

-- after an integer stands a fraction, an exponent or what may follow a number
pub part_follows : Follows IsFloatPart is_ascii_digit is_bad_after_number
part_follows cs rest (fraction, exponent, is, inl none, k) ends =
    let exponent_is : cs ≡ exponent = is ∙ ap (λ l. l ++ exponent) none in
    fewer is_ascii_digit is_bad_after_fraction fraction_digit (cs ++ rest)
    (ap (λ l. begins is_bad_after_fraction (l ++ rest)) exponent_is ∙ exponent_follows exponent rest k ends)
part_follows cs rest (fraction, exponent, is, inr h, k) ends = ap (λ l. begins is_ascii_digit (l ++ rest)) (is ∙ ap (λ l. l ++ exponent) h.1)

-- digits after a number make it no smaller
natural-le-fold : (n : ℕ) (digits : List ℕ) → n ≤ fold (λ m c. 10 * m + (c - 48)) n digits
natural-le-fold n [] = le_refl n
natural-le-fold n (c ∷ digits) = let h = natural-le-fold (10 * n + (c - 48)) digits in omega arith

-- the number that a front and one more digit write is at most the whole one
pub natural_more : (digits : List ℕ) (i : ℕ) → i < length digits → 10 * natural_of (take i digits) + (get_or digits i 0 - 48) ≤ natural_of digits
natural_more digits i h =
    let step = λ (n d : ℕ). 10 * n + (d - 48) in
    let whole = sym (ap (fold step 0) (take-append-drop i digits ∙ refl)) ∙ fold-append step 0 (take i digits) (drop i digits) ∙ ap (fold step (natural_of (take i digits))) (drop_more digits i 0 h) in
    let grows = natural-le-fold (10 * natural_of (take i digits) + (get_or digits i 0 - 48)) (drop (i + 1) digits) in
    omega arith

-- the slice after the first characters
pub left_is : (Form : List ℕ → Type 0) (bad : ℕ → Bool) (text : List ℕ) (n : ℕ) (found : Option ℕ)
    → OnlyFront Form bad (take (length text - n) (drop n text)) found → OnlyFront Form bad (drop n text) found
left_is Form bad text n found h = subst (λ l. OnlyFront Form bad l found) (take_rest text n) h

pub part_some : (text : List ℕ) (n m : ℕ) → OnlyFront (Optional IsFraction) is_bad_after_fraction text (Some n)
    → OnlyFront (Optional IsExponent) is_bad_after_number (take (length text - n) (drop n text)) (Some m) → OnlyFront IsFloatPart is_bad_after_number text (Some (n + m))
part_some text n m h k =
    sequence_some (Optional IsFraction) (Optional IsExponent) is_bad_after_fraction is_bad_after_number exponent_follows text n m h
    (left_is (Optional IsExponent) is_bad_after_number text n (Some m) k)

pub part_none : (text : List ℕ) (n : ℕ) → OnlyFront (Optional IsFraction) is_bad_after_fraction text (Some n)
    → OnlyFront (Optional IsExponent) is_bad_after_number (take (length text - n) (drop n text)) None → OnlyFront IsFloatPart is_bad_after_number text None
part_none text n h k =
    sequence_then_none (Optional IsFraction) (Optional IsExponent) is_bad_after_fraction is_bad_after_number exponent_follows text n h
    (left_is (Optional IsExponent) is_bad_after_number text n None k)

-- where no integer begins a text, no number does
pub no_integer : (text : List ℕ) → OnlyFront IsInteger is_ascii_digit text None → OnlyFront IsNumeral is_bad_after_number text None
no_integer text h = sequence_none IsInteger IsFloatPart is_ascii_digit is_bad_after_number part_follows text h

pub no_part : (text : List ℕ) (n : ℕ) → OnlyFront IsInteger is_ascii_digit text (Some n)
    → OnlyFront IsFloatPart is_bad_after_number (take (length text - n) (drop n text)) None → OnlyFront IsNumeral is_bad_after_number text None
no_part text n h k =
    sequence_then_none IsInteger IsFloatPart is_ascii_digit is_bad_after_number part_follows text n h (left_is IsFloatPart is_bad_after_number text n None k)

module _ (text : List ℕ) (n m : ℕ) (h : OnlyFront IsInteger is_ascii_digit text (Some n))
    (k : OnlyFront IsFloatPart is_bad_after_number (take (length text - n) (drop n text)) (Some m)) where
  numeral_some : OnlyFront IsNumeral is_bad_after_number text (Some (n + m))
  numeral_some =
      sequence_some IsInteger IsFloatPart is_ascii_digit is_bad_after_number part_follows text n m h (left_is IsFloatPart is_bad_after_number text n (Some m) k)

  -- a number that nothing bad follows
  pub numeral_found : begins is_bad_after_number (drop (n + m) text) ≡ false → IsNumeralAt text n m
  numeral_found ends = record {
    within = numeral_some.0;
    integer_is = h.1;
    part_is = (left_is IsFloatPart is_bad_after_number text n (Some m) k).1;
    ends = ends;
  }

  -- a number that something bad follows is none
  pub numeral_bad : begins is_bad_after_number (drop (n + m) text) ≡ true → OnlyFront IsNumeral is_bad_after_number text None
  numeral_bad bad cs rest e form ends =
      let same = numeral_some.2 cs rest e form ends in
      let left = ap (begins is_bad_after_number) (ap (drop (n + m)) e ∙ drop_at cs rest (n + m) same) in cc
