-- A number goes on only with what may not follow one.
use Rattle.std.proofs.Common.{◌≡◌, ℕ, Bool, true, ◌||◌, ◌==◌, ◌⊎◌, List, [], ◌∷◌, ◌++◌, refl, sym, ap, ◌∙◌, inl, inr, arith, append_assoc, append-nil, subst}
use Rattle.std.specs.Char.{is_ascii_digit}
use Rattle.std.proofs.lemmas.Bool.Decides.{nat_tests}
use Rattle.gql_tokens.specs.Characters.{minus, full_stop}
use Rattle.gql_tokens.specs.Number.{IsDigits, IsWhole, IsInteger, IsFraction, IsPower, IsExponent, IsFloatPart, Optional, begins_exponent, is_bad_after_number}
use Rattle.gql_tokens.specs.Parts.{IsNumeral}
use Rattle.gql_tokens.proofs.Lists.{head_is, tail_is, Each, each_same, each_weaker}

-- what a number is written with beside signs
of_numeral : ℕ → Bool
of_numeral c = (is_ascii_digit c || c == full_stop) || begins_exponent c

numeral_is_bad : (c : ℕ) → of_numeral c ≡ true → is_bad_after_number c ≡ true
unfolding of_numeral
numeral_is_bad c h = grind (arith, nat_tests)

digit_of_numeral : (c : ℕ) → is_ascii_digit c ≡ true → of_numeral c ≡ true
unfolding of_numeral
digit_of_numeral c h = grind (arith, nat_tests)

exponent_of_numeral : (c : ℕ) → begins_exponent c ≡ true → of_numeral c ≡ true
unfolding of_numeral
exponent_of_numeral c h = grind (arith, nat_tests)

digit_no_exponent : (c : ℕ) → is_ascii_digit c ≡ true → begins_exponent c ≡ true → ⊥
digit_no_exponent c h k = grind (arith, nat_tests)

-- after the character `before` a sign stands after `e` alone
abbrev SignsBehind : ℕ → List ℕ → Type 0
SignsBehind before [] = Unit {0}
SignsBehind before (c ∷ cs) = ((of_numeral c ≡ true) ⊎ (begins_exponent before ≡ true)) × SignsBehind c cs

signs_append : (a b : List ℕ) (p : ℕ) → Each of_numeral a → ((q : ℕ) → SignsBehind q b) → SignsBehind p (a ++ b)
signs_append [] b p h k = k p
signs_append (c ∷ a) b p h k = (inl h.0, signs_append a b c h.1 k)

signs_each : (cs : List ℕ) (p : ℕ) → Each of_numeral cs → SignsBehind p cs
signs_each [] p h = tt
signs_each (c ∷ cs) p h = (inl h.0, signs_each cs c h.1)

signs_same : {a b : List ℕ} (p : ℕ) → a ≡ b → SignsBehind p a → SignsBehind p b
signs_same p e h = subst (SignsBehind p) e h

digits_numeral : (cs : List ℕ) → IsDigits cs → Each of_numeral cs
digits_numeral cs h = each_weaker is_ascii_digit of_numeral cs digit_of_numeral h.1

whole_numeral : (cs : List ℕ) → IsWhole cs → Each of_numeral cs
unfolding of_numeral
whole_numeral cs (inl e) = each_same of_numeral (sym e) (refl, tt)
whole_numeral cs (inr h) = digits_numeral cs h.0

exponent_signs : (cs : List ℕ) → Optional IsExponent cs → (q : ℕ) → SignsBehind q cs
exponent_signs cs (inl e) q = signs_same q (sym e) tt
exponent_signs cs (inr (e, power, is, begins_e, inl digits)) q =
    signs_same q (sym is) (inl (exponent_of_numeral e begins_e), signs_each power e (digits_numeral power digits))
exponent_signs cs (inr (e, power, is, begins_e, inr (sign, digits, power_is, sign_is, h))) q =
    signs_same q (sym is)
    (inl (exponent_of_numeral e begins_e), signs_same e (sym power_is) (inr begins_e, signs_each digits sign (digits_numeral digits h)))

fraction_numeral : (cs : List ℕ) → Optional IsFraction cs → Each of_numeral cs
unfolding of_numeral
fraction_numeral cs (inl e) = each_same of_numeral (sym e) tt
fraction_numeral cs (inr h) = each_same of_numeral (sym h.1) (refl, digits_numeral h.0 h.2)

part_signs : (cs : List ℕ) → IsFloatPart cs → (q : ℕ) → SignsBehind q cs
part_signs cs h q = signs_same q (sym h.2) (signs_append h.0 h.1 q (fraction_numeral h.0 h.3) (exponent_signs h.1 h.4))

-- the first character of an integer, and the digits after it
integer_first : (cs : List ℕ) → IsInteger cs → (c : ℕ) × (digits : List ℕ) × (cs ≡ c ∷ digits) × Each of_numeral digits
integer_first [] (inl (inl e)) = absurd cc
integer_first [] (inl (inr h)) = let k = h.0.0 in absurd cc
integer_first (c ∷ cs) (inl h) = (c, cs, refl, (whole_numeral (c ∷ cs) h).1)
integer_first cs (inr h) = (minus, h.0, h.1, whole_numeral h.0 h.2)

numeral_signs : (cs : List ℕ) → IsNumeral cs → (c : ℕ) × (more : List ℕ) × (cs ≡ c ∷ more) × SignsBehind c more
numeral_signs cs h =
    let (c, digits, is, each) = integer_first h.0 h.3 in
    (c, digits ++ h.1, h.2 ∙ ap (λ l. l ++ h.1) is, signs_append digits h.1 c each (part_signs h.1 h.4))

signs_at : (a b : List ℕ) (p d c : ℕ) → SignsBehind p (a ++ d ∷ c ∷ b) → (of_numeral c ≡ true) ⊎ (begins_exponent d ≡ true)
signs_at [] b p d c h = h.1.0
signs_at (x ∷ a) b p d c h = signs_at a b x d c h.1

signs_within : (front others b : List ℕ) (first d c : ℕ) → first ∷ others ≡ front ++ d ∷ c ∷ b → SignsBehind first others
    → (of_numeral c ≡ true) ⊎ (begins_exponent d ≡ true)
signs_within [] others b first d c e signs =
    elim (signs_same first (tail_is e) signs).0 [ inl good ↦ inl good | inr h ↦ inr (ap begins_exponent (sym (head_is e)) ∙ h) ]
signs_within (x ∷ front) others b first d c e signs = signs_at front b first d c (signs_same first (tail_is e) signs)

-- the last character is a digit
EndsInDigit : List ℕ → Type 0
EndsInDigit cs = (front : List ℕ) × (d : ℕ) × (cs ≡ front ++ d ∷ []) × (is_ascii_digit d ≡ true)

digits_end : (cs : List ℕ) → IsDigits cs → EndsInDigit cs
unfolding EndsInDigit
digits_end [] h = let k = h.0 in absurd cc
digits_end (c ∷ []) h = ([], c, refl, h.0)
digits_end (c ∷ d ∷ cs) h =
    let (front, e, is, digit) = digits_end (d ∷ cs) (h.1.1.0, h.1.1) in (c ∷ front, e, ap (λ l. c ∷ l) is, digit)

ends_append : (a b cs : List ℕ) → cs ≡ a ++ b → EndsInDigit b → EndsInDigit cs
unfolding EndsInDigit
ends_append a b cs e (front, d, is, digit) = (a ++ front, d, e ∙ ap (λ l. a ++ l) is ∙ sym (append_assoc a front (d ∷ [])), digit)

whole_end : (cs : List ℕ) → IsWhole cs → EndsInDigit cs
unfolding EndsInDigit
whole_end cs (inl e) = ([], 48, e, refl)
whole_end cs (inr h) = digits_end cs h.0

integer_end : (cs : List ℕ) → IsInteger cs → EndsInDigit cs
integer_end cs (inl h) = whole_end cs h
integer_end cs (inr h) = ends_append (minus ∷ []) h.0 cs h.1 (whole_end h.0 h.2)

power_end : (cs : List ℕ) → IsPower cs → EndsInDigit cs
power_end cs (inl h) = digits_end cs h
power_end cs (inr h) = ends_append (h.0 ∷ []) h.1 cs h.2 (digits_end h.1 h.4)

numeral_end : (cs : List ℕ) → IsNumeral cs → EndsInDigit cs
numeral_end cs (integer, part, is, h, (fraction, exponent, part_is, f, inr e)) =
    ends_append integer part cs is (ends_append fraction exponent part part_is (ends_append (e.0 ∷ []) e.1 exponent e.2 (power_end e.1 e.4)))
numeral_end cs (integer, part, is, h, (fraction, exponent, part_is, inr f, inl e)) =
    ends_append integer part cs is
    (ends_append (full_stop ∷ []) f.0 part (part_is ∙ ap (λ l. fraction ++ l) e ∙ append-nil fraction ∙ f.1) (digits_end f.0 f.2))
numeral_end cs (integer, part, is, h, (fraction, exponent, part_is, inl f, inl e)) =
    ends_append [] integer cs
    (is ∙ ap (λ l. integer ++ l) (part_is ∙ ap (λ l. l ++ exponent) f ∙ e) ∙ append-nil integer) (integer_end integer h)

-- a number goes on only with what may not follow one
pub numeral_longer : (cs : List ℕ) (c : ℕ) (more : List ℕ) → IsNumeral cs → IsNumeral (cs ++ c ∷ more) → is_bad_after_number c ≡ true
unfolding EndsInDigit
numeral_longer cs c more h k =
    let (front, d, is, digit) = numeral_end cs h in
    let (first, others, whole, signs) = numeral_signs (cs ++ c ∷ more) k in
    let split : first ∷ others ≡ front ++ d ∷ c ∷ more = sym whole ∙ ap (λ l. l ++ c ∷ more) is ∙ append_assoc front (d ∷ []) (c ∷ more) in
    elim (signs_within front others more first d c split signs) [ inl good ↦ numeral_is_bad c good | inr e ↦ absurd (digit_no_exponent d digit e) ]
