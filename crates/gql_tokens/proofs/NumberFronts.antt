-- At each text there is a number, or there is none.
use Rattle.std.proofs.Common.{◌≡◌, ℕ, ◌+◌, ◌-◌, ◌^◌, Bool, true, false, ◌==◌, ◌⊎◌, List, [], ◌∷◌, ◌++◌, length, take, drop, Option, Some, None, suc, zero, refl, sym, ap, ◌∙◌, inl, inr, arith, take-append-drop, eqb-true, ℤ, pos, negsuc}
use Rattle.std.proofs.lemmas.Bool.Decides.{nat_tests}
use Rattle.std.proofs.lemmas.Int.{by_lt_z, ints}
use Rattle.std.specs.Char.{is_ascii_digit}
use Rattle.std.specs.List.{prefix_len}
use Rattle.gql_tokens.specs.declared.token.Lexeme.{Lexeme}
use Rattle.gql_tokens.specs.declared.token.Lexeme.TheVariants as lexemes
use Rattle.gql_tokens.specs.Characters.{minus, full_stop, digit_zero, begins}
use Rattle.gql_tokens.specs.Number.{IsDigits, IsWhole, IsInteger, IsFraction, IsPower, IsExponent, IsFloatPart, IsSupported, Optional, begins_exponent, is_sign, is_bad_after_number, integer_of}
use Rattle.gql_tokens.specs.Parts.{OnlyFront, is_bad_after_fraction, IsNumeral, IsNumeralAt, StandsAt}
use Rattle.gql_tokens.proofs.Lists.{head_is, tail_is, begins_so, begins_front}
use Rattle.gql_tokens.proofs.NumberLaws.{digit_bad, exponent_bad, fraction_digit, digits_only, digits_some, fewer, exponent_follows, sequence_none, sequence_some, sequence_then_none, no_integer, no_part, numeral_found, numeral_bad}
use Rattle.gql_tokens.proofs.StandsLaws.{stands_number, stands_wide, stands_float, no_number}
use Rattle.gql_tokens.proofs.TokenLaws.{begins_class}
use Rattle.gql_tokens.proofs.TokenLaws.Class.{numeric}

stop_bad : (c : ℕ) → (c == full_stop) ≡ true → is_bad_after_fraction c ≡ true
stop_bad c h = grind (arith, nat_tests)

minus_no_digit : (c : ℕ) → (c == minus) ≡ true → is_ascii_digit c ≡ true → ⊥
minus_no_digit c h k = grind (arith, nat_tests)

sign_no_digit : (c : ℕ) → is_sign c ≡ true → is_ascii_digit c ≡ true → ⊥
sign_no_digit c h k = grind (arith, nat_tests)

-- the front of this form at a text, or that there is none
abbrev pub Found : (List ℕ → Type 0) → (ℕ → Bool) → List ℕ → Type 0
Found Form bad text = (found : Option ℕ) × OnlyFront Form bad text found

-- more may be bad after a form
weaker_found : (Form : List ℕ → Type 0) (p q : ℕ → Bool) → ((c : ℕ) → p c ≡ true → q c ≡ true) → (text : List ℕ) → Found Form p text → Found Form q text
weaker_found Form p q f text (None, none) = (None, λ cs rest is h ends. none cs rest is h (fewer p q f rest ends))
weaker_found Form p q f text (Some n, h) = (Some n, (h.0, h.1, λ cs rest is form ends. h.2 cs rest is form (fewer p q f rest ends)))

-- a form that is another one at this text
converted : (Inner Form : List ℕ → Type 0) (bad : ℕ → Bool) (text : List ℕ) → ((cs rest : List ℕ) → text ≡ cs ++ rest → Inner cs → Form cs)
    → ((cs rest : List ℕ) → text ≡ cs ++ rest → Form cs → Inner cs) → Found Inner bad text → Found Form bad text
converted Inner Form bad text to from (None, none) = (None, λ cs rest is h ends. none cs rest is (from cs rest is h) ends)
converted Inner Form bad text to from (Some n, h) =
    (Some n, (h.0, to (take n text) (drop n text) (sym (take-append-drop n text)) h.1, λ cs rest is w ends. h.2 cs rest is (from cs rest is w) ends))

-- a form that is another one after this character
prefixed : (Inner Form : List ℕ → Type 0) (bad : ℕ → Bool) (c : ℕ) (more : List ℕ) → ((cs : List ℕ) → Inner cs → Form (c ∷ cs))
    → ((cs rest : List ℕ) → c ∷ more ≡ cs ++ rest → Form cs → begins bad rest ≡ false → (inner : List ℕ) × (cs ≡ c ∷ inner) × Inner inner)
    → Found Inner bad more → Found Form bad (c ∷ more)
prefixed Inner Form bad c more to from (None, none) = (
  None,
  λ cs rest is h ends.
      let (inner, cs_is, form) = from cs rest is h ends in
      none inner rest (tail_is (is ∙ ap (λ l. l ++ rest) cs_is)) form ends,
)
prefixed Inner Form bad c more to from (Some n, h) = (
  Some (suc n),
  (
    omega (arith, h.0),
    to (take n more) h.1,
    λ cs rest is w ends.
        let (inner, cs_is, form) = from cs rest is w ends in
        ap length cs_is ∙ ap suc (h.2 inner rest (tail_is (is ∙ ap (λ l. l ++ rest) cs_is)) form ends),
  ),
)

-- nothing, where the form can't stand at the front
absent : (Form : List ℕ → Type 0) (bad : ℕ → Bool) (text : List ℕ) → ((cs rest : List ℕ) → text ≡ cs ++ rest → Form cs → ⊥) → Found (Optional Form) bad text
absent Form bad text never = (Some 0, (omega arith, inl refl, λ cs rest is h ends. elim h [ inl none ↦ ap length none | inr form ↦ absurd (never cs rest is form) ]))

nothing_begins : (test : ℕ → Bool) (cs rest : List ℕ) → [] ≡ cs ++ rest → begins test cs ≡ true → ⊥
nothing_begins test cs rest is h = let k : false ≡ true = ap (begins test) is ∙ begins_front test cs rest h in cc

-- the first character of digits
digits_first : (c : ℕ) (more cs rest : List ℕ) → c ∷ more ≡ cs ++ rest → begins is_ascii_digit cs ≡ true → is_ascii_digit c ≡ true
digits_first c more cs rest is h = ap (begins is_ascii_digit) is ∙ begins_front is_ascii_digit cs rest h

whole_first : (cs : List ℕ) → IsWhole cs → begins is_ascii_digit cs ≡ true
whole_first cs (inl e) = ap (begins is_ascii_digit) e
whole_first cs (inr h) = h.0.0

no_digits : (text : List ℕ) → zero ≡ prefix_len is_ascii_digit text → OnlyFront IsDigits is_ascii_digit text None
no_digits text e cs rest is h ends =
    let (c, more, cs_is, first) = begins_so is_ascii_digit cs h.0 in
    omega (arith, ap length cs_is, digits_only text cs rest is h ends)

digits_found : (text : List ℕ) → Found IsDigits is_ascii_digit text
digits_found text = go (prefix_len is_ascii_digit text) refl
  where
    go : (n : ℕ) → n ≡ prefix_len is_ascii_digit text → Found IsDigits is_ascii_digit text
    go zero e = (None, no_digits text e)
    go (suc n) e = (Some (suc n), digits_some text (suc n) e (λ z. omega arith))

whole_found : (text : List ℕ) → Found IsWhole is_ascii_digit text
whole_found [] = (None, λ cs rest is h ends. nothing_begins is_ascii_digit cs rest is (whole_first cs h))
whole_found (c ∷ more) = go (c == digit_zero) refl (begins is_ascii_digit more) refl
  where
    zero_is : (cs rest : List ℕ) → c ∷ more ≡ cs ++ rest → cs ≡ digit_zero ∷ [] → (c ≡ digit_zero) × (more ≡ rest)
    zero_is cs rest is e = let k = is ∙ ap (λ l. l ++ rest) e in (head_is k, tail_is k)

    first_same : (cs rest : List ℕ) → c ∷ more ≡ cs ++ rest → IsDigits cs → begins (λ d. d == digit_zero) cs ≡ (c == digit_zero)
    first_same cs rest is digits =
        let (d, m, cs_is, first) = begins_so is_ascii_digit cs digits.0 in
        ap (begins (λ d. d == digit_zero)) cs_is ∙ sym (ap (λ d. d == digit_zero) (head_is (is ∙ ap (λ l. l ++ rest) cs_is)))

    go : (b : Bool) → (c == digit_zero) ≡ b → (f : Bool) → begins is_ascii_digit more ≡ f → Found IsWhole is_ascii_digit (c ∷ more)
    go true e true f = (
      None,
      λ cs rest is h ends. elim h [
        | inl k ↦ (let p = zero_is cs rest is k in let q = sym f ∙ ap (begins is_ascii_digit) p.1 ∙ ends in cc)
        | inr k ↦ (let p = sym e ∙ sym (first_same cs rest is k.0) ∙ k.1 in cc)
      ],
    )
    go true e false f = (
      Some 1,
      (
        omega arith,
        inl (ap (λ d. d ∷ []) (eqb-true c digit_zero e)),
        λ cs rest is h ends. elim h [
          | inl k ↦ ap length k
          | inr k ↦ (let p = sym e ∙ sym (first_same cs rest is k.0) ∙ k.1 in absurd cc)
        ],
      ),
    )
    go false e f g = converted IsDigits IsWhole is_ascii_digit (c ∷ more)
        (λ cs rest is h. inr (h, first_same cs rest is h ∙ e))
        (λ cs rest is h. elim h [
          | inl k ↦ (let p : false ≡ true = sym e ∙ ap (λ d. d == digit_zero) (zero_is cs rest is k).0 in absurd cc)
          | inr k ↦ k.0
        ])
        (digits_found (c ∷ more))

integer_found : (text : List ℕ) → Found IsInteger is_ascii_digit text
integer_found [] = (
  None,
  λ cs rest is h ends. elim h [
    | inl w ↦ nothing_begins is_ascii_digit cs rest is (whole_first cs w)
    | inr k ↦ (let none : [] ≡ minus ∷ k.0 ++ rest = is ∙ ap (λ l. l ++ rest) k.1 in cc)
  ],
)
integer_found (c ∷ more) = go (c == minus) refl
  where
    go : (b : Bool) → (c == minus) ≡ b → Found IsInteger is_ascii_digit (c ∷ more)
    go true e = prefixed IsWhole IsInteger is_ascii_digit c more
        (λ cs w. inr (cs, ap (λ d. d ∷ cs) (eqb-true c minus e), w))
        (λ cs rest is h ends. elim h [
          | inl w ↦ absurd (minus_no_digit c e (digits_first c more cs rest is (whole_first cs w)))
          | inr k ↦ (k.0, k.1 ∙ ap (λ d. d ∷ k.0) (sym (eqb-true c minus e)), k.2)
        ])
        (whole_found more)
    go false e = converted IsWhole IsInteger is_ascii_digit (c ∷ more) (λ cs rest is w. inl w)
        (λ cs rest is h. elim h [
          | inl w ↦ w
          | inr k ↦ (let none : false ≡ true = sym e ∙ ap (λ d. d == minus) (head_is (is ∙ ap (λ l. l ++ rest) k.1)) in absurd cc)
        ])
        (whole_found (c ∷ more))

fraction_found : (text : List ℕ) → Found (Optional IsFraction) is_bad_after_fraction text
fraction_found [] = absent IsFraction is_bad_after_fraction []
    (λ cs rest is h. let none : [] ≡ full_stop ∷ h.0 ++ rest = is ∙ ap (λ l. l ++ rest) h.1 in cc)
fraction_found (c ∷ more) = go (c == full_stop) refl
  where
    go : (b : Bool) → (c == full_stop) ≡ b → Found (Optional IsFraction) is_bad_after_fraction (c ∷ more)
    go true e = prefixed IsDigits (Optional IsFraction) is_bad_after_fraction c more
        (λ cs h. inr (cs, ap (λ d. d ∷ cs) (eqb-true c full_stop e), h))
        (λ cs rest is h ends. elim h [
          | inl none ↦ (let bad = stop_bad c e in let good = ap (begins is_bad_after_fraction) (is ∙ ap (λ l. l ++ rest) none) ∙ ends in absurd cc)
          | inr k ↦ (k.0, k.1 ∙ ap (λ d. d ∷ k.0) (sym (eqb-true c full_stop e)), k.2)
        ])
        (weaker_found IsDigits is_ascii_digit is_bad_after_fraction fraction_digit more (digits_found more))
    go false e = absent IsFraction is_bad_after_fraction (c ∷ more)
        (λ cs rest is h. let none : false ≡ true = sym e ∙ ap (λ d. d == full_stop) (head_is (is ∙ ap (λ l. l ++ rest) h.1)) in cc)

power_found : (text : List ℕ) → Found IsPower is_ascii_digit text
power_found [] = (
  None,
  λ cs rest is h ends. elim h [
    | inl d ↦ nothing_begins is_ascii_digit cs rest is d.0
    | inr k ↦ (let none : [] ≡ k.0 ∷ k.1 ++ rest = is ∙ ap (λ l. l ++ rest) k.2 in cc)
  ],
)
power_found (c ∷ more) = go (is_sign c) refl
  where
    go : (b : Bool) → is_sign c ≡ b → Found IsPower is_ascii_digit (c ∷ more)
    go true e = prefixed IsDigits IsPower is_ascii_digit c more (λ cs h. inr (c, cs, refl, e, h))
        (λ cs rest is h ends. elim h [
          | inl d ↦ absurd (sign_no_digit c e (digits_first c more cs rest is d.0))
          | inr k ↦ (k.1, k.2 ∙ ap (λ d. d ∷ k.1) (sym (head_is (is ∙ ap (λ l. l ++ rest) k.2))), k.4)
        ])
        (digits_found more)
    go false e = converted IsDigits IsPower is_ascii_digit (c ∷ more) (λ cs rest is d. inl d)
        (λ cs rest is h. elim h [
          | inl d ↦ d
          | inr k ↦ (let none = sym e ∙ ap is_sign (head_is (is ∙ ap (λ l. l ++ rest) k.2)) ∙ k.3 in absurd cc)
        ])
        (digits_found (c ∷ more))

exponent_found : (text : List ℕ) → Found (Optional IsExponent) is_bad_after_number text
exponent_found [] = absent IsExponent is_bad_after_number []
    (λ cs rest is h. let none : [] ≡ h.0 ∷ h.1 ++ rest = is ∙ ap (λ l. l ++ rest) h.2 in cc)
exponent_found (c ∷ more) = go (begins_exponent c) refl
  where
    go : (b : Bool) → begins_exponent c ≡ b → Found (Optional IsExponent) is_bad_after_number (c ∷ more)
    go true e = prefixed IsPower (Optional IsExponent) is_bad_after_number c more (λ cs h. inr (c, cs, refl, e, h))
        (λ cs rest is h ends. elim h [
          | inl none ↦ (let bad = exponent_bad c e in let good = ap (begins is_bad_after_number) (is ∙ ap (λ l. l ++ rest) none) ∙ ends in absurd cc)
          | inr k ↦ (k.1, k.2 ∙ ap (λ d. d ∷ k.1) (sym (head_is (is ∙ ap (λ l. l ++ rest) k.2))), k.4)
        ])
        (weaker_found IsPower is_ascii_digit is_bad_after_number digit_bad more (power_found more))
    go false e = absent IsExponent is_bad_after_number (c ∷ more)
        (λ cs rest is h. let none = sym e ∙ ap begins_exponent (head_is (is ∙ ap (λ l. l ++ rest) h.2)) ∙ h.3 in cc)

part_found : (text : List ℕ) → Found IsFloatPart is_bad_after_number text
part_found text = go (fraction_found text)
  where
    more : (n : ℕ) → OnlyFront (Optional IsFraction) is_bad_after_fraction text (Some n) → Found (Optional IsExponent) is_bad_after_number (drop n text)
        → Found IsFloatPart is_bad_after_number text
    more n h (None, none) =
        (None, sequence_then_none (Optional IsFraction) (Optional IsExponent) is_bad_after_fraction is_bad_after_number exponent_follows text n h none)
    more n h (Some m, k) =
        (Some (n + m), sequence_some (Optional IsFraction) (Optional IsExponent) is_bad_after_fraction is_bad_after_number exponent_follows text n m h k)

    go : Found (Optional IsFraction) is_bad_after_fraction text → Found IsFloatPart is_bad_after_number text
    go (None, none) =
        (None, sequence_none (Optional IsFraction) (Optional IsExponent) is_bad_after_fraction is_bad_after_number exponent_follows text none)
    go (Some n, h) = more n h (exponent_found (drop n text))

numeral_or_none : (text : List ℕ) → ((n : ℕ) × (m : ℕ) × IsNumeralAt text n m) ⊎ OnlyFront IsNumeral is_bad_after_number text None
numeral_or_none text = go (integer_found text)
  where
    ended : (n m : ℕ) → OnlyFront IsInteger is_ascii_digit text (Some n) → OnlyFront IsFloatPart is_bad_after_number (take (length text - n) (drop n text)) (Some m)
        → (b : Bool) → begins is_bad_after_number (drop (n + m) text) ≡ b
        → ((n : ℕ) × (m : ℕ) × IsNumeralAt text n m) ⊎ OnlyFront IsNumeral is_bad_after_number text None
    ended n m h k false e = inl (n, m, numeral_found text n m h k e)
    ended n m h k true e = inr (numeral_bad text n m h k e)

    more : (n : ℕ) → OnlyFront IsInteger is_ascii_digit text (Some n) → Found IsFloatPart is_bad_after_number (take (length text - n) (drop n text))
        → ((n : ℕ) × (m : ℕ) × IsNumeralAt text n m) ⊎ OnlyFront IsNumeral is_bad_after_number text None
    more n h (None, none) = inr (no_part text n h none)
    more n h (Some m, k) = ended n m h k (begins is_bad_after_number (drop (n + m) text)) refl

    go : Found IsInteger is_ascii_digit text → ((n : ℕ) × (m : ℕ) × IsNumeralAt text n m) ⊎ OnlyFront IsNumeral is_bad_after_number text None
    go (None, none) = inr (no_integer text none)
    go (Some n, h) = more n h (part_found (take (length text - n) (drop n text)))

supported_or_not : (z : ℤ) → IsSupported z ⊎ (IsSupported z → ⊥)
supported_or_not z =
    by_lt_z z (negsuc (2 ^ 63 - 1)) (λ low. inr (λ h. omega (arith, ints, h.0, low)))
    (λ high. by_lt_z z (pos (2 ^ 64)) (λ small. inl (high, small)) (λ big. inr (λ h. omega (arith, ints, h.1, big))))

-- what stands where a number begins
pub number_stands : (text : List ℕ) → begins (begins_class numeric) text ≡ true → (lexeme : Lexeme) × (n : ℕ) × StandsAt lexeme n text
number_stands text first = elim (numeral_or_none text) [
  | inl f ↦ by_part f.0 f.1 f.2
  | inr none ↦ (lexemes.Unexpected, 0, inl (no_number text first none))
]
  where
    by_part : (n m : ℕ) → IsNumeralAt text n m → (lexeme : Lexeme) × (n : ℕ) × StandsAt lexeme n text
    by_part n zero h = elim (supported_or_not (integer_of (take (n + 0) text))) [
      | inl s ↦ (lexemes.Number (integer_of (take (n + 0) text)), n + 0, stands_number text n 0 h first (integer_of (take (n + 0) text)) refl s refl)
      | inr wide ↦ (lexemes.Unsupported, n + 0, stands_wide text n 0 h first refl wide)
    ]
    by_part n (suc m) h = (lexemes.Unsupported, n + suc m, stands_float text n (suc m) h first (λ e. omega arith))
