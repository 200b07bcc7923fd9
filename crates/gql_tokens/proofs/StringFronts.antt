-- At each quote there is a string, or there is none.
use Rattle.std.proofs.Common.{◌≡◌, ℕ, ◌+◌, ◌-◌, ◌<◌, ◌≤◌, Bool, true, false, ◌==◌, nat_eq, ◌⊎◌, List, [], ◌∷◌, ◌++◌, length, take, drop, Option, Some, None, suc, zero, refl, sym, ap, ◌∙◌, inl, inr, arith, length-drop, eqb-true, subst, encode_utf8_all}
use Rattle.std.proofs.lemmas.Bool.{cases_lt, eq-eqb}
use Rattle.std.proofs.lemmas.List.{drop_all}
use Rattle.std.specs.Char.{digit_value, IsScalar}
use Rattle.std.specs.List.{AllByRecursion, starts_with}
use Rattle.gql_tokens.specs.declared.token.Lexeme.{Lexeme}
use Rattle.gql_tokens.specs.declared.token.Lexeme.TheVariants as lexemes
use Rattle.gql_tokens.specs.Characters.{quote, backslash, is_source, begins}
use Rattle.gql_tokens.specs.String.{is_plain, escaped, hexadecimal_of, IsUnicodeEscape, WritesCharacter, WritesCharacters}
use Rattle.gql_tokens.specs.Block.{three_quotes, escaped_quotes}
use Rattle.gql_tokens.specs.Lines.{block_value}
use Rattle.gql_tokens.specs.Parts.{NoString, IsStringAt, IsUnended, IsBodyAt, StandsAt}
use Rattle.gql_tokens.proofs.Lists.{head_is, tail_is, begins_so}
use Rattle.gql_tokens.proofs.StringLaws.{first_written, one_written, string_more, string_ends, no_string_behind, nothing_written}
use Rattle.gql_tokens.proofs.BlockLaws.{IsWithin, within_start, within_quotes, within_itself, within_body, within_unended, escaped_fits}
use Rattle.gql_tokens.proofs.StandsLaws.{stands_string, no_string, stands_block, stands_empty}

-- a character is written at the text's front, or none is
abbrev Written : List ℕ → Type 0
Written text =
    ((v : ℕ) × (n : ℕ) × (0 < n) × (n ≤ length text) × WritesCharacter v (take n text))
    ⊎ ((v : ℕ) (cs rest : List ℕ) → text ≡ cs ++ rest → WritesCharacter v cs → ⊥)

-- where no escape of one character stands, only one by a number can
only_unicode : (d : ℕ) (left : List ℕ) → escaped d ≡ None
    → ((v : ℕ) (cs rest : List ℕ) → backslash ∷ d ∷ left ≡ cs ++ rest → IsUnicodeEscape v cs → ⊥)
    → (v : ℕ) (cs rest : List ℕ) → backslash ∷ d ∷ left ≡ cs ++ rest → WritesCharacter v cs → ⊥
only_unicode d left e never v cs rest is (inl h) =
    let plain : false ≡ true = ap is_plain (head_is (is ∙ ap (λ l. l ++ rest) h.0)) ∙ h.1 in cc
only_unicode d left e never v cs rest is (inr (inl h)) =
    let some : None ≡ Some v = sym e ∙ ap escaped (head_is (tail_is (is ∙ ap (λ l. l ++ rest) h.1))) ∙ h.2 in cc
only_unicode d left e never v cs rest is (inr (inr h)) = never v cs rest is h

unicode_is : (d : ℕ) (left : List ℕ) (v : ℕ) (cs rest : List ℕ) → backslash ∷ d ∷ left ≡ cs ++ rest → (h : IsUnicodeEscape v cs)
    → (d ≡ 117) × (left ≡ h.0 ∷ h.1 ∷ h.2 ∷ h.3 ∷ rest)
unicode_is d left v cs rest is h =
    let whole = tail_is (is ∙ ap (λ l. l ++ rest) h.4) in (head_is whole, tail_is whole)

not_less : (m n : ℕ) → n ≤ m → m < n → ⊥
not_less m n h k = omega arith

-- hexadecimal digits, or not
are_hexadecimal : (cs : List ℕ) → AllByRecursion (λ h. digit_value h < 16) cs ⊎ (AllByRecursion (λ h. digit_value h < 16) cs → ⊥)
are_hexadecimal [] = inl tt
are_hexadecimal (c ∷ cs) = elim (cases_lt (digit_value c) 16) [
  | inl small ↦ elim (are_hexadecimal cs) [ inl h ↦ inl (small, h) | inr k ↦ inr (λ h. k h.1) ]
  | inr big ↦ inr (λ h. not_less (digit_value c) 16 big h.0)
]

true_or_not : (b : Bool) → (b ≡ true) ⊎ (b ≡ true → ⊥)
true_or_not true = inl refl
true_or_not false = inr (λ e. cc)

short_unicode : (left : List ℕ) → length left < 4 → Written (backslash ∷ 117 ∷ left)
short_unicode left short =
    inr (only_unicode 117 left refl (λ v cs rest is h. let whole = (unicode_is 117 left v cs rest is h).1 in omega (arith, ap length whole)))

unicode_found : (left : List ℕ) → Written (backslash ∷ 117 ∷ left)
unicode_found [] = short_unicode [] (omega arith)
unicode_found (a ∷ []) = short_unicode (a ∷ []) (omega arith)
unicode_found (a ∷ b ∷ []) = short_unicode (a ∷ b ∷ []) (omega arith)
unicode_found (a ∷ b ∷ c ∷ []) = short_unicode (a ∷ b ∷ c ∷ []) (omega arith)
unicode_found (a ∷ b ∷ c ∷ d ∷ more) = go (are_hexadecimal (a ∷ b ∷ c ∷ d ∷ [])) (true_or_not _)
  where
    v : ℕ
    v = hexadecimal_of (a ∷ b ∷ c ∷ d ∷ [])

    same : (w : ℕ) (cs rest : List ℕ) → backslash ∷ 117 ∷ a ∷ b ∷ c ∷ d ∷ more ≡ cs ++ rest → (h : IsUnicodeEscape w cs)
        → h.0 ∷ h.1 ∷ h.2 ∷ h.3 ∷ [] ≡ a ∷ b ∷ c ∷ d ∷ []
    same w cs rest is h = sym (ap (take 4) (unicode_is 117 (a ∷ b ∷ c ∷ d ∷ more) w cs rest is h).1)

    go : AllByRecursion (λ h. digit_value h < 16) (a ∷ b ∷ c ∷ d ∷ []) ⊎ (AllByRecursion (λ h. digit_value h < 16) (a ∷ b ∷ c ∷ d ∷ []) → ⊥)
        → IsScalar (hexadecimal_of (a ∷ b ∷ c ∷ d ∷ [])) ⊎ (IsScalar (hexadecimal_of (a ∷ b ∷ c ∷ d ∷ [])) → ⊥)
        → Written (backslash ∷ 117 ∷ a ∷ b ∷ c ∷ d ∷ more)
    go (inl h) (inl s) = inl (hexadecimal_of (a ∷ b ∷ c ∷ d ∷ []), 6, omega arith, omega arith, inr (inr (a, b, c, d, refl, h, refl, s)))
    go (inr k) s = inr (only_unicode 117 (a ∷ b ∷ c ∷ d ∷ more) refl
        (λ w cs rest is h. k (subst (AllByRecursion (λ h. digit_value h < 16)) (same w cs rest is h) h.5)))
    go (inl h) (inr k) = inr (only_unicode 117 (a ∷ b ∷ c ∷ d ∷ more) refl
        (λ w cs rest is h. k (subst IsScalar (h.6 ∙ ap hexadecimal_of (same w cs rest is h)) h.7)))

escape_found : (left : List ℕ) → Written (backslash ∷ left)
escape_found [] = inr (λ v cs rest is h. go v cs rest is h)
  where
    go : (v : ℕ) (cs rest : List ℕ) → backslash ∷ [] ≡ cs ++ rest → WritesCharacter v cs → ⊥
    go v cs rest is (inl h) = let plain : false ≡ true = ap is_plain (head_is (is ∙ ap (λ l. l ++ rest) h.0)) ∙ h.1 in cc
    go v cs rest is (inr (inl h)) = let none : [] ≡ h.0 ∷ rest = tail_is (is ∙ ap (λ l. l ++ rest) h.1) in cc
    go v cs rest is (inr (inr h)) = let none : [] ≡ 117 ∷ h.0 ∷ h.1 ∷ h.2 ∷ h.3 ∷ rest = tail_is (is ∙ ap (λ l. l ++ rest) h.4) in cc
escape_found (d ∷ left) = go (escaped d) refl (d == 117) refl
  where
    go : (o : Option ℕ) → escaped d ≡ o → (b : Bool) → (d == 117) ≡ b → Written (backslash ∷ d ∷ left)
    go (Some v) e b f = inl (v, 2, omega arith, omega arith, inr (inl (d, refl, e)))
    go None e true f = subst (λ c. Written (backslash ∷ c ∷ left)) (sym (eqb-true d 117 f)) (unicode_found left)
    go None e false f = inr (only_unicode d left e
        (λ v cs rest is h. let same : false ≡ true = sym f ∙ ap (λ c. c == 117) (unicode_is d left v cs rest is h).0 in cc))

character_found : (text : List ℕ) → Written text
character_found [] = inr nothing_written
character_found (c ∷ more) = go (is_plain c) refl (c == backslash) refl
  where
    go : (b : Bool) → is_plain c ≡ b → (a : Bool) → (c == backslash) ≡ a → Written (c ∷ more)
    go true e a f = inl (c, 1, omega arith, omega arith, inl (refl, e))
    go false e true f = subst (λ d. Written (d ∷ more)) (sym (eqb-true c backslash f)) (escape_found more)
    go false e false f = inr (λ v cs rest is h.
        let (d, m, cs_is, kind) = first_written v cs h in
        let same : c ≡ d = head_is (is ∙ ap (λ l. l ++ rest) cs_is) in
        elim kind [
          | inl plain ↦ (let k : false ≡ true = sym e ∙ ap is_plain same ∙ plain in cc)
          | inr b ↦ (let k : false ≡ true = sym f ∙ ap (λ d. d == backslash) (same ∙ b) in cc)
        ])

-- Strings.

module _ (text : List ℕ) (first : begins (λ c. c == quote) text ≡ true) where
  abbrev StringOrNone : Type 0
  StringOrNone = ((bytes : List ℕ) × (n : ℕ) × IsStringAt text bytes n) ⊎ NoString text

  -- what is found from a place in the string on
  abbrev StringFrom : ℕ → Type 0
  StringFrom fuel = (at : ℕ) (vs : List ℕ) → length text ≤ at + fuel → 0 < at → at ≤ length text → WritesCharacters vs (take (at - 1) (drop 1 text)) → StringOrNone

  string_step : (fuel : ℕ) → StringFrom fuel → (at : ℕ) (vs : List ℕ) → length text ≤ at + suc fuel → 0 < at → at ≤ length text
      → WritesCharacters vs (take (at - 1) (drop 1 text)) → (left : List ℕ) → drop at text ≡ left → StringOrNone
  string_step fuel more at vs enough behind within so_far [] e =
      inr (no_string_behind text at vs first behind so_far (ap (begins (λ c. c == quote)) e) (λ v cs rest k. nothing_written v cs rest (sym e ∙ k)))
  string_step fuel more at vs enough behind within so_far (c ∷ left) e = go (c == quote) refl (character_found (drop at text))
    where
      go : (b : Bool) → (c == quote) ≡ b → Written (drop at text) → StringOrNone
      go true q found = inl (encode_utf8_all vs, at + 1, string_ends text at vs first behind so_far (ap (begins (λ c. c == quote)) e ∙ q))
      go false q (inl f) =
          more (at + f.1) (vs ++ f.0 ∷ []) (omega (arith, f.2)) (omega arith) (omega (arith, f.3, length-drop at text, within))
          (string_more text at f.1 vs (f.0 ∷ []) behind so_far (one_written f.0 (take f.1 (drop at text)) f.4))
      go false q (inr none) = inr (no_string_behind text at vs first behind so_far (ap (begins (λ c. c == quote)) e ∙ q) none)

  string_from : (fuel : ℕ) → StringFrom fuel
  string_from zero = λ at vs enough behind within so_far.
      let none = drop_all at text (let k : length text ≤ at = omega arith in k) in
      inr (no_string_behind text at vs first behind so_far (ap (begins (λ c. c == quote)) none) (λ v cs rest k. nothing_written v cs rest (sym none ∙ k)))
  string_from (suc fuel) = λ at vs enough behind within so_far.
      string_step fuel (string_from fuel) at vs enough behind within so_far (drop at text) refl

  string_or_none : StringOrNone
  string_or_none =
      let (q, more, text_is, test) = begins_so (λ c. c == quote) text first in
      string_from (length text) 1 [] (omega arith) (omega arith) (omega (arith, ap length text_is)) refl

  -- what stands at a quote that no other two follow
  pub string_stands : starts_with nat_eq text three_quotes ≡ false → (lexeme : Lexeme) × (n : ℕ) × StandsAt lexeme n text
  string_stands plain = elim string_or_none [
    | inl f ↦ (lexemes.String f.0, f.1, stands_string text f.0 f.1 first plain f.2)
    | inr none ↦ (lexemes.Unexpected, 0, inl (no_string text first plain none))
  ]

-- Block strings.

module _ (text : List ℕ) (first : starts_with nat_eq text three_quotes ≡ true) where
  abbrev BodyOrNone : Type 0
  BodyOrNone = ((raw : List ℕ) × (n : ℕ) × IsBodyAt text raw n) ⊎ IsUnended (drop 3 text)

  -- what is found from a place in the block string on
  abbrev BodyFrom : ℕ → Type 0
  BodyFrom fuel = (at : ℕ) (raw : List ℕ) → length text ≤ at + fuel → at ≤ length text → IsWithin text raw at → BodyOrNone

  body_step : (fuel : ℕ) → BodyFrom fuel → (at : ℕ) (raw : List ℕ) → length text ≤ at + suc fuel → at ≤ length text → IsWithin text raw at → BodyOrNone
  body_step fuel more at raw enough within so_far =
      go (starts_with nat_eq (drop at text) three_quotes) refl (starts_with nat_eq (drop at text) escaped_quotes) refl (drop at text) refl
    where
      itself : (c : ℕ) (left : List ℕ) → starts_with nat_eq (drop at text) three_quotes ≡ false → starts_with nat_eq (drop at text) escaped_quotes ≡ false
          → drop at text ≡ c ∷ left → (b : Bool) → is_source c ≡ b → BodyOrNone
      itself c left e f g true s =
          more (at + 1) (raw ++ c ∷ []) (omega arith) (omega (arith, ap length g, length-drop at text))
          (within_itself text raw at c so_far (ap (begins (λ d. d == c)) g ∙ eq-eqb c c refl) s e f)
      itself c left e f g false s = inr (within_unended text raw at so_far (ap (begins is_source) g ∙ s))

      go : (b : Bool) → starts_with nat_eq (drop at text) three_quotes ≡ b → (a : Bool) → starts_with nat_eq (drop at text) escaped_quotes ≡ a
          → (left : List ℕ) → drop at text ≡ left → BodyOrNone
      go true e a f left g = inl (raw, at + 3, within_body text raw at within so_far e)
      go false e true f left g =
          more (at + 4) (raw ++ three_quotes) (omega arith) (escaped_fits text at f) (within_quotes text raw at so_far f)
      go false e false f [] g = inr (within_unended text raw at so_far (ap (begins is_source) g))
      go false e false f (c ∷ left) g = itself c left e f g (is_source c) refl

  body_from : (fuel : ℕ) → BodyFrom fuel
  body_from zero = λ at raw enough within so_far.
      inr (within_unended text raw at so_far (ap (begins is_source) (drop_all at text (let k : length text ≤ at = omega arith in k))))
  body_from (suc fuel) = λ at raw enough within so_far. body_step fuel (body_from fuel) at raw enough within so_far

  -- what stands at three quotes
  pub block_stands : (lexeme : Lexeme) × (n : ℕ) × StandsAt lexeme n text
  block_stands = elim (body_from (length text) 3 [] (omega arith) fits (within_start text first)) [
    | inl f ↦ (
      lexemes.String (encode_utf8_all (block_value f.0)),
      f.1,
      stands_block text (encode_utf8_all (block_value f.0)) f.1 first
          (f.2.0, (block_value f.0, (f.2.1.0, f.2.1.1, f.2.1.2, ap block_value f.2.1.3), refl)),
    )
    | inr none ↦ (lexemes.String [], 2, stands_empty text [] first none refl)
  ]
    where
      fits : 3 ≤ length text
      fits = omega (arith, ap length (within_start text first).text_is)
