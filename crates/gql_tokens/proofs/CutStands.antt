-- What stands at the front of a text's bytes: that which stands at the front of its characters.
use Rattle.std.proofs.Common.{◌≡◌, ℕ, ◌+◌, ◌<◌, ◌≤◌, Bool, true, false, ◌==◌, nat_eq, List, [], ◌∷◌, ◌++◌, length, take, drop, None, refl, sym, ap, ◌∙◌, inl, arith, subst, encode_utf8_all, ℤ, take-append-drop, take-take, take-add, take_at, drop_at, length-take-le, length-append, eqb-true, eq-eqb}
use Rattle.std.specs.Str.{chars, IsUtf8}
use Rattle.std.specs.List.{prefix_len, starts_with, slice_get}
use Rattle.std.proofs.lemmas.List.{drop-take}
use Rattle.std.proofs.lemmas.Bool.Decides.{nat_tests}
use Rattle.std.proofs.lemmas.Str.{chars-nil, encodes-chars, encodes-append, IsUtf8-nil}
use Rattle.gql_base.specs.Letters.{is_name_start, is_name_part}
use Rattle.gql_tokens.specs.declared.token.Punctuator.{Punctuator}
use Rattle.gql_tokens.specs.declared.token.Punctuator.TheVariants as punctuators
use Rattle.gql_tokens.specs.declared.token.Lexeme.TheVariants as lexemes
use Rattle.gql_tokens.specs.Characters.{quote, full_stop, begins}
use Rattle.gql_tokens.specs.Number.{IsInteger, IsFloatPart, IsSupported, integer_of, is_bad_after_number}
use Rattle.gql_tokens.specs.Block.{three_quotes}
use Rattle.gql_tokens.specs.Token.{characters_of}
use Rattle.gql_tokens.specs.Lexer.{Finishes}
use Rattle.gql_tokens.specs.Parts.{IsNumeral, IsNumeralAt, OnlyFront, NoString, IsUnended, NoBlockEnds, StandsAt, begins_number}
use Rattle.gql_tokens.specs.Cut.{IsCut, IsStringIn, IsBlockIn, StandsIn}
use Rattle.gql_tokens.proofs.Lists.{Each, each_same}
use Rattle.gql_tokens.proofs.TokenLaws.{begins_class}
use Rattle.gql_tokens.proofs.TokenLaws.Class.{numeric}
use Rattle.gql_tokens.proofs.BlockLaws.{starts_gives}
use Rattle.gql_tokens.proofs.BlockEnds.{no_block_ends}
use Rattle.gql_tokens.proofs.StandsLaws.{stands_name, stands_punctuator, stands_spread, stands_number, stands_wide, stands_float, no_number, stands_string, no_string, stands_block, stands_empty, stands_end, stands_nothing}
use Rattle.gql_tokens.proofs.CutLemmas.{cut_none, cut_ascii, cut_front, cut_narrow, begins_is, starts_is, cut_bytes, utf8_behind}
use Rattle.gql_tokens.proofs.Ascii.{is_small, numeral_small, mark_small, small_bytes}

start_narrow : (c : ℕ) → 128 ≤ c → is_name_start c ≡ false
start_narrow c h = grind (arith, nat_tests)

part_narrow : (c : ℕ) → 128 ≤ c → is_name_part c ≡ false
part_narrow c h = grind (arith, nat_tests)

bad_narrow : (c : ℕ) → 128 ≤ c → is_bad_after_number c ≡ false
bad_narrow c h = grind (arith, nat_tests)

number_narrow : (c : ℕ) → 128 ≤ c → begins_number c ≡ false
number_narrow c h = grind (arith, nat_tests)

quote_narrow : (c : ℕ) → 128 ≤ c → (c == quote) ≡ false
quote_narrow c h = grind (arith, nat_tests)

same_narrow : (d : ℕ) → d < 128 → (c : ℕ) → 128 ≤ c → (c == d) ≡ false
same_narrow d small c h = grind (arith, nat_tests)

-- ASCII bytes at the front of a text
module _ (bytes : List ℕ) (n : ℕ) (h : IsUtf8 bytes) (within : n ≤ length bytes) (small : Each is_small (take n bytes)) where
  abbrev ascii_both : IsCut (take n bytes ++ drop n bytes) (length (take n bytes)) (length (take n bytes)) × (chars (take n bytes ++ drop n bytes) ≡ take n bytes ++ chars (drop n bytes))
  ascii_both = cut_front (take n bytes) (drop n bytes) (subst IsUtf8 (sym (take-append-drop n bytes)) h) small

  -- they are as many characters
  ascii_cut : IsCut bytes n n
  ascii_cut =
      let count = length (take n bytes) in
      subst (λ k. IsCut bytes k k) (length-take-le n bytes within) (subst (λ l. IsCut l count count) (take-append-drop n bytes) ascii_both.0)

  -- and the same
  ascii_take : take n (chars bytes) ≡ take n bytes
  ascii_take =
      ap (take n) (ap chars (sym (take-append-drop n bytes)) ∙ ascii_both.1)
      ∙ take_at (take n bytes) (chars (drop n bytes)) n (length-take-le n bytes within)

-- a name
module _ (bytes : List ℕ) (n : ℕ) (h : IsUtf8 bytes) (e : n ≡ prefix_len is_name_part bytes) where
  pub name_cut : IsCut bytes n n
  name_cut = subst (λ k. IsCut bytes k k) (sym e) (cut_narrow is_name_part part_narrow bytes h).0

  pub name_in : begins is_name_start bytes ≡ true → StandsIn (lexemes.Name (take n bytes)) n bytes
  name_in first = (
    n,
    name_cut,
    subst (λ name. StandsAt (lexemes.Name name) n (chars bytes)) (sym (cut_bytes bytes n n h name_cut))
        (stands_name (chars bytes) n (begins_is is_name_start false start_narrow bytes h ∙ first) (e ∙ sym (cut_narrow is_name_part part_narrow bytes h).1)),
  )

-- a number
module _ (bytes : List ℕ) (n p : ℕ) (h : IsUtf8 bytes) (k : IsNumeralAt bytes n p) where
  numeral_ascii : Each is_small (take (n + p) bytes)
  numeral_ascii = numeral_small (take (n + p) bytes) (take n bytes, take p (drop n bytes), take-add n p bytes, k.integer_is, k.part_is)

  numeral_cut : IsCut bytes (n + p) (n + p)
  numeral_cut = ascii_cut bytes (n + p) h k.within numeral_ascii

  numeral_take : take (n + p) (chars bytes) ≡ take (n + p) bytes
  numeral_take = ascii_take bytes (n + p) h k.within numeral_ascii

  -- the bytes and the characters begin with the same number
  numeral_chars : IsNumeralAt (chars bytes) n p
  numeral_chars = record {
    within = numeral_cut.within;
    integer_is =
        let less : n ≤ n + p = omega arith in
        subst IsInteger (sym (sym (take-take n (n + p) (chars bytes) less) ∙ ap (take n) numeral_take ∙ take-take n (n + p) bytes less)) k.integer_is;
    part_is = subst IsFloatPart (sym (sym (drop-take n p (chars bytes)) ∙ ap (drop n) numeral_take ∙ drop-take n p bytes)) k.part_is;
    ends =
        ap (begins is_bad_after_number) (sym numeral_cut.behind)
        ∙ begins_is is_bad_after_number false bad_narrow (drop (n + p) bytes) (utf8_behind bytes (n + p) (n + p) h numeral_cut) ∙ k.ends;
  }

  module _ (first : begins begins_number bytes ≡ true) where
    number_first : begins (begins_class numeric) (chars bytes) ≡ true
    unfolding begins_class
    number_first = begins_is begins_number false number_narrow bytes h ∙ first

    pub number_in : (number : ℤ) → p ≡ 0 → IsSupported (integer_of (take (n + p) bytes)) → number ≡ integer_of (take (n + p) bytes)
        → StandsIn (lexemes.Number number) (n + p) bytes
    number_in number none supported is =
        let same = ap integer_of (sym numeral_take) in
        (n + p, numeral_cut, stands_number (chars bytes) n p numeral_chars number_first number none (subst IsSupported same supported) (is ∙ same))

    pub wide_in : p ≡ 0 → (IsSupported (integer_of (take (n + p) bytes)) → ⊥) → StandsIn lexemes.Unsupported (n + p) bytes
    wide_in none wide = (
      n + p,
      numeral_cut,
      stands_wide (chars bytes) n p numeral_chars number_first none (λ supported. wide (subst IsSupported (ap integer_of numeral_take) supported)),
    )

    pub float_in : (p ≡ 0 → ⊥) → StandsIn lexemes.Unsupported (n + p) bytes
    float_in some = (n + p, numeral_cut, stands_float (chars bytes) n p numeral_chars number_first some)

-- where no number begins the bytes, none begins the characters
no_numeral : (bytes : List ℕ) → IsUtf8 bytes → OnlyFront IsNumeral is_bad_after_number bytes None → OnlyFront IsNumeral is_bad_after_number (chars bytes) None
no_numeral bytes h none cs rest is form ends =
    let small = numeral_small cs form in
    let more = encode_utf8_all rest in
    let n = length cs in
    let whole : bytes ≡ cs ++ more =
    sym (encodes-chars bytes h) ∙ ap encode_utf8_all is ∙ encodes-append cs rest ∙ ap (λ l. l ++ more) (small_bytes cs small) in
    let text = subst IsUtf8 whole h in
    let front = cut_front cs more text small in
    let left = subst IsUtf8 (drop_at cs more n refl) (utf8_behind (cs ++ more) n n text front.0) in
    let same : chars more ≡ rest =
    sym (drop_at cs (chars more) n refl) ∙ ap (drop n) (sym front.1 ∙ ap chars (sym whole) ∙ is) ∙ drop_at cs rest n refl in
    none cs more whole form
    (sym (begins_is is_bad_after_number false bad_narrow more left) ∙ ap (begins is_bad_after_number) same ∙ ends)

pub no_number_in : (bytes : List ℕ) → IsUtf8 bytes → begins begins_number bytes ≡ true → OnlyFront IsNumeral is_bad_after_number bytes None
    → StandsIn lexemes.Unexpected 0 bytes
unfolding begins_class
no_number_in bytes h first none =
    (0, cut_none bytes h, inl (no_number (chars bytes) (begins_is begins_number false number_narrow bytes h ∙ first) (no_numeral bytes h none)))

-- three quotes begin the characters where they begin the bytes
pub quotes_are : (bytes : List ℕ) (b : Bool) → IsUtf8 bytes → starts_with nat_eq bytes three_quotes ≡ b → starts_with nat_eq (chars bytes) three_quotes ≡ b
quotes_are bytes b h e = starts_is three_quotes bytes (refl, (refl, (refl, tt))) h ∙ e

-- a string that no three quotes begin
module _ (bytes : List ℕ) (h : IsUtf8 bytes) (first : begins (λ c. c == quote) bytes ≡ true) (plain : starts_with nat_eq bytes three_quotes ≡ false) where
  quote_first : begins (λ c. c == quote) (chars bytes) ≡ true
  quote_first = begins_is (λ c. c == quote) false quote_narrow bytes h ∙ first

  pub string_in : (value : List ℕ) (k : ℕ) → IsStringIn bytes value k → StandsIn (lexemes.String value) k bytes
  string_in value k (n, cut, is) = (n, cut, stands_string (chars bytes) value n quote_first (quotes_are bytes false h plain) is)

  pub no_string_in : NoString (chars bytes) → StandsIn lexemes.Unexpected 0 bytes
  no_string_in none = (0, cut_none bytes h, inl (no_string (chars bytes) quote_first (quotes_are bytes false h plain) none))

-- three quotes
module _ (bytes : List ℕ) (h : IsUtf8 bytes) (first : starts_with nat_eq bytes three_quotes ≡ true) where
  quotes_whole : chars bytes ≡ three_quotes ++ drop 3 (chars bytes)
  quotes_whole = starts_gives (chars bytes) three_quotes (quotes_are bytes true h first)

  -- a block string
  pub block_in : (value : List ℕ) (k : ℕ) → IsBlockIn bytes value k → StandsIn (lexemes.String value) k bytes
  block_in value k (n, cut, is) = (n, cut, stands_block (chars bytes) value n (quotes_are bytes true h first) is)

  -- what is known of block strings says that this one has no end
  pub known_unended : NoBlockEnds (chars bytes) → IsUnended (drop 3 (chars bytes))
  known_unended known = known [] (drop 3 (chars bytes)) tt quotes_whole

  -- a block string without an end, which none after it has
  pub unended_known : IsUnended (drop 3 (chars bytes)) → NoBlockEnds (chars bytes)
  unended_known unended = no_block_ends (chars bytes) (drop 3 (chars bytes)) quotes_whole unended

  -- the empty string, where the quotes begin no block string
  pub empty_in : (value : List ℕ) → IsUnended (drop 3 (chars bytes)) → value ≡ [] → StandsIn (lexemes.String value) 2 bytes
  empty_in value unended none =
      let whole = starts_gives bytes three_quotes first in
      let within : 2 ≤ length bytes = omega (arith, ap length whole, length-append three_quotes (drop 3 bytes)) in
      let small : Each is_small (take 2 bytes) = each_same is_small (sym (ap (take 2) whole)) (refl, (refl, tt)) in
      (2, ascii_cut bytes 2 h within small, stands_empty (chars bytes) value (quotes_are bytes true h first) unended none)

-- a punctuator of one character
pub punctuator_in : (bytes : List ℕ) (p : Punctuator) (c : ℕ) (more : List ℕ) → IsUtf8 bytes → bytes ≡ c ∷ more → characters_of p ≡ c ∷ []
    → StandsIn (lexemes.Punctuator p) 1 bytes
punctuator_in bytes p c more h e mark =
    let (cut, is) = cut_ascii bytes c more h e (mark_small p c mark) in
    (1, cut, subst (StandsAt (lexemes.Punctuator p) 1) (sym is) (stands_punctuator p c (chars more) mark))

abbrev three_stops : List ℕ
three_stops = full_stop ∷ full_stop ∷ full_stop ∷ []

stops_are : (bytes : List ℕ) (b : Bool) → IsUtf8 bytes → starts_with nat_eq bytes three_stops ≡ b → starts_with nat_eq (chars bytes) three_stops ≡ b
stops_are bytes b h e = starts_is three_stops bytes (refl, (refl, (refl, tt))) h ∙ e

pub spread_in : (bytes : List ℕ) → IsUtf8 bytes → starts_with nat_eq bytes three_stops ≡ true → StandsIn (lexemes.Punctuator punctuators.Spread) 3 bytes
spread_in bytes h first =
    let whole = starts_gives bytes three_stops first in
    let within : 3 ≤ length bytes = omega (arith, ap length whole, length-append three_stops (drop 3 bytes)) in
    let small : Each is_small (take 3 bytes) = each_same is_small (sym (ap (take 3) whole)) (refl, (refl, (refl, tt))) in
    (3, ascii_cut bytes 3 h within small, stands_spread (chars bytes) (stops_are bytes true h first))

-- the end of the text
pub end_in : (bytes : List ℕ) → slice_get bytes 0 ≡ None → StandsIn lexemes.End 0 bytes
end_in [] e = (0, cut_none [] IsUtf8-nil, subst (StandsAt lexemes.End 0) (sym chars-nil) stands_end)
end_in (c ∷ bytes) e = absurd cc

-- no token begins with the first byte
module _ (bytes : List ℕ) (h : IsUtf8 bytes) (c : ℕ) (more : List ℕ) (is : bytes ≡ c ∷ more) (no_mark : (p : Punctuator) → characters_of p ≡ c ∷ [] → ⊥) where
  -- no punctuator is the first character
  no_mark_first : (d : ℕ) (rest : List ℕ) → chars bytes ≡ d ∷ rest → (p : Punctuator) → characters_of p ≡ d ∷ [] → ⊥
  no_mark_first d rest e p mark =
      let test = λ (x : ℕ). x == d in
      let yes : test c ≡ true =
      sym (ap (begins test) is) ∙ sym (begins_is test false (same_narrow d (mark_small p d mark)) bytes h) ∙ ap (begins test) e ∙ eq-eqb d d refl in
      no_mark p (mark ∙ ap (λ x. x ∷ []) (sym (eqb-true c d yes)))

  pub nothing_in : begins is_name_start bytes ≡ false → begins begins_number bytes ≡ false → begins (λ b. b == quote) bytes ≡ false
      → starts_with nat_eq bytes three_stops ≡ false → StandsIn lexemes.Unexpected 0 bytes
  unfolding begins_class
  nothing_in no_name no_number no_quote no_spread = (0, cut_none bytes h, inl (go (chars bytes) refl))
    where
      go : (cs : List ℕ) → chars bytes ≡ cs → Finishes lexemes.Unexpected (chars bytes)
      go [] e = absurd (let none = sym is ∙ sym (encodes-chars bytes h) ∙ ap encode_utf8_all e in cc)
      go (d ∷ rest) e =
          subst (Finishes lexemes.Unexpected) (sym e) (stands_nothing d rest
          (sym (ap (begins is_name_start) e) ∙ begins_is is_name_start false start_narrow bytes h ∙ no_name)
          (sym (ap (begins begins_number) e) ∙ begins_is begins_number false number_narrow bytes h ∙ no_number)
          (sym (ap (begins (λ b. b == quote)) e) ∙ begins_is (λ b. b == quote) false quote_narrow bytes h ∙ no_quote)
          (no_mark_first d rest e)
          (sym (ap (λ l. starts_with nat_eq l three_stops) e) ∙ stops_are bytes false h no_spread))
