-- What stands at a place: the token that was read there, or none.
use Rattle.std.proofs.Common.{◌≡◌, ℕ, ◌+◌, ◌<◌, ◌≤◌, Bool, true, false, ◌==◌, nat_eq, ◌⊎◌, List, [], ◌∷◌, ◌++◌, length, take, drop, None, refl, sym, ap, ◌∙◌, inl, inr, arith, append_assoc, append-nil, length-append, take-append-drop, subst, encode_utf8_all, ℤ, take-add, length-take, length-drop, ap₂}
use Rattle.std.specs.List.{prefix_len, starts_with}
use Rattle.std.proofs.lemmas.List.Sums.{prefix_len-le-length}
use Rattle.gql_tokens.specs.declared.token.Punctuator.{Punctuator}
use Rattle.gql_tokens.specs.declared.token.Punctuator.TheVariants as punctuators
use Rattle.gql_tokens.specs.declared.token.Lexeme.{Lexeme}
use Rattle.gql_tokens.specs.declared.token.Lexeme.TheVariants as lexemes
use Rattle.gql_base.specs.Letters.{is_name_start, is_name_part}
use Rattle.gql_tokens.specs.Characters.{quote, full_stop, begins}
use Rattle.gql_tokens.specs.Name.{IsName}
use Rattle.gql_tokens.specs.Number.{IsInteger, IsFloat, IsSupported, integer_of, is_bad_after_number}
use Rattle.gql_tokens.specs.String.{IsString}
use Rattle.gql_tokens.specs.Block.{three_quotes, written, IsBlockString}
use Rattle.gql_tokens.specs.Token.{characters_of, Spells, IsToken, MayPrecede}
use Rattle.gql_tokens.specs.Lexer.{Finishes}
use Rattle.gql_tokens.specs.Parts.{IsNumeral, IsNumeralAt, OnlyFront, NoString, IsStringAt, IsUnended, IsBlockAt, StandsAt}
use Rattle.gql_tokens.proofs.Lists.{head_is, tail_is, begins_so, begins_not, Each, each_back, begins_take, run_passes, run_stops, run_some}
use Rattle.gql_tokens.proofs.NumeralLaws.{numeral_longer}
use Rattle.gql_tokens.proofs.NameLaws.{name_start_part, name_parts, is_named}
use Rattle.gql_tokens.proofs.StringLaws.{string_unique}
use Rattle.gql_tokens.proofs.BlockLaws.{block_unique, starts_gives, pieces_before}
use Rattle.gql_tokens.proofs.TokenLaws.{Class, class_of, begins_class, is_punctuation, class_unique, spelling_begins, punctuator_begins, string_at_quotes}
use Rattle.gql_tokens.proofs.TokenLaws.Class.{punctuation, naming, numeric, quoting}

-- the class of a token by its first character
class_is : (k : Class) (l : Lexeme) (cs : List ℕ) → Spells l cs → begins (begins_class k) cs ≡ true → class_of l ≡ k
class_is k l cs h e =
    let (c, more, is, test) = begins_so (begins_class k) cs e in
    class_unique (class_of l) k c (sym (ap (begins (begins_class (class_of l))) is) ∙ spelling_begins l cs h) test

spelled_name : (l : Lexeme) (cs : List ℕ) → Spells l cs → class_of l ≡ naming → IsName cs
unfolding class_of
spelled_name (lexemes.Name n) cs h e = h.0
spelled_name (lexemes.Punctuator p) cs h e = absurd cc
spelled_name (lexemes.Number n) cs h e = absurd cc
spelled_name (lexemes.String s) cs h e = absurd cc
spelled_name lexemes.End cs h e = absurd h
spelled_name lexemes.Unexpected cs h e = absurd h
spelled_name lexemes.Unsupported cs h e = absurd cc

spelled_string : (l : Lexeme) (cs : List ℕ) → Spells l cs → class_of l ≡ quoting → (v : List ℕ) × (IsString v cs ⊎ IsBlockString v cs)
unfolding class_of
spelled_string (lexemes.Name n) cs h e = absurd cc
spelled_string (lexemes.Punctuator p) cs h e = absurd cc
spelled_string (lexemes.Number n) cs h e = absurd cc
spelled_string (lexemes.String s) cs h e = (h.0, h.1)
spelled_string lexemes.End cs h e = absurd h
spelled_string lexemes.Unexpected cs h e = absurd h
spelled_string lexemes.Unsupported cs h e = absurd cc

spelled_punctuator : (l : Lexeme) (cs : List ℕ) → Spells l cs → class_of l ≡ punctuation → (p : Punctuator) × (cs ≡ characters_of p)
unfolding class_of
spelled_punctuator (lexemes.Name n) cs h e = absurd cc
spelled_punctuator (lexemes.Punctuator p) cs h e = (p, h)
spelled_punctuator (lexemes.Number n) cs h e = absurd cc
spelled_punctuator (lexemes.String s) cs h e = absurd cc
spelled_punctuator lexemes.End cs h e = absurd h
spelled_punctuator lexemes.Unexpected cs h e = absurd h
spelled_punctuator lexemes.Unsupported cs h e = absurd cc

integer_is_numeral : (cs : List ℕ) → IsInteger cs → IsNumeral cs
integer_is_numeral cs h = (cs, [], sym (append-nil cs), h, ([], [], refl, inl refl, inl refl))

float_is_numeral : (cs : List ℕ) → IsFloat cs → IsNumeral cs
float_is_numeral cs h = (h.0, h.1, h.2, h.3, h.4)

-- a number, and what may follow it
spelled_number : (l : Lexeme) (cs rest : List ℕ) → Spells l cs → class_of l ≡ numeric → IsNumeral cs × (MayPrecede l rest → begins is_bad_after_number rest ≡ false)
unfolding class_of
spelled_number (lexemes.Name n) cs rest h e = absurd cc
spelled_number (lexemes.Punctuator p) cs rest h e = absurd cc
spelled_number (lexemes.Number n) cs rest h e = (integer_is_numeral cs h.0, λ k. k)
spelled_number (lexemes.String s) cs rest h e = absurd cc
spelled_number lexemes.End cs rest h e = absurd h
spelled_number lexemes.Unexpected cs rest h e = absurd h
spelled_number lexemes.Unsupported cs rest (inl h) e = (float_is_numeral cs h, λ k. k)
spelled_number lexemes.Unsupported cs rest (inr h) e = (integer_is_numeral cs h.0, λ k. k)

-- what begins the text begins the token there
token_begins : (test : ℕ → Bool) (l : Lexeme) (text cs rest : List ℕ) → Spells l cs → text ≡ cs ++ rest → begins test text ≡ true → begins test cs ≡ true
token_begins test l text cs rest h e b =
    let (c, more, is, first) = begins_so (begins_class (class_of l)) cs (spelling_begins l cs h) in
    ap (begins test) is ∙ sym (ap (begins test) (e ∙ ap (λ l. l ++ rest) is)) ∙ b

-- a token of the text at a length
module _ (text : List ℕ) (n : ℕ) where
  -- more of the text than a front of it
  longer_front : (c : ℕ) (more after : List ℕ) → drop n text ≡ c ∷ more ++ after → text ≡ (take n text ++ c ∷ more) ++ after
  longer_front c more after e =
      sym (take-append-drop n text) ∙ ap (λ l. take n text ++ l) e ∙ sym (append_assoc (take n text) (c ∷ more) after)

  -- what begins the text begins each token that is longer than its front
  longer_class : (k : Class) → begins (begins_class k) text ≡ true → (other : Lexeme) (c : ℕ) (more after : List ℕ)
      → drop n text ≡ c ∷ more ++ after → Spells other (take n text ++ c ∷ more) → class_of other ≡ k
  longer_class k first other c more after e h =
      class_is k other (take n text ++ c ∷ more) h (token_begins (begins_class k) other text (take n text ++ c ∷ more) after h (longer_front c more after e) first)

-- a name
pub stands_name : (text : List ℕ) (n : ℕ) → begins is_name_start text ≡ true → n ≡ prefix_len is_name_part text
    → StandsAt (lexemes.Name (encode_utf8_all (take n text))) n text
unfolding begins_class
stands_name text n first e = inr (
  subst (λ k. k ≤ length text) (sym e) (prefix_len-le-length is_name_part text),
  record {
    spelled = (is_named (take n text) (begins_take is_name_start n text first some) passes, refl);
    longest = λ other c more after is h.
        let longer = spelled_name other (take n text ++ c ∷ more) h (longer_class text n naming first other c more after is h) in
        let part = each_back is_name_part (take n text) (c ∷ more) (name_parts (take n text ++ c ∷ more) longer) in
        let stop = begins_not is_name_part (drop n text) c (more ++ after) stops is in
        let p = part.0 in cc;
    ends = tt;
  },
  refl,
)
  where
    some : 0 < n
    some =
        let (c, cs, is, start) = begins_so is_name_start text first in
        subst (λ k. 0 < k) (sym e) (run_some is_name_part text (ap (begins is_name_part) is ∙ name_start_part c start))

    passes : Each is_name_part (take n text)
    passes = subst (λ k. Each is_name_part (take k text)) (sym e) (run_passes is_name_part text)

    stops : begins is_name_part (drop n text) ≡ false
    stops = subst (λ k. begins is_name_part (drop k text) ≡ false) (sym e) (run_stops is_name_part text)

-- a punctuator
punctuator_alone : (p : Punctuator) (c d : ℕ) (more : List ℕ) → characters_of p ≡ c ∷ d ∷ more → (c ≡ full_stop) × (d ≡ full_stop) × (more ≡ full_stop ∷ [])
punctuator_alone punctuators.Spread c d more e = (sym (head_is e), sym (head_is (tail_is e)), sym (tail_is (tail_is e)))
punctuator_alone punctuators.Bang c d more e = absurd (let k = tail_is e in cc)
punctuator_alone punctuators.Dollar c d more e = absurd (let k = tail_is e in cc)
punctuator_alone punctuators.Ampersand c d more e = absurd (let k = tail_is e in cc)
punctuator_alone punctuators.OpenParen c d more e = absurd (let k = tail_is e in cc)
punctuator_alone punctuators.CloseParen c d more e = absurd (let k = tail_is e in cc)
punctuator_alone punctuators.Colon c d more e = absurd (let k = tail_is e in cc)
punctuator_alone punctuators.Equals c d more e = absurd (let k = tail_is e in cc)
punctuator_alone punctuators.At c d more e = absurd (let k = tail_is e in cc)
punctuator_alone punctuators.OpenBracket c d more e = absurd (let k = tail_is e in cc)
punctuator_alone punctuators.CloseBracket c d more e = absurd (let k = tail_is e in cc)
punctuator_alone punctuators.OpenBrace c d more e = absurd (let k = tail_is e in cc)
punctuator_alone punctuators.Pipe c d more e = absurd (let k = tail_is e in cc)
punctuator_alone punctuators.CloseBrace c d more e = absurd (let k = tail_is e in cc)

no_full_stop : (p : Punctuator) → characters_of p ≡ full_stop ∷ [] → ⊥
no_full_stop punctuators.Spread e = let k = tail_is e in cc
no_full_stop punctuators.Bang e = let k = head_is e in omega arith
no_full_stop punctuators.Dollar e = let k = head_is e in omega arith
no_full_stop punctuators.Ampersand e = let k = head_is e in omega arith
no_full_stop punctuators.OpenParen e = let k = head_is e in omega arith
no_full_stop punctuators.CloseParen e = let k = head_is e in omega arith
no_full_stop punctuators.Colon e = let k = head_is e in omega arith
no_full_stop punctuators.Equals e = let k = head_is e in omega arith
no_full_stop punctuators.At e = let k = head_is e in omega arith
no_full_stop punctuators.OpenBracket e = let k = head_is e in omega arith
no_full_stop punctuators.CloseBracket e = let k = head_is e in omega arith
no_full_stop punctuators.OpenBrace e = let k = head_is e in omega arith
no_full_stop punctuators.Pipe e = let k = head_is e in omega arith
no_full_stop punctuators.CloseBrace e = let k = head_is e in omega arith

pub stands_punctuator : (p : Punctuator) (c : ℕ) (rest : List ℕ) → characters_of p ≡ c ∷ [] → StandsAt (lexemes.Punctuator p) 1 (c ∷ rest)
unfolding begins_class
stands_punctuator p c rest e = inr (
  omega arith,
  record {
    spelled = sym e;
    longest = λ other d more after is h.
        let mark = sym (ap (begins (begins_class punctuation)) e) ∙ punctuator_begins p in
        let (q, whole) = spelled_punctuator other (c ∷ d ∷ more) h (class_is punctuation other (c ∷ d ∷ more) h mark) in
        let stop = (punctuator_alone q c d more (sym whole)).0 in
        no_full_stop p (e ∙ ap (λ x. x ∷ []) stop);
    ends = tt;
  },
  refl,
)

abbrev three_stops : List ℕ
three_stops = full_stop ∷ full_stop ∷ full_stop ∷ []

spread_stands : (rest : List ℕ) → StandsAt (lexemes.Punctuator punctuators.Spread) 3 (three_stops ++ rest)
unfolding begins_class is_punctuation
spread_stands rest = inr (
  omega arith,
  record {
    spelled = refl;
    longest = λ other d more after is h.
        let (q, whole) = spelled_punctuator other (three_stops ++ d ∷ more) h (class_is punctuation other (three_stops ++ d ∷ more) h refl) in
        let stop = (punctuator_alone q full_stop full_stop (full_stop ∷ d ∷ more) (sym whole)).2 in
        let none = tail_is stop in cc;
    ends = tt;
  },
  refl,
)

pub stands_spread : (text : List ℕ) → starts_with nat_eq text three_stops ≡ true → StandsAt (lexemes.Punctuator punctuators.Spread) 3 text
stands_spread text h = subst (StandsAt (lexemes.Punctuator punctuators.Spread) 3) (sym (starts_gives text three_stops h)) (spread_stands (drop 3 text))

-- a number
module _ (text : List ℕ) (n p : ℕ) (h : IsNumeralAt text n p) (first : begins (begins_class numeric) text ≡ true) where
  numeral_whole : IsNumeral (take (n + p) text)
  numeral_whole = (take n text, take p (drop n text), take-add n p text, h.integer_is, h.part_is)

  numeral_longest : (other : Lexeme) (c : ℕ) (more after : List ℕ) → drop (n + p) text ≡ c ∷ more ++ after → Spells other (take (n + p) text ++ c ∷ more) → ⊥
  numeral_longest other c more after is k =
      let class = longer_class text (n + p) numeric first other c more after is k in
      let longer = (spelled_number other (take (n + p) text ++ c ∷ more) after k class).0 in
      let bad = numeral_longer (take (n + p) text) c more numeral_whole longer in
      let good = begins_not is_bad_after_number (drop (n + p) text) c (more ++ after) h.ends is in cc

  pub stands_number : (number : ℤ) → p ≡ 0 → IsSupported (integer_of (take (n + p) text)) → number ≡ integer_of (take (n + p) text)
      → StandsAt (lexemes.Number number) (n + p) text
  stands_number number none supported is = inr (
    h.within,
    record {
      spelled = (integer none, is, subst IsSupported (sym is) supported);
      longest = numeral_longest;
      ends = h.ends;
    },
    refl,
  )
    where
      integer : p ≡ 0 → IsInteger (take (n + p) text)
      integer e = subst (λ k. IsInteger (take k text)) (let k : n ≡ n + p = omega arith in k) h.integer_is

  unsupported : Spells lexemes.Unsupported (take (n + p) text) → StandsAt lexemes.Unsupported (n + p) text
  unsupported spelled = inl (
    take (n + p) text,
    drop (n + p) text,
    sym (take-append-drop (n + p) text),
    record {
      spelled = spelled;
      longest = numeral_longest;
      ends = h.ends;
    },
  )

  pub stands_wide : p ≡ 0 → (IsSupported (integer_of (take (n + p) text)) → ⊥) → StandsAt lexemes.Unsupported (n + p) text
  stands_wide none wide =
      unsupported (inr (subst (λ k. IsInteger (take k text)) (let k : n ≡ n + p = omega arith in k) h.integer_is, wide))

  pub stands_float : (p ≡ 0 → ⊥) → StandsAt lexemes.Unsupported (n + p) text
  stands_float some =
      unsupported (inl (
        take n text,
        take p (drop n text),
        take-add n p text,
        h.integer_is,
        h.part_is,
        λ none.
            some (omega (arith, ap length none, length-take p (drop n text), length-drop n text, h.within)),
      ))

pub no_number : (text : List ℕ) → begins (begins_class numeric) text ≡ true → OnlyFront IsNumeral is_bad_after_number text None → Finishes lexemes.Unexpected text
no_number text first none = (
  λ e. (let k = ap (begins (begins_class numeric)) e in cc),
  λ l cs rest is token.
      let class = class_is numeric l cs token.spelled (token_begins (begins_class numeric) l text cs rest token.spelled is first) in
      let (numeral, ends) = spelled_number l cs rest token.spelled class in
      none cs rest is numeral (ends token.ends),
)

-- what is no longer than itself
not_longer : (cs : List ℕ) (c : ℕ) (more : List ℕ) → cs ≡ cs ++ c ∷ more → ⊥
not_longer cs c more e = omega (arith, ap length e, length-append cs (c ∷ more))

no_longer_string : (v w cs : List ℕ) (c : ℕ) (more : List ℕ) → IsString v cs → IsString w (cs ++ c ∷ more) → ⊥
no_longer_string v w cs c more h k = not_longer cs c more (string_unique v w cs (cs ++ c ∷ more) (c ∷ more) [] h k (sym (append-nil (cs ++ c ∷ more)))).1

no_longer_block : (v w cs : List ℕ) (c : ℕ) (more : List ℕ) → IsBlockString v cs → IsBlockString w (cs ++ c ∷ more) → ⊥
no_longer_block v w cs c more h k = not_longer cs c more (block_unique v w cs (cs ++ c ∷ more) (c ∷ more) [] h k (sym (append-nil (cs ++ c ∷ more)))).1

-- a block string begins with three quotes
block_begins : (w cs rest : List ℕ) → IsBlockString w cs → starts_with nat_eq (cs ++ rest) three_quotes ≡ true
block_begins w cs rest h = ap (λ l. starts_with nat_eq (l ++ rest) three_quotes) h.1

quote_first : (text : List ℕ) → starts_with nat_eq text three_quotes ≡ true → begins (λ c. c == quote) text ≡ true
quote_first text h = ap (begins (λ c. c == quote)) (starts_gives text three_quotes h)

-- a string that no three quotes begin
pub stands_string : (text bytes : List ℕ) (n : ℕ) → begins (λ c. c == quote) text ≡ true → starts_with nat_eq text three_quotes ≡ false
    → IsStringAt text bytes n → StandsAt (lexemes.String bytes) n text
unfolding begins_class
stands_string text bytes n first plain h = inr (
  h.0,
  record {
    spelled = (h.1.0, inl h.1.1, h.1.2);
    longest = λ other c more after is k.
        let class = longer_class text n quoting first other c more after is k in
        let longer = spelled_string other (take n text ++ c ∷ more) k class in
        go other c more after is longer.0 longer.1;
    ends = tt;
  },
  refl,
)
  where
    go : (other : Lexeme) (c : ℕ) (more after : List ℕ) → drop n text ≡ c ∷ more ++ after → (w : List ℕ)
        → IsString w (take n text ++ c ∷ more) ⊎ IsBlockString w (take n text ++ c ∷ more) → ⊥
    go other c more after is w (inl k) = no_longer_string h.1.0 w (take n text) c more h.1.1 k
    go other c more after is w (inr k) =
        let whole = longer_front text n c more after is in
        let yes = ap (λ l. starts_with nat_eq l three_quotes) whole ∙ block_begins w (take n text ++ c ∷ more) after k in cc

pub no_string : (text : List ℕ) → begins (λ c. c == quote) text ≡ true → starts_with nat_eq text three_quotes ≡ false → NoString text
    → Finishes lexemes.Unexpected text
unfolding begins_class
no_string text first plain none = (
  λ e. (let k = ap (begins (λ c. c == quote)) e in cc),
  λ l cs rest is token.
      let class = class_is quoting l cs token.spelled (token_begins (λ c. c == quote) l text cs rest token.spelled is first) in
      let (v, kind) = spelled_string l cs token.spelled class in
      go cs rest is v kind,
)
  where
    go : (cs rest : List ℕ) → text ≡ cs ++ rest → (v : List ℕ) → IsString v cs ⊎ IsBlockString v cs → ⊥
    go cs rest is v (inl k) = none v cs rest is k
    go cs rest is v (inr k) = let yes = ap (λ l. starts_with nat_eq l three_quotes) is ∙ block_begins v cs rest k in cc

-- a block string
pub stands_block : (text bytes : List ℕ) (n : ℕ) → starts_with nat_eq text three_quotes ≡ true → IsBlockAt text bytes n → StandsAt (lexemes.String bytes) n text
unfolding begins_class
stands_block text bytes n quotes_first h = inr (
  h.0,
  record {
    spelled = (h.1.0, inr h.1.1, h.1.2);
    longest = λ other c more after is k.
        let class = longer_class text n quoting (quote_first text quotes_first) other c more after is k in
        let longer = spelled_string other (take n text ++ c ∷ more) k class in
        go c more longer.0 longer.1;
    ends = tt;
  },
  refl,
)
  where
    go : (c : ℕ) (more w : List ℕ) → IsString w (take n text ++ c ∷ more) ⊎ IsBlockString w (take n text ++ c ∷ more) → ⊥
    go c more w (inr k) = no_longer_block h.1.0 w (take n text) c more h.1.1 k
    go c more w (inl k) =
        let body = written h.1.1.0 ++ three_quotes in
        let cs_is = h.1.1.1 in
        let short = string_at_quotes w (take n text ++ c ∷ more) [] (body ++ c ∷ more) k
        (append-nil (take n text ++ c ∷ more) ∙ ap (λ l. l ++ c ∷ more) cs_is) in
        omega (arith, ap length short, length-append (take n text) (c ∷ more), ap length cs_is, length-append (written h.1.1.0) three_quotes)

-- the empty string, where three quotes begin no block string
pub stands_empty : (text bytes : List ℕ) → starts_with nat_eq text three_quotes ≡ true → IsUnended (drop 3 text) → bytes ≡ [] → StandsAt (lexemes.String bytes) 2 text
unfolding begins_class
stands_empty text bytes quotes_first unended none = subst (StandsAt (lexemes.String bytes) 2) (sym whole) (inr (
  omega arith,
  record {
    spelled = ([], inl empty, none);
    longest = λ other c more after is k.
        let class = class_is quoting other (quote ∷ quote ∷ c ∷ more) k refl in
        let longer = spelled_string other (quote ∷ quote ∷ c ∷ more) k class in
        go c more after is longer.0 longer.1;
    ends = tt;
  },
  refl,
))
  where
    behind : List ℕ
    behind = drop 3 text

    whole : text ≡ three_quotes ++ behind
    whole = starts_gives text three_quotes quotes_first

    empty : IsString [] (quote ∷ quote ∷ [])
    empty = ([], refl, refl)

    go : (c : ℕ) (more after : List ℕ) → quote ∷ behind ≡ c ∷ more ++ after → (w : List ℕ)
        → IsString w (quote ∷ quote ∷ c ∷ more) ⊎ IsBlockString w (quote ∷ quote ∷ c ∷ more) → ⊥
    go c more after is w (inl k) = no_longer_string [] w (quote ∷ quote ∷ []) c more empty k
    go c more after is w (inr k) =
        let inside : more ≡ written k.0 ++ three_quotes = tail_is (tail_is (tail_is k.1)) in
        unended k.0 after (tail_is is ∙ ap (λ l. l ++ after) inside ∙ append_assoc (written k.0) three_quotes after) (pieces_before k.0 after k.2)

-- the end of the text
pub stands_end : StandsAt lexemes.End 0 []
stands_end = inl refl

-- no token begins with the character
pub stands_nothing : (c : ℕ) (rest : List ℕ) → begins_class naming c ≡ false → begins_class numeric c ≡ false → begins_class quoting c ≡ false
    → ((p : Punctuator) → characters_of p ≡ c ∷ [] → ⊥) → starts_with nat_eq (c ∷ rest) three_stops ≡ false → Finishes lexemes.Unexpected (c ∷ rest)
stands_nothing c rest no_name no_number no_quote no_mark no_spread = (λ e. cc, λ l cs more is token. go (class_of l) l cs more is token refl)
  where
    mark : (p : Punctuator) (m more : List ℕ) → characters_of p ≡ c ∷ m → c ∷ rest ≡ c ∷ m ++ more → ⊥
    mark p [] more e is = no_mark p e
    mark p (d ∷ m) more e is =
        let (one, two, three) = punctuator_alone p c d m e in
        let yes : starts_with nat_eq (three_stops ++ more) three_stops ≡ true = refl in
        let whole : c ∷ rest ≡ three_stops ++ more = is ∙ ap (λ l. l ++ more) (ap₂ ◌∷◌ one (ap₂ ◌∷◌ two three)) in
        let other = ap (λ l. starts_with nat_eq l three_stops) whole in cc

    first : (k : Class) (l : Lexeme) (cs more : List ℕ) → c ∷ rest ≡ cs ++ more → Spells l cs → class_of l ≡ k → (begins_class k c ≡ true) × ((m : List ℕ) × (cs ≡ c ∷ m))
    first k l cs more is spelled class =
        let (d, m, cs_is, test) = begins_so (begins_class (class_of l)) cs (spelling_begins l cs spelled) in
        let same : d ≡ c = sym (head_is (is ∙ ap (λ l. l ++ more) cs_is)) in
        (sym (ap₂ begins_class class same) ∙ test, (m, cs_is ∙ ap (λ x. x ∷ m) same))

    go : (k : Class) (l : Lexeme) (cs more : List ℕ) → c ∷ rest ≡ cs ++ more → IsToken l cs more → class_of l ≡ k → ⊥
    go naming l cs more is token class = let yes = (first naming l cs more is token.spelled class).0 in cc
    go numeric l cs more is token class = let yes = (first numeric l cs more is token.spelled class).0 in cc
    go quoting l cs more is token class = let yes = (first quoting l cs more is token.spelled class).0 in cc
    go punctuation l cs more is token class =
        let (m, cs_is) = (first punctuation l cs more is token.spelled class).1 in
        let (p, mark_is) = spelled_punctuator l cs token.spelled class in
        mark p m more (sym mark_is ∙ cs_is) (is ∙ ap (λ l. l ++ more) cs_is)
