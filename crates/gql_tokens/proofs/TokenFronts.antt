-- A text has a list of tokens.
use Rattle.std.proofs.Common.{◌≡◌, ℕ, ◌<◌, ◌≤◌, Bool, true, false, not, ◌&&◌, ◌||◌, ◌==◌, nat_eq, ◌⊎◌, List, [], ◌∷◌, ◌++◌, length, take, drop, suc, zero, refl, sym, ap, ap₂, ◌∙◌, inl, inr, arith, take-append-drop, length-append, length-drop, eqb-true, encode_utf8_all, Option, Some, None, subst, subst₂}
use Rattle.std.proofs.lemmas.Slice.Eq.{bytes_eq-Decides}
use Rattle.std.specs.Str.{bytes_eq, chars}
use Rattle.std.specs.List.{AllByRecursion, prefix_len, starts_with}
use Rattle.gql_base.specs.declared.pos.Pos.{Pos}
use Rattle.gql_base.specs.Letters.{is_name_start, is_name_part}
use Rattle.gql_tokens.specs.declared.token.Punctuator.{Punctuator}
use Rattle.gql_tokens.specs.declared.token.Punctuator.TheVariants as punctuators
use Rattle.gql_tokens.specs.declared.token.Lexeme.{Lexeme}
use Rattle.gql_tokens.specs.declared.token.Lexeme.TheVariants as lexemes
use Rattle.gql_tokens.specs.declared.token.Token.{Token}
use Rattle.gql_tokens.specs.declared.reaching.Reached.{Reached}
use Rattle.gql_tokens.specs.Reaching.{IsNext, left}
use Rattle.gql_tokens.specs.Characters.{quote, full_stop, hash, is_line_end, is_source, is_ignored}
use Rattle.gql_tokens.specs.Gap.{goes_on, Passes, IsGap}
use Rattle.gql_tokens.specs.Block.{three_quotes}
use Rattle.gql_tokens.specs.Place.{place_after, text_start}
use Rattle.gql_tokens.specs.Token.{characters_of, IsToken, is_final}
use Rattle.gql_tokens.specs.Lexer.{Lexes}
use Rattle.gql_tokens.specs.Parts.{StandsAt}
use Rattle.gql_tokens.proofs.TokenLaws.{begins_class}
use Rattle.gql_tokens.proofs.TokenLaws.Class.{numeric}
use Rattle.gql_tokens.proofs.StandsLaws.{stands_name, stands_punctuator, stands_spread, stands_end, stands_nothing}
use Rattle.gql_tokens.proofs.LexerLaws.{token_not_empty, lexes_unique}
use Rattle.gql_tokens.proofs.NumberFronts.{number_stands}
use Rattle.gql_tokens.proofs.StringFronts.{string_stands, block_stands}

abbrev all_marks : List Punctuator
all_marks =
    punctuators.Bang ∷ punctuators.Dollar ∷ punctuators.Ampersand ∷ punctuators.OpenParen ∷ punctuators.CloseParen ∷ punctuators.Spread ∷ punctuators.Colon
    ∷ punctuators.Equals ∷ punctuators.At ∷ punctuators.OpenBracket ∷ punctuators.CloseBracket ∷ punctuators.OpenBrace ∷ punctuators.Pipe ∷ punctuators.CloseBrace ∷ []

-- the punctuator of one character, or none among these
mark_among : (c : ℕ) (ps : List Punctuator) → ((p : Punctuator) × (characters_of p ≡ c ∷ [])) ⊎ AllByRecursion (λ p. characters_of p ≡ c ∷ [] → ⊥) ps
mark_among c [] = inr tt
mark_among c (p ∷ ps) = go (bytes_eq (characters_of p) (c ∷ [])) refl (mark_among c ps)
  where
    go : (b : Bool) → bytes_eq (characters_of p) (c ∷ []) ≡ b → ((q : Punctuator) × (characters_of q ≡ c ∷ [])) ⊎ AllByRecursion (λ q. characters_of q ≡ c ∷ [] → ⊥) ps
        → ((q : Punctuator) × (characters_of q ≡ c ∷ [])) ⊎ AllByRecursion (λ q. characters_of q ≡ c ∷ [] → ⊥) (p ∷ ps)
    go true e others = inl (p, (bytes_eq-Decides (characters_of p) (c ∷ [])).0 e)
    go false e (inl f) = inl f
    go false e (inr none) = inr ((λ k. let same : false ≡ true = sym e ∙ (bytes_eq-Decides (characters_of p) (c ∷ [])).1 k in cc), none)

no_mark : (c : ℕ) → AllByRecursion (λ p. characters_of p ≡ c ∷ [] → ⊥) all_marks → (p : Punctuator) → characters_of p ≡ c ∷ [] → ⊥
no_mark c h punctuators.Bang = h.0
no_mark c h punctuators.Dollar = h.1.0
no_mark c h punctuators.Ampersand = h.1.1.0
no_mark c h punctuators.OpenParen = h.1.1.1.0
no_mark c h punctuators.CloseParen = h.1.1.1.1.0
no_mark c h punctuators.Spread = h.1.1.1.1.1.0
no_mark c h punctuators.Colon = h.1.1.1.1.1.1.0
no_mark c h punctuators.Equals = h.1.1.1.1.1.1.1.0
no_mark c h punctuators.At = h.1.1.1.1.1.1.1.1.0
no_mark c h punctuators.OpenBracket = h.1.1.1.1.1.1.1.1.1.0
no_mark c h punctuators.CloseBracket = h.1.1.1.1.1.1.1.1.1.1.0
no_mark c h punctuators.OpenBrace = h.1.1.1.1.1.1.1.1.1.1.1.0
no_mark c h punctuators.Pipe = h.1.1.1.1.1.1.1.1.1.1.1.1.0
no_mark c h punctuators.CloseBrace = h.1.1.1.1.1.1.1.1.1.1.1.1.1.0

-- what stands at a text's front
token_stands : (text : List ℕ) → (lexeme : Lexeme) × (n : ℕ) × StandsAt lexeme n text
unfolding begins_class
token_stands [] = (lexemes.End, 0, stands_end)
token_stands (c ∷ rest) = go (is_name_start c) refl (begins_class numeric c) refl (c == quote) refl
  where
    text : List ℕ
    text = c ∷ rest

    spread : is_name_start c ≡ false → begins_class numeric c ≡ false → (c == quote) ≡ false → AllByRecursion (λ p. characters_of p ≡ c ∷ [] → ⊥) all_marks
        → (b : Bool) → starts_with nat_eq (c ∷ rest) (full_stop ∷ full_stop ∷ full_stop ∷ []) ≡ b → (lexeme : Lexeme) × (n : ℕ) × StandsAt lexeme n (c ∷ rest)
    spread e f g none true s = (lexemes.Punctuator punctuators.Spread, 3, stands_spread (c ∷ rest) s)
    spread e f g none false s = (lexemes.Unexpected, 0, inl (stands_nothing c rest e f g (no_mark c none) s))

    mark : is_name_start c ≡ false → begins_class numeric c ≡ false → (c == quote) ≡ false
        → ((p : Punctuator) × (characters_of p ≡ c ∷ [])) ⊎ AllByRecursion (λ p. characters_of p ≡ c ∷ [] → ⊥) all_marks → (lexeme : Lexeme) × (n : ℕ) × StandsAt lexeme n (c ∷ rest)
    mark e f g (inl found) = (lexemes.Punctuator found.0, 1, stands_punctuator found.0 c rest found.1)
    mark e f g (inr none) = spread e f g none (starts_with nat_eq (c ∷ rest) (full_stop ∷ full_stop ∷ full_stop ∷ [])) refl

    quoted : (c == quote) ≡ true → (b : Bool) → starts_with nat_eq (c ∷ rest) three_quotes ≡ b → (lexeme : Lexeme) × (n : ℕ) × StandsAt lexeme n (c ∷ rest)
    quoted g true s = block_stands (c ∷ rest) s
    quoted g false s = string_stands (c ∷ rest) g s

    go : (a : Bool) → is_name_start c ≡ a → (b : Bool) → begins_class numeric c ≡ b → (d : Bool) → (c == quote) ≡ d → (lexeme : Lexeme) × (n : ℕ) × StandsAt lexeme n (c ∷ rest)
    go true e b f d g =
        let n = prefix_len is_name_part (c ∷ rest) in
        (lexemes.Name (encode_utf8_all (take n (c ∷ rest))), n, stands_name (c ∷ rest) n e refl)
    go false e true f d g = number_stands (c ∷ rest) f
    go false e false f true g = quoted g (starts_with nat_eq (c ∷ rest) three_quotes) refl
    go false e false f false g = mark e f g (mark_among c all_marks)

-- a character is ignored, or it isn't
passes_or_not : (in_comment : Bool) (c : ℕ) → ((behind : Bool) × Passes in_comment c behind) ⊎ (goes_on in_comment c ≡ false)
passes_or_not false c = go (is_ignored c) refl (c == hash) refl
  where
    go : (a : Bool) → is_ignored c ≡ a → (b : Bool) → (c == hash) ≡ b → ((behind : Bool) × Passes false c behind) ⊎ (goes_on false c ≡ false)
    go true e b f = inl (false, e)
    go false e true f = inl (true, eqb-true c hash f)
    go false e false f = inr (ap₂ ◌||◌ e f)
passes_or_not true c = go (is_line_end c) refl (is_source c) refl
  where
    go : (a : Bool) → is_line_end c ≡ a → (b : Bool) → is_source c ≡ b → ((behind : Bool) × Passes true c behind) ⊎ (goes_on true c ≡ false)
    go true e b f = inl (false, e)
    go false e true f = inl (true, ap₂ (λ a b. a && not b) f e)
    go false e false f = inr f

gap_found : (in_comment : Bool) (text : List ℕ) → (gap : List ℕ) × (behind : List ℕ) × (text ≡ gap ++ behind) × IsGap in_comment gap behind
gap_found b [] = ([], [], refl, refl)
gap_found b (c ∷ cs) = elim (passes_or_not b c) [
  | inl p ↦ (let more = gap_found p.0 cs in (c ∷ more.0, more.1, ap (λ l. c ∷ l) more.2, (p.0, p.1, more.3)))
  | inr stops ↦ ([], c ∷ cs, refl, stops)
]

-- a list of tokens for each text shorter than this
abbrev TokensBelow : ℕ → Type 0
TokensBelow fuel = (place : Pos) (text : List ℕ) → length text < fuel → (tokens : List Token) × Lexes place text tokens

module _ (fuel : ℕ) (below : TokensBelow fuel) (place : Pos) (text gap behind : List ℕ) (enough : length text < suc fuel) (is : text ≡ gap ++ behind)
    (ignored : IsGap false gap behind) (lexeme : Lexeme) (n : ℕ) where
  abbrev token_here : Token
  token_here = record { lexeme = lexeme; pos = place_after place gap behind }

  shorter : n ≤ length behind → IsToken lexeme (take n behind) (drop n behind) → length (drop n behind) < fuel
  shorter within h =
      let full : n ≡ 0 → ⊥ = λ e. token_not_empty lexeme (take n behind) (drop n behind) h (ap (λ k. take k behind) e) in
      omega (arith, ap length is, length-append gap behind, length-drop n behind, within, enough)

  one_found : StandsAt lexeme n behind → (tokens : List Token) × Lexes place text tokens
  one_found (inl finishes) = (token_here ∷ [], (gap, behind, is, ignored, refl, inl (finishes, refl)))
  one_found (inr h) =
      let more = below (place_after (place_after place gap behind) (take n behind) (drop n behind)) (drop n behind) (shorter h.0 h.1) in
      (token_here ∷ more.0, (gap, behind, is, ignored, refl, inr (take n behind, drop n behind, sym (take-append-drop n behind), h.1, h.2, more.1)))

tokens_below : (fuel : ℕ) → TokensBelow fuel
tokens_below zero = λ place text enough. absurd (omega arith)
tokens_below (suc fuel) = λ place text enough.
    let gap = gap_found false text in
    let found = token_stands gap.1 in
    one_found fuel (tokens_below fuel) place text gap.0 gap.1 enough gap.2 gap.3 found.0 found.1 found.2

-- the tokens of a text that begins at a place
pub tokens_from : Pos → List ℕ → List Token
tokens_from place text = (tokens_below (suc (length text)) place text (omega arith)).0

pub tokens_from_are : (place : Pos) (text : List ℕ) → Lexes place text (tokens_from place text)
unfolding tokens_from
tokens_from_are place text = (tokens_below (suc (length text)) place text (omega arith)).1

-- those after a token, which may be the last
abbrev pub tokens_behind : (last : Bool) → Pos → List ℕ → List Token
tokens_behind true place text = []
tokens_behind false place text = tokens_from place text

-- a token that was read, if there is one, and those after it
abbrev pub tokens_left : Option Token → Pos → List ℕ → List Token
tokens_left None place text = []
tokens_left (Some token) place text = token ∷ tokens_behind (is_final token.lexeme) place text

-- no token stands after this one
abbrev pub is_last : Option Token → Bool
is_last None = true
is_last (Some token) = is_final token.lexeme

-- the tokens from a place on are the next one and those after it
pub next_is : (text : List ℕ) (here behind : Reached) (token : Token) → IsNext text here token behind
    → tokens_from here.place (left text here.at) ≡ tokens_left (Some token) behind.place (left text behind.at)
next_is text here behind token next =
    lexes_unique here.place (left text here.at) (tokens_from here.place (left text here.at)) (tokens_left (Some token) behind.place (left text behind.at))
    (tokens_from_are here.place (left text here.at)) (go (is_final token.lexeme) refl)
  where
    go : (b : Bool) → is_final token.lexeme ≡ b → Lexes here.place (left text here.at) (token ∷ tokens_behind b behind.place (left text behind.at))
    go true e = next.last e
    go false e = next.more e (tokens_from behind.place (left text behind.at)) (tokens_from_are behind.place (left text behind.at))

-- those of a whole text are the first one and those after it
pub all_are : (text : List ℕ) (here behind : Reached) (token : Token) → here.at ≡ 0 → here.place ≡ text_start → IsNext text here token behind
    → Lexes text_start (chars text) (tokens_left (Some token) behind.place (left text behind.at))
all_are text here behind token at place next =
    subst₂ (λ p l. Lexes p l (tokens_left (Some token) behind.place (left text behind.at))) place (ap (left text) at)
    (subst (Lexes here.place (left text here.at)) (next_is text here behind token next) (tokens_from_are here.place (left text here.at)))

-- those that are left are a token and those after it
pub taken_is : (before : Option Token) (token : Token) (last : Bool) (place : Pos) (text : List ℕ) (others : List Token) → before ≡ Some token → last ≡ is_last before
    → tokens_behind last place text ≡ others → tokens_left before place text ≡ token ∷ others
taken_is before token last place text others is is_last_is behind =
    ap (λ o. tokens_left o place text) is
    ∙ ap (λ b. token ∷ tokens_behind b place text) (sym (is_last_is ∙ ap is_last is))
    ∙ ap (λ l. token ∷ l) behind
