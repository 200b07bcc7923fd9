-- The function that lists the tokens of a type lists those of the text.
use Rattle.std.proofs.Common.{◌≡◌, ℕ, Bool, true, false, List, [], ◌∷◌, ◌++◌, ◌⊎◌, inl, inr, Option, Some, None, Result, Ok, Err, refl, sym, ap, ◌∙◌, subst, arith, append_assoc, append-nil, take, drop, pred}
use Rattle.std.specs.Prelude.{◌==◌, encode_utf8_all}
use Rattle.std.specs.Result.{result_ok}
use Rattle.std.specs.Str.{chars}
use Rattle.std.specs.List.{prefix_len}
use Rattle.std.proofs.lemmas.Bool.Decides.{nat_tests}
use Rattle.std.proofs.lemmas.List.{take-append-drop}
use mathlib.Core.Former.{Count}
use Rattle.gql_base.specs.declared.pos.Pos.{Pos}
use Rattle.gql_base.specs.declared.type_ref.TypeRef as type
use Rattle.gql_base.specs.declared.type_ref.TypeRef.{TypeRef, Row_of-TypeRef, end_of-TypeRef, more_of-TypeRef}
use Rattle.gql_base.specs.Letters.{is_name_start, is_name_part}
use Rattle.gql_tokens.specs.Characters.{begins, hash, is_source, is_ignored, is_line_end, is_comment_character}
use Rattle.gql_tokens.specs.Gap.{goes_on, IsGap}
use Rattle.gql_tokens.specs.Place.{next_place, place_after, text_start}
use Rattle.gql_tokens.specs.Lexer.{Lexes, Finishes, BeginsNoToken}
use Rattle.gql_tokens.specs.Token.{IsToken, characters_of}
use Rattle.gql_tokens.specs.declared.token.Lexeme.{Lexeme}
use Rattle.gql_tokens.specs.declared.token.Lexeme.TheVariants as lexeme
use Rattle.gql_tokens.specs.declared.token.Punctuator.{Punctuator}
use Rattle.gql_tokens.specs.declared.token.Punctuator.TheVariants as sign
use Rattle.gql_tokens.specs.declared.token.Token.{Token}
use Rattle.gql_tokens.proofs.Lists.{Each, each_append}
use Rattle.gql_tokens.proofs.NameLaws.{name_begins, name_parts, is_named}
use Rattle.gql_tokens.proofs.TokenLaws.{spelling_begins, class_of, begins_class}
use Rattle.gql_tokens.proofs.TokenLaws.Class.{numeric, quoting}
use Rattle.gql_tokens.proofs.StandsLaws.{stands_name, stands_punctuator}
use Rattle.gql_doc.specs.declared.fault.ParseFault.{ParseFault}
use Rattle.gql_doc.specs.Words.{Word, tokens_of, One}
use Rattle.gql_doc.specs.Grammar.{IsType, IsNullableType, IsTypeIn, IsNullableIn, max_levels}
use Rattle.gql_doc.specs.Spelled.{GivesType, SpellsType}
use Rattle.gql_doc.proofs.ParseLaws.{type_spelled, type_faulty}
use Rattle.gql_form.specs.TypeText.{behind, token_at, name_token, tokens_from, in_comment, in_name, type_of_tokens, type_in}

-- The tokens of a text, where all of them may stand in a type.

abbrev typed_step : Lexeme → Token → List Token → Option (List Token) → Option (List Token)
typed_step (lexeme.Punctuator sign.Bang) token tokens others = behind token others
typed_step (lexeme.Punctuator sign.OpenBracket) token tokens others = behind token others
typed_step (lexeme.Punctuator sign.CloseBracket) token tokens others = behind token others
typed_step (lexeme.Name name) token tokens others = behind token others
typed_step lexeme.End token tokens others = Some (token ∷ tokens)
typed_step _ token tokens others = None

abbrev typed : List Token → Option (List Token)
typed [] = None
typed (token ∷ tokens) = typed_step token.lexeme token tokens (typed tokens)

-- No token of a type begins here.

no_token : (place : Pos) (c : ℕ) (cs : List ℕ) → is_ignored c ≡ false → (c == hash) ≡ false → (c == 33) ≡ false → (c == 91) ≡ false → (c == 93) ≡ false → is_name_start c ≡ false → tokens_from place (c ∷ cs) ≡ None
no_token place c cs a b d e f g = rw a (rw b (rw d (rw e (rw f (rw g refl)))))

-- What is ignored.

comment_end : (rest : List ℕ) (place : Pos) → begins is_source rest ≡ false → in_comment place rest ≡ tokens_from place rest
comment_end [] place h = refl
comment_end (c ∷ cs) place h =
    let line : is_line_end c ≡ false = grind (arith, nat_tests) in
    let other : is_comment_character c ≡ false = grind (arith, nat_tests) in
    let none = no_token place c cs (grind (arith, nat_tests)) (grind (arith, nat_tests)) (grind (arith, nat_tests)) (grind (arith, nat_tests)) (grind (arith, nat_tests)) (grind (arith, nat_tests)) in
    let stops : in_comment place (c ∷ cs) ≡ None = rw other (rw line refl) in
    stops ∙ sym none

mutual
  gap_skipped : (gap rest : List ℕ) (place : Pos) → IsGap false gap rest → tokens_from place (gap ++ rest) ≡ tokens_from (place_after place gap rest) rest
  gap_skipped [] rest place h = refl
  gap_skipped (c ∷ cs) rest place (false, passes, h) = rw passes (gap_skipped cs rest (next_place place c (cs ++ rest)) h)
  gap_skipped (c ∷ cs) rest place (true, passes, h) =
      let plain : is_ignored c ≡ false = grind (arith, nat_tests) in
      let hashed : (c == hash) ≡ true = grind (arith, nat_tests) in
      rw plain (rw hashed (comment_skipped cs rest (next_place place c (cs ++ rest)) h))

  comment_skipped : (gap rest : List ℕ) (place : Pos) → IsGap true gap rest → in_comment place (gap ++ rest) ≡ tokens_from (place_after place gap rest) rest
  comment_skipped [] rest place h = comment_end rest place h
  comment_skipped (c ∷ cs) rest place (false, passes, h) = rw passes (gap_skipped cs rest (next_place place c (cs ++ rest)) h)
  comment_skipped (c ∷ cs) rest place (true, passes, h) =
      let line : is_line_end c ≡ false = grind (arith, nat_tests) in
      rw passes (rw line (comment_skipped cs rest (next_place place c (cs ++ rest)) h))

-- nothing that is ignored stands after what is ignored
gap_stops : (b : Bool) (gap rest : List ℕ) → IsGap b gap rest → begins (goes_on false) rest ≡ false
gap_stops false [] rest h = h
gap_stops true [] [] h = refl
gap_stops true [] (c ∷ cs) h = grind (arith, nat_tests)
gap_stops b (c ∷ cs) rest (on, passes, h) = gap_stops on cs rest h

-- Names.

name_end : (rest : List ℕ) (start : Pos) (name : List ℕ) (place : Pos) → begins is_name_part rest ≡ false → in_name start name place rest ≡ behind (name_token start name) (tokens_from place rest)
name_end [] start name place h = refl
name_end (c ∷ cs) start name place h = rw h refl

name_read : (cs rest : List ℕ) (start : Pos) (name : List ℕ) (place : Pos) → Each is_name_part cs → begins is_name_part rest ≡ false → in_name start name place (cs ++ rest) ≡ behind (name_token start (name ++ cs)) (tokens_from (place_after place cs rest) rest)
name_read [] rest start name place each stop = rw append-nil (name_end rest start name place stop)
name_read (c ∷ cs) rest start name place each stop =
    rw each.0 (name_read cs rest start (name ++ c ∷ []) (next_place place c (cs ++ rest)) each.1 stop
    ∙ ap (λ n. behind (name_token start n) (tokens_from (place_after (next_place place c (cs ++ rest)) cs rest) rest)) (append_assoc name (c ∷ []) cs))

-- the longest name ends where no part of a name follows
name_stops : (name cs rest : List ℕ) → IsToken (lexeme.Name name) cs rest → begins is_name_part rest ≡ false
name_stops name cs [] h = refl
name_stops name cs (d ∷ ds) h = stops (is_name_part d) refl
  where
    stops : (b : Bool) → is_name_part d ≡ b → b ≡ false
    stops false e = refl
    stops true e =
        absurd (h.longest (lexeme.Name (encode_utf8_all (cs ++ d ∷ []))) d [] ds refl
        (is_named (cs ++ d ∷ []) (front cs (name_begins cs h.spelled.0)) (each_append is_name_part cs (d ∷ []) (name_parts cs h.spelled.0) (e, tt)), refl))
      where
        front : (a : List ℕ) → begins is_name_start a ≡ true → begins is_name_start (a ++ d ∷ []) ≡ true
        front [] k = let j : false ≡ true = k in absurd cc
        front (c ∷ more) k = k

name_token_read : (name cs rest : List ℕ) (place : Pos) → IsToken (lexeme.Name name) cs rest → tokens_from place (cs ++ rest) ≡ behind (token_at place (lexeme.Name name)) (tokens_from (place_after place cs rest) rest)
name_token_read name [] rest place h = let k : false ≡ true = h.spelled.0 in absurd cc
name_token_read name (c ∷ cs) rest place h =
    let first : is_name_start c ≡ true = name_begins (c ∷ cs) h.spelled.0 in
    let plain : is_ignored c ≡ false = grind (arith, nat_tests) in
    let unhashed : (c == hash) ≡ false = grind (arith, nat_tests) in
    let bang : (c == 33) ≡ false = grind (arith, nat_tests) in
    let opens : (c == 91) ≡ false = grind (arith, nat_tests) in
    let closes : (c == 93) ≡ false = grind (arith, nat_tests) in
    rw plain (rw unhashed (rw bang (rw opens (rw closes (rw first
    (name_read cs rest place (c ∷ []) (next_place place c (cs ++ rest)) (name_parts (c ∷ cs) h.spelled.0).1 (name_stops name (c ∷ cs) rest h)
    ∙ ap (λ n. behind (token_at place (lexeme.Name n)) (tokens_from (place_after (next_place place c (cs ++ rest)) cs rest) rest)) (sym h.spelled.1)))))))

-- Other tokens.

sign_read : (p : Punctuator) (rest : List ℕ) (place : Pos) (tokens : List Token) (others : Option (List Token)) → tokens_from (place_after place (characters_of p) rest) rest ≡ others
    → tokens_from place (characters_of p ++ rest) ≡ typed_step (lexeme.Punctuator p) (token_at place (lexeme.Punctuator p)) tokens others
sign_read sign.Bang rest place tokens others h = ap (behind _) h
sign_read sign.OpenBracket rest place tokens others h = ap (behind _) h
sign_read sign.CloseBracket rest place tokens others h = ap (behind _) h
sign_read sign.Dollar rest place tokens others h = refl
sign_read sign.Ampersand rest place tokens others h = refl
sign_read sign.OpenParen rest place tokens others h = refl
sign_read sign.CloseParen rest place tokens others h = refl
sign_read sign.Spread rest place tokens others h = refl
sign_read sign.Colon rest place tokens others h = refl
sign_read sign.Equals rest place tokens others h = refl
sign_read sign.At rest place tokens others h = refl
sign_read sign.OpenBrace rest place tokens others h = refl
sign_read sign.Pipe rest place tokens others h = refl
sign_read sign.CloseBrace rest place tokens others h = refl

number_read : (cs rest : List ℕ) (place : Pos) → begins (begins_class numeric) cs ≡ true → tokens_from place (cs ++ rest) ≡ None
unfolding begins_class
number_read [] rest place h = let k : false ≡ true = h in absurd cc
number_read (c ∷ cs) rest place h =
    no_token place c (cs ++ rest) (grind (arith, nat_tests)) (grind (arith, nat_tests)) (grind (arith, nat_tests)) (grind (arith, nat_tests)) (grind (arith, nat_tests)) (grind (arith, nat_tests))

string_read : (cs rest : List ℕ) (place : Pos) → begins (begins_class quoting) cs ≡ true → tokens_from place (cs ++ rest) ≡ None
unfolding begins_class
string_read [] rest place h = let k : false ≡ true = h in absurd cc
string_read (c ∷ cs) rest place h =
    no_token place c (cs ++ rest) (grind (arith, nat_tests)) (grind (arith, nat_tests)) (grind (arith, nat_tests)) (grind (arith, nat_tests)) (grind (arith, nat_tests)) (grind (arith, nat_tests))

token_read : (l : Lexeme) (cs rest : List ℕ) (place : Pos) (tokens : List Token) (others : Option (List Token)) → IsToken l cs rest → tokens_from (place_after place cs rest) rest ≡ others
    → tokens_from place (cs ++ rest) ≡ typed_step l (token_at place l) tokens others
unfolding class_of
token_read (lexeme.Punctuator p) cs rest place tokens others h next =
    ap (λ a. tokens_from place (a ++ rest)) h.spelled
    ∙ sign_read p rest place tokens others (ap (λ a. tokens_from (place_after place a rest) rest) (sym h.spelled) ∙ next)
token_read (lexeme.Name n) cs rest place tokens others h next = name_token_read n cs rest place h ∙ ap (behind (token_at place (lexeme.Name n))) next
token_read (lexeme.Number n) cs rest place tokens others h next = number_read cs rest place (spelling_begins (lexeme.Number n) cs h.spelled)
token_read (lexeme.String s) cs rest place tokens others h next = string_read cs rest place (spelling_begins (lexeme.String s) cs h.spelled)
token_read lexeme.End cs rest place tokens others h next = absurd h.spelled
token_read lexeme.Unexpected cs rest place tokens others h next = absurd h.spelled
token_read lexeme.Unsupported cs rest place tokens others h next = number_read cs rest place (spelling_begins lexeme.Unsupported cs h.spelled)

-- The last token.

no_sign : (p : Punctuator) (k c : ℕ) (cs : List ℕ) → characters_of p ≡ k ∷ [] → BeginsNoToken (c ∷ cs) → (c == k) ≡ false
no_sign p k c cs one none = decide (c == k) refl
  where
    decide : (b : Bool) → (c == k) ≡ b → b ≡ false
    decide false e = refl
    decide true e =
        let same : c ≡ k = grind (arith, nat_tests) in
        elim (stands_punctuator p c cs (one ∙ ap (λ a. a ∷ []) (sym same))) [
          | inl final ↦ absurd final
          | inr (within, token, more) ↦ absurd (none (lexeme.Punctuator p) (c ∷ []) cs refl token)
        ]

no_name : (c : ℕ) (cs : List ℕ) → BeginsNoToken (c ∷ cs) → is_name_start c ≡ false
no_name c cs none = decide (is_name_start c) refl
  where
    text : List ℕ
    text = c ∷ cs

    size : ℕ
    size = prefix_len is_name_part text

    decide : (b : Bool) → is_name_start c ≡ b → b ≡ false
    decide false e = refl
    decide true e =
        elim (stands_name text size e refl) [
          | inl final ↦ absurd final
          | inr (within, token, more) ↦ absurd (none (lexeme.Name (encode_utf8_all (take size text))) (take size text) (drop size text) (sym (take-append-drop size text)) token)
        ]

last_read : (l : Lexeme) (rest : List ℕ) (place : Pos) (others : Option (List Token)) → begins (goes_on false) rest ≡ false → Finishes l rest
    → tokens_from place rest ≡ typed_step l (token_at place l) [] others
unfolding begins_class class_of
last_read (lexeme.Punctuator p) rest place others stop h = absurd h
last_read (lexeme.Name n) rest place others stop h = absurd h
last_read (lexeme.Number n) rest place others stop h = absurd h
last_read (lexeme.String s) rest place others stop h = absurd h
last_read lexeme.End rest place others stop h = ap (tokens_from place) h
last_read lexeme.Unexpected [] place others stop h = absurd (h.0 refl)
last_read lexeme.Unexpected (c ∷ cs) place others stop h =
    no_token place c cs (grind (arith, nat_tests)) (grind (arith, nat_tests))
    (no_sign sign.Bang 33 c cs refl h.1) (no_sign sign.OpenBracket 91 c cs refl h.1) (no_sign sign.CloseBracket 93 c cs refl h.1) (no_name c cs h.1)
last_read lexeme.Unsupported rest place others stop (cs, more, e, token) =
    ap (tokens_from place) e ∙ number_read cs more place (spelling_begins lexeme.Unsupported cs token.spelled)

-- All tokens.

tokens_match : (tokens : List Token) (place : Pos) (text : List ℕ) → Lexes place text tokens → tokens_from place text ≡ typed tokens
tokens_match [] place text h = absurd h
tokens_match (token ∷ tokens) place text (gap, rest, cut, skips, at, ends) =
    ap (tokens_from place) cut ∙ gap_skipped gap rest place skips ∙ ap (λ p. tokens_from p rest) (sym at)
    ∙ elim ends as (λ _. tokens_from token.pos rest ≡ typed (token ∷ tokens)) [
      | inl (final, none) ↦
          last_read token.lexeme rest token.pos (typed tokens) (gap_stops false gap rest skips) final
          ∙ ap (λ ts. typed_step token.lexeme token ts (typed tokens)) (sym none)
      | inr (cs, behind, front, is, plain, lexed) ↦
          ap (tokens_from token.pos) front
          ∙ token_read token.lexeme cs behind token.pos tokens (typed tokens) is (tokens_match tokens (place_after token.pos cs behind) behind lexed)
    ]

-- Types have no other tokens.

step_same : (l : Lexeme) (token : Token) (tokens : List Token) (others : Option (List Token)) → (others ≡ None) ⊎ (others ≡ Some tokens)
    → (typed_step l token tokens others ≡ None) ⊎ (typed_step l token tokens others ≡ Some (token ∷ tokens))
step_same (lexeme.Punctuator sign.Bang) token tokens others h = elim h [ inl e ↦ inl (ap (behind token) e) | inr e ↦ inr (ap (behind token) e) ]
step_same (lexeme.Punctuator sign.OpenBracket) token tokens others h = elim h [ inl e ↦ inl (ap (behind token) e) | inr e ↦ inr (ap (behind token) e) ]
step_same (lexeme.Punctuator sign.CloseBracket) token tokens others h = elim h [ inl e ↦ inl (ap (behind token) e) | inr e ↦ inr (ap (behind token) e) ]
step_same (lexeme.Punctuator sign.Dollar) token tokens others h = inl refl
step_same (lexeme.Punctuator sign.Ampersand) token tokens others h = inl refl
step_same (lexeme.Punctuator sign.OpenParen) token tokens others h = inl refl
step_same (lexeme.Punctuator sign.CloseParen) token tokens others h = inl refl
step_same (lexeme.Punctuator sign.Spread) token tokens others h = inl refl
step_same (lexeme.Punctuator sign.Colon) token tokens others h = inl refl
step_same (lexeme.Punctuator sign.Equals) token tokens others h = inl refl
step_same (lexeme.Punctuator sign.At) token tokens others h = inl refl
step_same (lexeme.Punctuator sign.OpenBrace) token tokens others h = inl refl
step_same (lexeme.Punctuator sign.Pipe) token tokens others h = inl refl
step_same (lexeme.Punctuator sign.CloseBrace) token tokens others h = inl refl
step_same (lexeme.Name n) token tokens others h = elim h [ inl e ↦ inl (ap (behind token) e) | inr e ↦ inr (ap (behind token) e) ]
step_same (lexeme.Number n) token tokens others h = inl refl
step_same (lexeme.String s) token tokens others h = inl refl
step_same lexeme.End token tokens others h = inr refl
step_same lexeme.Unexpected token tokens others h = inl refl
step_same lexeme.Unsupported token tokens others h = inl refl

typed_same : (tokens : List Token) → (typed tokens ≡ None) ⊎ (typed tokens ≡ Some tokens)
typed_same [] = inl refl
typed_same (token ∷ tokens) = step_same token.lexeme token tokens (typed tokens) (typed_same tokens)

abbrev fits : Lexeme → Bool
fits (lexeme.Punctuator sign.Bang) = true
fits (lexeme.Punctuator sign.OpenBracket) = true
fits (lexeme.Punctuator sign.CloseBracket) = true
fits (lexeme.Name name) = true
fits _ = false

abbrev Fits : Word → Type 0
Fits [] = Unit {0}
Fits (m ∷ ms) = (fits m.token.lexeme ≡ true) × Fits ms

fits_append : (a b : Word) → Fits a → Fits b → Fits (a ++ b)
fits_append [] b h k = k
fits_append (m ∷ ms) b h k = (h.0, fits_append ms b h.1 k)

fits_joined : (a b c : Word) → c ≡ a ++ b → Fits a → Fits b → Fits c
fits_joined a b c e h k = subst Fits (sym e) (fits_append a b h k)

mutual
  fits_type : (levels : ℕ) (t : TypeRef) (ms : Word) → IsType levels t ms → Fits ms
  fits_type levels (type.Named name) ms (pos, e) = subst Fits (sym e) (refl, tt)
  fits_type levels (type.List' s row) ms (x, y, e, (p, bracket), (a, b, h, inner, (q, close))) =
      fits_joined x y ms e (subst Fits (sym bracket) (refl, tt)) (fits_joined a b y h (fits_row (pred levels) row a inner) (subst Fits (sym close) (refl, tt)))
  fits_type levels (type.NonNull' s row) ms (x, y, e, inner, (q, bang)) =
      fits_joined x y ms e (fits_nullable_row levels row x inner) (subst Fits (sym bang) (refl, tt))

  fits_nullable : (levels : ℕ) (t : TypeRef) (ms : Word) → IsNullableType levels t ms → Fits ms
  fits_nullable levels (type.Named name) ms (pos, e) = subst Fits (sym e) (refl, tt)
  fits_nullable levels (type.List' s row) ms (x, y, e, (p, bracket), (a, b, h, inner, (q, close))) =
      fits_joined x y ms e (subst Fits (sym bracket) (refl, tt)) (fits_joined a b y h (fits_row (pred levels) row a inner) (subst Fits (sym close) (refl, tt)))
  fits_nullable levels (type.NonNull' s row) ms none = absurd none

  fits_row : (levels : ℕ) {m : Count} (row : Row_of-TypeRef m) (ms : Word) → IsTypeIn levels row ms → Fits ms
  fits_row levels end_of-TypeRef ms h = absurd h
  fits_row levels (more_of-TypeRef inner others) ms h = fits_type levels inner ms h

  fits_nullable_row : (levels : ℕ) {m : Count} (row : Row_of-TypeRef m) (ms : Word) → IsNullableIn levels row ms → Fits ms
  fits_nullable_row levels end_of-TypeRef ms h = absurd h
  fits_nullable_row levels (more_of-TypeRef inner others) ms h = fits_nullable levels inner ms h

step_fits : (l : Lexeme) (token : Token) (tokens : List Token) (others : Option (List Token)) → fits l ≡ true → typed_step l token tokens others ≡ behind token others
step_fits (lexeme.Punctuator sign.Bang) token tokens others h = refl
step_fits (lexeme.Punctuator sign.OpenBracket) token tokens others h = refl
step_fits (lexeme.Punctuator sign.CloseBracket) token tokens others h = refl
step_fits (lexeme.Name n) token tokens others h = refl
step_fits (lexeme.Punctuator sign.Dollar) token tokens others h = absurd cc
step_fits (lexeme.Punctuator sign.Ampersand) token tokens others h = absurd cc
step_fits (lexeme.Punctuator sign.OpenParen) token tokens others h = absurd cc
step_fits (lexeme.Punctuator sign.CloseParen) token tokens others h = absurd cc
step_fits (lexeme.Punctuator sign.Spread) token tokens others h = absurd cc
step_fits (lexeme.Punctuator sign.Colon) token tokens others h = absurd cc
step_fits (lexeme.Punctuator sign.Equals) token tokens others h = absurd cc
step_fits (lexeme.Punctuator sign.At) token tokens others h = absurd cc
step_fits (lexeme.Punctuator sign.OpenBrace) token tokens others h = absurd cc
step_fits (lexeme.Punctuator sign.Pipe) token tokens others h = absurd cc
step_fits (lexeme.Punctuator sign.CloseBrace) token tokens others h = absurd cc
step_fits (lexeme.Number n) token tokens others h = absurd cc
step_fits (lexeme.String s) token tokens others h = absurd cc
step_fits lexeme.End token tokens others h = absurd cc
step_fits lexeme.Unexpected token tokens others h = absurd cc
step_fits lexeme.Unsupported token tokens others h = absurd cc

typed_word : (a b : Word) → Fits a → One lexeme.End b → typed (tokens_of (a ++ b)) ≡ Some (tokens_of (a ++ b))
typed_word [] b h (pos, e) = subst (λ w. typed (tokens_of w) ≡ Some (tokens_of w)) (sym e) refl
typed_word (m ∷ ms) b h last =
    step_fits m.token.lexeme m.token (tokens_of (ms ++ b)) (typed (tokens_of (ms ++ b))) h.0 ∙ ap (behind m.token) (typed_word ms b h.1 last)

typed_type : (text : List ℕ) (t : TypeRef) (s : SpellsType text t) → typed s.tokens ≡ Some s.tokens
typed_type text t s =
    let (a, b, e, ty, last) = s.derived.derived in
    subst (λ ts. typed ts ≡ Some ts) (ap tokens_of (sym e) ∙ s.derived.same) (typed_word a b (fits_type max_levels t a ty) last)

-- The type of a text.

type_found_by : (text : List ℕ) (outcome : Result TypeRef ParseFault) → GivesType text outcome → type_of_tokens (tokens_from text_start text) ≡ result_ok outcome
type_found_by text (Ok t) s =
    ap type_of_tokens (tokens_match s.tokens text_start text s.lexed ∙ typed_type text t s) ∙ ap result_ok (type_spelled text s.tokens s.lexed t s)
type_found_by text (Err fault) s =
    ap type_of_tokens (tokens_match s.tokens text_start text s.lexed)
    ∙ elim (typed_same s.tokens) as (λ _. type_of_tokens (typed s.tokens) ≡ None) [
      | inl none ↦ ap type_of_tokens none
      | inr some ↦ ap type_of_tokens some ∙ ap result_ok (type_faulty text s.tokens s.lexed fault s)
    ]

-- what the parser of types gives is what the function gives
pub type_found : (text : List ℕ) (outcome : Result TypeRef ParseFault) → GivesType (chars text) outcome → type_in text ≡ result_ok outcome
type_found text outcome h = type_found_by (chars text) outcome h
