-- A text has one list of tokens.
use Rattle.std.proofs.Common.{◌≡◌, ℕ, false, ◌⊎◌, List, [], ◌∷◌, ◌++◌, refl, sym, ap, ◌∙◌, inl, inr, ap₂, subst, subst₂}
use Rattle.gql_base.specs.declared.pos.Pos.{Pos}
use Rattle.gql_tokens.specs.declared.token.Lexeme.{Lexeme}
use Rattle.gql_tokens.specs.declared.token.Lexeme.TheVariants as lexemes
use Rattle.gql_tokens.specs.declared.token.Token.{Token}
use Rattle.gql_tokens.specs.Place.{place_after}
use Rattle.gql_tokens.specs.Token.{Spells, IsToken, is_final}
use Rattle.gql_tokens.specs.Lexer.{Finishes, Lexes}
use Rattle.gql_tokens.proofs.GapLaws.{gap_unique}
use Rattle.gql_tokens.proofs.TokenLaws.{spelling_begins, token_unique}

-- a token is written with at least one character
pub token_not_empty : (l : Lexeme) (cs rest : List ℕ) → IsToken l cs rest → cs ≡ [] → ⊥
token_not_empty l cs rest h e = let k = spelling_begins l [] (subst (Spells l) e h.spelled) in cc

-- so none begins an empty text
pub empty_begins_none : (l : Lexeme) (text cs rest : List ℕ) → text ≡ [] → text ≡ cs ++ rest → IsToken l cs rest → ⊥
empty_begins_none l text [] rest h e k = token_not_empty l [] rest k refl
empty_begins_none l text (c ∷ cs) rest h e k = cc

-- where the tokens end, no further one begins
finish_apart : (l m : Lexeme) (text cs rest : List ℕ) → Finishes l text → text ≡ cs ++ rest → IsToken m cs rest → is_final m ≡ false → ⊥
finish_apart lexemes.End m text cs rest h e k f = empty_begins_none m text cs rest h e k
finish_apart lexemes.Unexpected m text cs rest h e k f = h.1 m cs rest e k
finish_apart lexemes.Unsupported m text cs rest h e k f =
    let same = (token_unique lexemes.Unsupported m h.0 cs h.1 rest h.3 k (sym h.2 ∙ e)).0 in
    let no = ap is_final same in cc
finish_apart (lexemes.Punctuator p) m text cs rest h e k f = h
finish_apart (lexemes.Name p) m text cs rest h e k f = h
finish_apart (lexemes.Number p) m text cs rest h e k f = h
finish_apart (lexemes.String p) m text cs rest h e k f = h

finish_unique : (l m : Lexeme) (text : List ℕ) → Finishes l text → Finishes m text → l ≡ m
finish_unique lexemes.End lexemes.End text h k = refl
finish_unique lexemes.End lexemes.Unexpected text h k = absurd (k.0 h)
finish_unique lexemes.End lexemes.Unsupported text h k = absurd (empty_begins_none _ text _ _ h k.2 k.3)
finish_unique lexemes.Unexpected lexemes.End text h k = absurd (h.0 k)
finish_unique lexemes.Unexpected lexemes.Unexpected text h k = refl
finish_unique lexemes.Unexpected lexemes.Unsupported text h k = absurd (h.1 _ _ _ k.2 k.3)
finish_unique lexemes.Unsupported lexemes.End text h k = absurd (empty_begins_none _ text _ _ k h.2 h.3)
finish_unique lexemes.Unsupported lexemes.Unexpected text h k = absurd (k.1 _ _ _ h.2 h.3)
finish_unique lexemes.Unsupported lexemes.Unsupported text h k = refl
finish_unique (lexemes.Punctuator p) m text h k = absurd h
finish_unique (lexemes.Name p) m text h k = absurd h
finish_unique (lexemes.Number p) m text h k = absurd h
finish_unique (lexemes.String p) m text h k = absurd h
finish_unique l (lexemes.Punctuator p) text h k = absurd k
finish_unique l (lexemes.Name p) text h k = absurd k
finish_unique l (lexemes.Number p) text h k = absurd k
finish_unique l (lexemes.String p) text h k = absurd k

same_token : (t u : Token) → t.lexeme ≡ u.lexeme → t.pos ≡ u.pos → t ≡ u
same_token t u p q = λ i. record { lexeme = p i; pos = q i }

-- what stands at a token's place, and after it
abbrev Continues : Token → List Token → List ℕ → Type 0
Continues t ts text =
    (Finishes t.lexeme text × (ts ≡ []))
    ⊎ ((cs : List ℕ) × (rest : List ℕ) × (text ≡ cs ++ rest) × IsToken t.lexeme cs rest
    × (is_final t.lexeme ≡ false) × Lexes (place_after t.pos cs rest) rest ts)

continues_unique : (t u : Token) (ts us : List Token) (text : List ℕ) → t.pos ≡ u.pos
    → ((place : Pos) (rest : List ℕ) → Lexes place rest ts → Lexes place rest us → ts ≡ us)
    → Continues t ts text → Continues u us text → t ∷ ts ≡ u ∷ us
continues_unique t u ts us text at more (inl a) (inl b) =
    let token = same_token t u (finish_unique t.lexeme u.lexeme text a.0 b.0) at in
    let none = a.1 in let nothing = b.1 in cc
continues_unique t u ts us text at more (inl a) (inr b) = absurd (finish_apart t.lexeme u.lexeme text b.0 b.1 a.0 b.2 b.3 b.4)
continues_unique t u ts us text at more (inr a) (inl b) = absurd (finish_apart u.lexeme t.lexeme text a.0 a.1 b.0 a.2 a.3 a.4)
continues_unique t u ts us text at more (inr a) (inr b) =
    let same = token_unique t.lexeme u.lexeme a.0 b.0 a.1 b.1 a.3 b.3 (sym a.2 ∙ b.2) in
    let token = same_token t u same.0 at in
    let place = ap₂ (place_after t.pos) same.1 same.2 ∙ ap (λ p. place_after p b.0 b.1) at in
    let others = more (place_after u.pos b.0 b.1) b.1 (subst₂ (λ p x. Lexes p x ts) place same.2 a.5) b.5 in
    ap₂ ◌∷◌ token others

-- a text has one list of tokens
pub lexes_unique : (place : Pos) (text : List ℕ) (ts us : List Token) → Lexes place text ts → Lexes place text us → ts ≡ us
lexes_unique place text [] us h k = absurd h
lexes_unique place text (t ∷ ts) [] h k = absurd k
lexes_unique place text (t ∷ ts) (u ∷ us) h k =
    let (gap, behind) = gap_unique false h.0 k.0 h.1 k.1 h.3 k.3 (sym h.2 ∙ k.2) in
    let at : t.pos ≡ u.pos = h.4 ∙ ap₂ (place_after place) gap behind ∙ sym k.4 in
    continues_unique t u ts us k.1 at (λ p x a b. lexes_unique p x ts us a b) (subst (Continues t ts) behind h.5) k.5
