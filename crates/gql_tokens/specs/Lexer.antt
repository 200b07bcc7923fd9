-- The tokens of a text (GraphQL, October 2021, section 2.1.6).
use Rattle.std.specs.Prelude.{◌≡◌, ◌≢◌, ℕ, true, false, ◌⊎◌, List, [], ◌∷◌, ◌++◌}
use Rattle.gql_base.specs.declared.pos.Pos.{Pos}
use Rattle.gql_tokens.specs.declared.token.Lexeme.{Lexeme}
use Rattle.gql_tokens.specs.declared.token.Lexeme.TheVariants as lexemes
use Rattle.gql_tokens.specs.declared.token.Token.{Token}
use Rattle.gql_tokens.specs.Gap.{IsGap}
use Rattle.gql_tokens.specs.Place.{place_after}
use Rattle.gql_tokens.specs.Token.{IsToken, is_final}

-- no token begins the text
abbrev pub BeginsNoToken : List ℕ → Type 0
BeginsNoToken text =
    (lexeme : Lexeme) (cs rest : List ℕ) → text ≡ cs ++ rest → IsToken lexeme cs rest → ⊥

-- how the tokens of a text end, with nothing ignored before `text`: it is empty, no token begins
-- it, or it begins with a number that isn't supported
abbrev pub Finishes : Lexeme → List ℕ → Type 0
Finishes lexemes.End text = text ≡ []
Finishes lexemes.Unexpected text = (text ≢ []) × BeginsNoToken text
Finishes lexemes.Unsupported text =
    (cs : List ℕ) × (rest : List ℕ) × (text ≡ cs ++ rest) × IsToken lexemes.Unsupported cs rest
Finishes _ text = ⊥

-- The tokens of a text that begins at a place, each at the place of its first character. The last
-- is the only final one.
abbrev pub Lexes : Pos → List ℕ → List Token → Type 0
Lexes place text [] = ⊥
Lexes place text (token ∷ tokens) =
    (gap : List ℕ) × (behind : List ℕ) × (text ≡ gap ++ behind) × IsGap false gap behind
    × (token.pos ≡ place_after place gap behind)
    × ((Finishes token.lexeme behind × (tokens ≡ []))
    ⊎ ((cs : List ℕ) × (rest : List ℕ) × (behind ≡ cs ++ rest) × IsToken token.lexeme cs rest
    × (is_final token.lexeme ≡ false) × Lexes (place_after token.pos cs rest) rest tokens))

-- the last token after this one is final, or this one where none stands after it, and no other is
abbrev pub EndFinallyFrom : Token → List Token → Type 0
EndFinallyFrom token [] = is_final token.lexeme ≡ true
EndFinallyFrom token (next ∷ tokens) = (is_final token.lexeme ≡ false) × EndFinallyFrom next tokens

-- the last token is final, and no other is
abbrev pub EndFinally : List Token → Type 0
EndFinally [] = ⊥
EndFinally (token ∷ tokens) = EndFinallyFrom token tokens
