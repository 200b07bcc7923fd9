-- Places after one piece of text after another.
use Rattle.std.proofs.Common.{◌≡◌, ℕ, ℤ, ◌+◌, ◌≤◌, Bool, true, false, if◌then◌else◌, ◌⊎◌, List, [], ◌∷◌, ◌++◌, refl, sym, ap, subst, ◌∙◌, inl, inr, arith, append_assoc, length}
use Rattle.std.proofs.lemmas.Bool.Decides.{nat_tests}
use Rattle.gql_base.specs.declared.pos.Pos.{Pos}
use Rattle.gql_tokens.specs.declared.token.Punctuator.{Punctuator}
use Rattle.gql_tokens.specs.declared.token.Punctuator.TheVariants as punctuators
use Rattle.gql_tokens.specs.declared.token.Lexeme.{Lexeme}
use Rattle.gql_tokens.specs.declared.token.Lexeme.TheVariants as lexemes
use Rattle.gql_base.specs.Letters.{is_name_part}
use Rattle.gql_tokens.specs.Characters.{is_line_character}
use Rattle.gql_tokens.specs.Place.{ends_line, next_place, place_after}
use Rattle.gql_tokens.specs.Token.{characters_of, Spells}
use Rattle.gql_tokens.proofs.NameLaws.{name_parts}
use Rattle.gql_tokens.proofs.NumberLaws.{of_integer, integer_of_integer}
use Rattle.gql_tokens.proofs.Lists.{Each, each_same, each_weaker}

pub place_after-append : (place : Pos) (a b rest : List ℕ) → place_after place (a ++ b) rest ≡ place_after (place_after place a (b ++ rest)) b rest
place_after-append place [] b rest = refl
place_after-append place (c ∷ a) b rest =
    ap (λ l. place_after (next_place place c l) (a ++ b) rest) (append_assoc a b rest)
    ∙ place_after-append (next_place place c (a ++ (b ++ rest))) a b rest

-- after one character a place has at most one line or column more
next_place_bound : (place : Pos) (c : ℕ) (rest : List ℕ)
    → ((next_place place c rest).line ≤ place.line + 1) × ((next_place place c rest).column ≤ place.column + 1)
next_place_bound place c rest = go (ends_line c rest)
  where
    next : Bool → Pos
    next b = if b then record { line = place.line + 1; column = 1 } else record { line = place.line; column = place.column + 1 }

    go : (b : Bool) → ((next b).line ≤ place.line + 1) × ((next b).column ≤ place.column + 1)
    go true = (omega arith, omega arith)
    go false = (omega arith, omega arith)

-- after so many characters a place has at most as many lines and columns more
pub place_after_bound : (place : Pos) (cs rest : List ℕ)
    → ((place_after place cs rest).line ≤ place.line + length cs) × ((place_after place cs rest).column ≤ place.column + length cs)
place_after_bound place [] rest = (omega arith, omega arith)
place_after_bound place (c ∷ cs) rest =
    let step = next_place_bound place c (cs ++ rest) in
    let more = place_after_bound (next_place place c (cs ++ rest)) cs rest in
    (omega (arith, step.0, more.0), omega (arith, step.1, more.1))

-- the place at a column of the same line
abbrev pub at_column : Pos → ℕ → Pos
at_column place column = record { line = place.line; column = column }

ends_no_line : (c : ℕ) (rest : List ℕ) → is_line_character c ≡ true → ends_line c rest ≡ false
ends_no_line c rest h = grind (arith, nat_tests)

-- the place after characters of which none ends a line
place_after_plain : (place : Pos) (cs rest : List ℕ) → Each is_line_character cs → place_after place cs rest ≡ at_column place (place.column + length cs)
place_after_plain place [] rest h = ap (at_column place) (omega arith)
place_after_plain place (c ∷ cs) rest h =
    let next = at_column place (place.column + 1) in
    ap (λ ends. place_after (if ends then record { line = place.line + 1; column = 1 } else next) cs rest) (ends_no_line c (cs ++ rest) h.0)
    ∙ place_after_plain next cs rest h.1 ∙ ap (at_column place) (omega arith)

name_plain : (c : ℕ) → is_name_part c ≡ true → is_line_character c ≡ true
name_plain c h = grind (arith, nat_tests)

punctuator_plain : (p : Punctuator) → Each is_line_character (characters_of p)
punctuator_plain punctuators.Bang = (refl, tt)
punctuator_plain punctuators.Dollar = (refl, tt)
punctuator_plain punctuators.Ampersand = (refl, tt)
punctuator_plain punctuators.OpenParen = (refl, tt)
punctuator_plain punctuators.CloseParen = (refl, tt)
punctuator_plain punctuators.Spread = (refl, (refl, (refl, tt)))
punctuator_plain punctuators.Colon = (refl, tt)
punctuator_plain punctuators.Equals = (refl, tt)
punctuator_plain punctuators.At = (refl, tt)
punctuator_plain punctuators.OpenBracket = (refl, tt)
punctuator_plain punctuators.CloseBracket = (refl, tt)
punctuator_plain punctuators.OpenBrace = (refl, tt)
punctuator_plain punctuators.Pipe = (refl, tt)
punctuator_plain punctuators.CloseBrace = (refl, tt)

integer_plain : (c : ℕ) → of_integer c ≡ true → is_line_character c ≡ true
unfolding of_integer
integer_plain c h = grind (arith, nat_tests)

-- a punctuator, a name or a number
abbrev pub IsUnbroken : Lexeme → Type 0
IsUnbroken l = ((p : Punctuator) × (l ≡ lexemes.Punctuator p)) ⊎ (((name : List ℕ) × (l ≡ lexemes.Name name)) ⊎ ((number : ℤ) × (l ≡ lexemes.Number number)))

-- the place after a punctuator, a name or a number
pub place_after_unbroken : (place : Pos) (l : Lexeme) (cs rest : List ℕ) → Spells l cs → IsUnbroken l
    → place_after place cs rest ≡ at_column place (place.column + length cs)
place_after_unbroken place l cs rest h (inl e) =
    place_after_plain place cs rest (each_same is_line_character (sym (subst (λ k. Spells k cs) e.1 h)) (punctuator_plain e.0))
place_after_unbroken place l cs rest h (inr (inl e)) =
    place_after_plain place cs rest (each_weaker is_name_part is_line_character cs name_plain (name_parts cs (subst (λ k. Spells k cs) e.1 h).0))
place_after_unbroken place l cs rest h (inr (inr e)) =
    place_after_plain place cs rest (each_weaker of_integer is_line_character cs integer_plain (integer_of_integer cs (subst (λ k. Spells k cs) e.1 h).0))
