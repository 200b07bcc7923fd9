-- What is ignored and what tokens are written with may stand in a text.
use Rattle.std.proofs.Common.{◌≡◌, ℕ, Bool, true, false, List, [], ◌∷◌, refl, sym, inl, inr, arith, Some, ◌<◌}
use Rattle.std.specs.Char.{is_ascii_digit}
use Rattle.std.specs.Char.{digit_value}
use Rattle.std.proofs.lemmas.Bool.Decides.{nat_tests}
use Rattle.gql_tokens.specs.declared.token.Punctuator.{Punctuator}
use Rattle.gql_tokens.specs.declared.token.Punctuator.TheVariants as punctuators
use Rattle.gql_tokens.specs.declared.token.Lexeme.{Lexeme}
use Rattle.gql_tokens.specs.declared.token.Lexeme.TheVariants as lexemes
use Rattle.gql_base.specs.Letters.{is_name_part}
use Rattle.gql_tokens.specs.Characters.{is_source}
use Rattle.gql_tokens.specs.Gap.{Passes, IsGap}
use Rattle.gql_tokens.specs.Number.{begins_exponent, is_sign, IsDigits, IsWhole, IsInteger, IsFraction, IsPower, IsExponent, IsFloat, Optional}
use Rattle.gql_tokens.specs.String.{escaped, WritesCharacter, WritesCharacters, IsString}
use Rattle.gql_tokens.specs.Block.{Piece, written, ArePieces, IsBlockString, three_quotes}
use Rattle.gql_tokens.specs.Block.Piece.{itself, quotes}
use Rattle.gql_tokens.specs.Token.{characters_of, Spells}
use Rattle.gql_tokens.proofs.NameLaws.{name_parts}
use Rattle.gql_tokens.proofs.Lists.{Each, each_same, each_append, each_weaker}

passes_source : (b : Bool) (c : ℕ) (d : Bool) → Passes b c d → is_source c ≡ true
passes_source false c false h = grind (arith, nat_tests)
passes_source false c true h = grind (arith, nat_tests)
passes_source true c true h = grind (arith, nat_tests)
passes_source true c false h = grind (arith, nat_tests)

pub gap_source : (b : Bool) (gap rest : List ℕ) → IsGap b gap rest → Each is_source gap
gap_source b [] rest h = tt
gap_source b (c ∷ gap) rest h = (passes_source b c h.0 h.1, gap_source h.0 gap rest h.2)

name_source : (c : ℕ) → is_name_part c ≡ true → is_source c ≡ true
name_source c h = grind (arith, nat_tests)

digit_source : (c : ℕ) → is_ascii_digit c ≡ true → is_source c ≡ true
digit_source c h = grind (arith, nat_tests)

exponent_source : (c : ℕ) → begins_exponent c ≡ true → is_source c ≡ true
exponent_source c h = grind (arith, nat_tests)

sign_source : (c : ℕ) → is_sign c ≡ true → is_source c ≡ true
sign_source c h = grind (arith, nat_tests)

digits_source : (cs : List ℕ) → IsDigits cs → Each is_source cs
digits_source cs h = each_weaker is_ascii_digit is_source cs digit_source h.1

whole_source : (cs : List ℕ) → IsWhole cs → Each is_source cs
whole_source cs (inl e) = each_same is_source (sym e) (refl, tt)
whole_source cs (inr h) = digits_source cs h.0

integer_source : (cs : List ℕ) → IsInteger cs → Each is_source cs
integer_source cs (inl h) = whole_source cs h
integer_source cs (inr h) = each_same is_source (sym h.1) (refl, whole_source h.0 h.2)

fraction_source : (cs : List ℕ) → Optional IsFraction cs → Each is_source cs
fraction_source cs (inl e) = each_same is_source (sym e) tt
fraction_source cs (inr h) = each_same is_source (sym h.1) (refl, digits_source h.0 h.2)

power_source : (cs : List ℕ) → IsPower cs → Each is_source cs
power_source cs (inl h) = digits_source cs h
power_source cs (inr h) = each_same is_source (sym h.2) (sign_source h.0 h.3, digits_source h.1 h.4)

exponents_source : (cs : List ℕ) → Optional IsExponent cs → Each is_source cs
exponents_source cs (inl e) = each_same is_source (sym e) tt
exponents_source cs (inr h) = each_same is_source (sym h.2) (exponent_source h.0 h.3, power_source h.1 h.4)

float_source : (cs : List ℕ) → IsFloat cs → Each is_source cs
float_source cs h =
    let part = h.4 in
    each_same is_source (sym h.2)
    (each_append is_source h.0 h.1 (integer_source h.0 h.3)
    (each_same is_source (sym part.2) (each_append is_source part.0 part.1 (fraction_source part.0 part.3) (exponents_source part.1 part.4))))

escaped_source : (c v : ℕ) → escaped c ≡ Some v → is_source c ≡ true
escaped_source c v h = grind (arith, nat_tests)

hex_source : (c : ℕ) → digit_value c < 16 → is_source c ≡ true
hex_source c h = grind (arith, nat_tests)

character_source : (v : ℕ) (cs : List ℕ) → WritesCharacter v cs → Each is_source cs
character_source v cs (inl h) = each_same is_source (sym h.0) ((let k = h.1 in grind (arith, nat_tests)), tt)
character_source v cs (inr (inl h)) = each_same is_source (sym h.1) (refl, (escaped_source h.0 v h.2, tt))
character_source v cs (inr (inr h)) = each_same is_source (sym h.4) (refl, (refl, (hex_source h.0 h.5.0, (hex_source h.1 h.5.1.0, (hex_source h.2 h.5.1.1.0, (hex_source h.3 h.5.1.1.1.0, tt))))))

characters_source : (vs cs : List ℕ) → WritesCharacters vs cs → Each is_source cs
characters_source [] cs h = each_same is_source (sym h) tt
characters_source (v ∷ vs) cs h =
    each_same is_source (sym h.2) (each_append is_source h.0 h.1 (character_source v h.0 h.3) (characters_source vs h.1 h.4))

string_source : (v cs : List ℕ) → IsString v cs → Each is_source cs
string_source v cs h = each_same is_source (sym h.1) (refl, each_append is_source h.0 (34 ∷ []) (characters_source v h.0 h.2) (refl, tt))

pieces_source : (ps : List Piece) (rest : List ℕ) → ArePieces ps rest → Each is_source (written ps)
pieces_source [] rest h = tt
pieces_source (itself c ∷ ps) rest h = (h.0, pieces_source ps rest h.3)
pieces_source (quotes ∷ ps) rest h = (refl, (refl, (refl, (refl, pieces_source ps rest h))))

block_source : (v cs : List ℕ) → IsBlockString v cs → Each is_source cs
block_source v cs h =
    each_same is_source (sym h.1)
    (refl, (refl, (refl, each_append is_source (written h.0) three_quotes (pieces_source h.0 three_quotes h.2) (refl, (refl, (refl, tt))))))

punctuator_source : (p : Punctuator) → Each is_source (characters_of p)
punctuator_source punctuators.Bang = (refl, tt)
punctuator_source punctuators.Dollar = (refl, tt)
punctuator_source punctuators.Ampersand = (refl, tt)
punctuator_source punctuators.OpenParen = (refl, tt)
punctuator_source punctuators.CloseParen = (refl, tt)
punctuator_source punctuators.Spread = (refl, (refl, (refl, tt)))
punctuator_source punctuators.Colon = (refl, tt)
punctuator_source punctuators.Equals = (refl, tt)
punctuator_source punctuators.At = (refl, tt)
punctuator_source punctuators.OpenBracket = (refl, tt)
punctuator_source punctuators.CloseBracket = (refl, tt)
punctuator_source punctuators.OpenBrace = (refl, tt)
punctuator_source punctuators.Pipe = (refl, tt)
punctuator_source punctuators.CloseBrace = (refl, tt)

pub spelling_source : (l : Lexeme) (cs : List ℕ) → Spells l cs → Each is_source cs
spelling_source (lexemes.Punctuator p) cs h = each_same is_source (sym h) (punctuator_source p)
spelling_source (lexemes.Name n) cs h = each_weaker is_name_part is_source cs name_source (name_parts cs h.0)
spelling_source (lexemes.Number n) cs h = integer_source cs h.0
spelling_source (lexemes.String s) cs (v, inl h, e) = string_source v cs h
spelling_source (lexemes.String s) cs (v, inr h, e) = block_source v cs h
spelling_source lexemes.End cs h = absurd h
spelling_source lexemes.Unexpected cs h = absurd h
spelling_source lexemes.Unsupported cs (inl h) = float_source cs h
spelling_source lexemes.Unsupported cs (inr h) = integer_source cs h.0
