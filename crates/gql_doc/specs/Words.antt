-- Words of marked tokens, and languages over them. A word is a piece of a text as its tokens, where
-- a token that opens what is nested too deep carries a mark: so the grammar itself knows no limit,
-- and a text keeps within the limits where no token of it is marked.
use Rattle.std.specs.Prelude.{◌≡◌, ℕ, zero, suc, Bool, true, false, List, [], ◌∷◌, ◌++◌, Option}
use Rattle.std.specs.Prelude.{Some, None}
use Rattle.gql_base.specs.declared.pos.Pos.{Pos}
use Rattle.gql_base.specs.declared.name.Name.{Name}
use Rattle.gql_base.specs.declared.type_ref.TypeRef.{TypeRef}
use Rattle.gql_doc.specs.declared.document.Positioned.{Positioned}
use Rattle.gql_doc.specs.declared.tree.ValueTree.{ValueTree}
use Rattle.gql_tokens.specs.declared.token.Token.{Token}
use Rattle.gql_tokens.specs.declared.token.Lexeme.{Lexeme}
use Rattle.gql_tokens.specs.declared.token.Lexeme.TheVariants as lexeme
use Rattle.gql_tokens.specs.declared.token.Punctuator.{Punctuator}

infixr 6 ◌▸◌
abbrev pub Tokens : Type 0
Tokens = List Token

-- a name, a value and a type with their places
abbrev pub PlacedName : Type 0
PlacedName = Positioned Name

abbrev pub PlacedValue : Type 0
PlacedValue = Positioned ValueTree

abbrev pub PlacedType : Type 0
PlacedType = Positioned TypeRef

-- a token, and whether it opens what is nested too deep
pub record Marked : Type 0 where
  pub token : Token
  pub deep : Bool

abbrev pub Word : Type 0
Word = List Marked

-- the words of a part of the grammar
abbrev pub Language : Type 1
Language = Word → Type 0

-- the tokens of a word
abbrev pub tokens_of : Word → Tokens
tokens_of [] = []
tokens_of (m ∷ ms) = m.token ∷ tokens_of ms

-- nothing is nested too deep
abbrev pub NoneDeep : Word → Type 0
NoneDeep [] = Unit {0}
NoneDeep (m ∷ ms) = (m.deep ≡ false) × NoneDeep ms

-- the word's first token stands at the place
abbrev pub FirstAt : Pos → Word → Type 0
FirstAt pos [] = ⊥
FirstAt pos (m ∷ ms) = m.token.pos ≡ pos

abbrev pub plain : Token → Marked
plain token = record { token = token; deep = false }

-- no token
abbrev pub Nothing : Language
Nothing ms = ms ≡ []

-- first the one, then the other
abbrev pub ◌▸◌ : Language → Language → Language
◌▸◌ P Q ms = (a b : Word) × (ms ≡ a ++ b) × P a × Q b

-- one for each, in their order
abbrev pub Each : {A : Type 0} → (A → Language) → List A → Language
Each P [] = Nothing
Each P (x ∷ xs) = P x ▸ Each P xs

-- for a value that may be absent
abbrev pub Maybe : {A : Type 0} → (A → Language) → Option A → Language
Maybe P None = Nothing
Maybe P (Some x) = P x

-- the one token that says this, at this place
abbrev pub OneAt : Lexeme → Pos → Language
OneAt says pos ms = ms ≡ plain (record { lexeme = says; pos = pos }) ∷ []

-- the one token that says this, wherever it stands
abbrev pub One : Lexeme → Language
One says ms = (pos : Pos) × OneAt says pos ms

abbrev pub SignAt : Punctuator → Pos → Language
SignAt sign = OneAt (lexeme.Punctuator sign)

abbrev pub Sign : Punctuator → Language
Sign sign = One (lexeme.Punctuator sign)

abbrev pub Keyword : List ℕ → Language
Keyword text = One (lexeme.Name text)

abbrev pub KeywordAt : List ℕ → Pos → Language
KeywordAt text = OneAt (lexeme.Name text)

-- no level is left, so what opens now is nested too deep
abbrev pub none_left : ℕ → Bool
none_left zero = true
none_left (suc n) = false

-- an opening token, where so many levels are left
abbrev pub OpensAt : ℕ → Punctuator → Pos → Language
OpensAt levels sign pos ms =
    ms ≡ record
    { token = record { lexeme = lexeme.Punctuator sign; pos = pos }; deep = none_left levels } ∷ []

abbrev pub Opens : ℕ → Punctuator → Language
Opens levels sign ms = (pos : Pos) × OpensAt levels sign pos ms

-- what stands at its first token
abbrev pub Placed : Pos → Language → Language
Placed pos P ms = P ms × FirstAt pos ms
