-- Which tokens spell a tree, and which fault is the first one of tokens that spell none. `D` is the
-- grammar's part that is read, as whole documents: which words each tree is written as.
use Rattle.std.specs.Prelude.{◌≡◌, true, [], ◌∷◌, ◌++◌, Result, Ok, Err}
use Rattle.gql_tokens.specs.declared.token.Token.{Token}
use Rattle.gql_tokens.specs.declared.token.Lexeme.{Lexeme}
use Rattle.gql_tokens.specs.declared.token.Lexeme.TheVariants as lexeme
use Rattle.gql_doc.specs.declared.fault.ParseKind.{ParseKind}
use Rattle.gql_doc.specs.declared.fault.ParseKind.TheVariants as kind
use Rattle.gql_doc.specs.declared.fault.ParseFault.{ParseFault}
use Rattle.gql_doc.specs.Words.{Tokens, Word, Language, tokens_of, NoneDeep}

-- which kind of fault an unexpected token is: no token begins where the last one would, a number is
-- not supported, or it is a token in the wrong place
abbrev pub kind_of : Lexeme → ParseKind
kind_of lexeme.Unexpected = kind.Character
kind_of lexeme.Unsupported = kind.Number
kind_of _ = kind.Token

module _ {A : Type 0} (D : A → Language) where
  -- the tokens spell the tree, within the limits of nesting
  pub record Spells (tokens : Tokens) (tree : A) : Type 0 where
    pub word : Word
    pub derived : D tree word
    pub same : tokens_of word ≡ tokens
    pub within : NoneDeep word

  -- a tree's tokens begin with these, by the grammar alone: whatever is nested how deep
  pub record Begins (front : Tokens) : Type 0 where
    pub tree : A
    pub word : Word
    pub more : Tokens
    pub derived : D tree word
    pub same : tokens_of word ≡ front ++ more

  -- after these tokens, which open nothing too deep, this token does
  pub record OpensTooDeep (front : Tokens) (token : Token) : Type 0 where
    pub tree : A
    pub before : Word
    pub after : Word
    pub derived : D tree (before ++ record { token = token; deep = true } ∷ after)
    pub same : tokens_of before ≡ front
    pub within : NoneDeep before

  -- what is wrong with a token after these
  abbrev pub IsWrong : Tokens → Token → ParseKind → Type 0
  IsWrong front token kind.Nesting = OpensTooDeep front token
  IsWrong front token kind.Operations = ⊥
  IsWrong front token kind.Doubled = ⊥
  IsWrong front token k = (k ≡ kind_of token.lexeme) × ¬ Begins (front ++ token ∷ [])

  -- the fault stands at a token of these, and no fault stands before it
  pub record IsFault (tokens : Tokens) (fault : ParseFault) : Type 0 where
    pub front : Tokens
    pub token : Token
    pub rest : Tokens
    pub here : tokens ≡ front ++ token ∷ rest
    pub place : fault.pos ≡ token.pos
    pub wrong : IsWrong front token fault.kind
    pub begun : Begins front
    pub shallow : (x : Tokens) (t : Token) (y : Tokens) → front ≡ x ++ t ∷ y → ¬ OpensTooDeep x t

  -- these tokens give a tree, or the first fault
  abbrev pub Settles : Tokens → Result A ParseFault → Type 0
  Settles tokens (Ok tree) = Spells tokens tree
  Settles tokens (Err fault) = IsFault tokens fault
