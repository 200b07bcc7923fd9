-- The grammar of executable documents (GraphQL, October 2021, sections 2.2 to 2.12): which words of
-- marked tokens each part of a tree is written as. `levels` says how many levels of a kind may
-- still open; sets, values and list types are counted each by itself, and the values of an
-- argument, of a default and of a directive's argument begin anew.
use Rattle.std.specs.Prelude.{◌≡◌, ◌≢◌, ℕ, pred, ◌⊎◌, List, [], ◌∷◌, Option, Some, None, codes}
use Rattle.std.specs.Prelude.{if◌then◌else◌}
use mathlib.Core.Former.{Count}
use Rattle.gql_base.specs.declared.pos.Pos.{Pos}
use Rattle.gql_tokens.specs.declared.token.Lexeme.TheVariants as lexeme
use Rattle.gql_tokens.specs.declared.token.Punctuator.TheVariants as sign
use Rattle.gql_doc.specs.declared.document.OperationType.{OperationType}
use Rattle.gql_doc.specs.declared.document.OperationType.TheVariants.{Query, Mutation, Subscription}
use Rattle.gql_doc.specs.declared.tree.Variables.{Variables}
use Rattle.gql_doc.specs.declared.tree.Variables.TheVariants.{Allowed, Forbidden}
use Rattle.gql_doc.specs.declared.tree.ValueTree.{ValueTree, Variable, Number, String, Boolean}
use Rattle.gql_doc.specs.declared.tree.ValueTree.{Null, Enum}
use Rattle.gql_doc.specs.declared.tree.ValueTree.{List', Object', Row_of-ValueTree}
use Rattle.gql_doc.specs.declared.tree.ValueTree.{end_of-ValueTree}
use Rattle.gql_doc.specs.declared.tree.ValueTree.{more_of-ValueTree, Row_of-MemberTree}
use Rattle.gql_doc.specs.declared.tree.ValueTree.{end_of-MemberTree}
use Rattle.gql_doc.specs.declared.tree.ValueTree.{more_of-MemberTree}
use Rattle.gql_doc.specs.declared.tree.MemberTree.{MemberTree}
use Rattle.gql_doc.specs.declared.tree.ArgumentTree.{ArgumentTree}
use Rattle.gql_doc.specs.declared.tree.DirectiveTree.{DirectiveTree}
use Rattle.gql_base.specs.declared.type_ref.TypeRef as type
use Rattle.gql_base.specs.declared.type_ref.TypeRef.{TypeRef, Row_of-TypeRef, end_of-TypeRef}
use Rattle.gql_base.specs.declared.type_ref.TypeRef.{more_of-TypeRef}
use Rattle.gql_doc.specs.declared.tree.VariableTree.{VariableTree}
use Rattle.gql_doc.specs.declared.tree.SelectionTree.{SelectionTree, Field', Spread, Inline'}
use Rattle.gql_doc.specs.declared.tree.SelectionTree.{Row_of-SelectionTree, end_of-SelectionTree}
use Rattle.gql_doc.specs.declared.tree.SelectionTree.{more_of-SelectionTree}
use Rattle.gql_doc.specs.declared.tree.SetTree.{SetTree}
use Rattle.gql_doc.specs.declared.tree.OperationTree.{OperationTree}
use Rattle.gql_doc.specs.declared.tree.FragmentTree.{FragmentTree}
use Rattle.gql_doc.specs.declared.tree.DefinitionTree.{DefinitionTree}
use Rattle.gql_doc.specs.declared.tree.DefinitionTree.TheVariants.{Operation, Fragment}
use Rattle.gql_doc.specs.Words.{Word, Language, Nothing, ◌▸◌, Each, Maybe, One, Sign, SignAt}
use Rattle.gql_doc.specs.Words.{Keyword}
use Rattle.gql_doc.specs.Words.{KeywordAt, OneAt, Opens, OpensAt, Placed}
use Rattle.gql_doc.specs.Words.{PlacedName, PlacedType, PlacedValue}

-- levels of nesting that a text may have, of each kind
abbrev pub max_levels : ℕ
max_levels = 64

-- Name (section 2.1.9)
abbrev pub IsName : PlacedName → Language
IsName name = OneAt (lexeme.Name name.node) name.pos

-- the name of an enum's item is none of these three (section 2.9.6)
abbrev pub IsEnumName : List ℕ → Type 0
IsEnumName name = (name ≢ codes "true") × (name ≢ codes "false") × (name ≢ codes "null")

-- variables may stand here
abbrev pub MayVary : Variables → Type 0
MayVary Allowed = Unit {0}
MayVary Forbidden = ⊥

-- Value (sections 2.9 and 2.10); a variable stands only where variables are allowed
abbrev mutual
  pub IsValue : Variables → ℕ → ValueTree → Language
  IsValue variables levels (Variable name) =
      λ ms. MayVary variables × (Sign sign.Dollar ▸ One (lexeme.Name name)) ms
  IsValue variables levels (Number number) = One (lexeme.Number number)
  IsValue variables levels (String text) = One (lexeme.String text)
  IsValue variables levels (Boolean holds) = Keyword (if holds then codes "true" else codes "false")
  IsValue variables levels Null = Keyword (codes "null")
  IsValue variables levels (Enum name) = λ ms. IsEnumName name × One (lexeme.Name name) ms
  IsValue variables levels (List' _ values) =
      Opens levels sign.OpenBracket
      ▸ (AreValues variables (pred levels) values ▸ Sign sign.CloseBracket)
  IsValue variables levels (Object' _ members) =
      Opens levels sign.OpenBrace
      ▸ (AreMembers variables (pred levels) members ▸ Sign sign.CloseBrace)

  pub AreValues : Variables → ℕ → {m : Count} → Row_of-ValueTree m → Language
  AreValues variables levels end_of-ValueTree = Nothing
  AreValues variables levels (more_of-ValueTree value values) =
      IsValue variables levels value ▸ AreValues variables levels values

  pub AreMembers : Variables → ℕ → {m : Count} → Row_of-MemberTree m → Language
  AreMembers variables levels end_of-MemberTree = Nothing
  AreMembers variables levels (more_of-MemberTree name value members) =
      (IsName name ▸ (Sign sign.Colon ▸ IsValue variables levels value))
      ▸ AreMembers variables levels members

-- ObjectField (section 2.9.8)
abbrev pub IsMember : Variables → ℕ → MemberTree → Language
IsMember variables levels member =
    IsName member.name ▸ (Sign sign.Colon ▸ IsValue variables levels member.value)

-- a value of an argument, a default or a directive's argument, which begins its own levels
abbrev pub IsPlacedValue : Variables → PlacedValue → Language
IsPlacedValue variables placed = Placed placed.pos (IsValue variables max_levels placed.node)

-- Argument (section 2.6)
abbrev pub IsArgument : Variables → ArgumentTree → Language
IsArgument variables argument =
    IsName argument.name ▸ (Sign sign.Colon ▸ IsPlacedValue variables argument.value)

-- something in parentheses, at least once; or not written at all
abbrev pub InParentheses : {A : Type 0} → (A → Language) → List A → Language
InParentheses P [] = Nothing
InParentheses P (x ∷ xs) = Sign sign.OpenParen ▸ (Each P (x ∷ xs) ▸ Sign sign.CloseParen)

-- Arguments (section 2.6)
abbrev pub AreArguments : Variables → List ArgumentTree → Language
AreArguments variables = InParentheses (IsArgument variables)

-- Directive (section 2.12)
abbrev pub IsDirective : Variables → DirectiveTree → Language
IsDirective variables directive =
    SignAt sign.At directive.pos
    ▸ (IsName directive.name ▸ AreArguments variables directive.arguments)

-- Directives (section 2.12)
abbrev pub AreDirectives : Variables → List DirectiveTree → Language
AreDirectives variables = Each (IsDirective variables)

-- Type (section 2.11): the type in a box is the one type of its row, and a `!` stands after a type
-- that has none
abbrev mutual
  pub IsType : ℕ → TypeRef → Language
  IsType levels (type.Named name) = One (lexeme.Name name)
  IsType levels (type.List' _ inner) = Opens levels sign.OpenBracket ▸
      (IsTypeIn (pred levels) inner ▸ Sign sign.CloseBracket)
  IsType levels (type.NonNull' _ inner) = IsNullableIn levels inner ▸ Sign sign.Bang

  pub IsNullableType : ℕ → TypeRef → Language
  IsNullableType levels (type.Named name) = One (lexeme.Name name)
  IsNullableType levels (type.List' _ inner) =
      Opens levels sign.OpenBracket ▸ (IsTypeIn (pred levels) inner ▸ Sign sign.CloseBracket)
  IsNullableType levels (type.NonNull' _ inner) = λ _. ⊥

  pub IsTypeIn : ℕ → {m : Count} → Row_of-TypeRef m → Language
  IsTypeIn levels end_of-TypeRef = λ _. ⊥
  IsTypeIn levels (more_of-TypeRef inner _) = IsType levels inner

  pub IsNullableIn : ℕ → {m : Count} → Row_of-TypeRef m → Language
  IsNullableIn levels end_of-TypeRef = λ _. ⊥
  IsNullableIn levels (more_of-TypeRef inner _) = IsNullableType levels inner

abbrev pub IsPlacedType : PlacedType → Language
IsPlacedType placed = Placed placed.pos (IsType max_levels placed.node)

-- DefaultValue (section 2.10)
abbrev pub IsDefault : PlacedValue → Language
IsDefault default = Sign sign.Equals ▸ IsPlacedValue Forbidden default

-- VariableDefinition (section 2.10)
abbrev pub IsVariable : VariableTree → Language
IsVariable variable =
    SignAt sign.Dollar variable.pos
    ▸ (IsName variable.name
    ▸ (Sign sign.Colon ▸ (IsPlacedType variable.ty ▸
    (Maybe IsDefault variable.default ▸ AreDirectives Forbidden variable.directives))))

-- VariableDefinitions (section 2.10)
abbrev pub AreVariables : List VariableTree → Language
AreVariables = InParentheses IsVariable

-- FragmentName (section 2.8)
abbrev pub IsFragmentName : PlacedName → Language
IsFragmentName name ms = (name.node ≢ codes "on") × IsName name ms

-- TypeCondition (section 2.8)
abbrev pub IsCondition : PlacedName → Language
IsCondition name = Keyword (codes "on") ▸ IsName name

-- an alias, and the name of the field (section 2.7)
abbrev pub IsHead : Option PlacedName → PlacedName → Language
IsHead None name = IsName name
IsHead (Some alias) name = IsName alias ▸ (Sign sign.Colon ▸ IsName name)

-- the place of a field: its first token's
abbrev pub head_pos : Option PlacedName → PlacedName → Pos
head_pos None name = name.pos
head_pos (Some alias) name = alias.pos

-- SelectionSet and Selection (sections 2.4, 2.5 and 2.8); a set has a selection, and a field
-- without a set has no selections and its own place for that of the set
abbrev mutual
  pub IsSelection : ℕ → SelectionTree → Language
  IsSelection levels (Field' alias name arguments directives set _ selections) =
      IsHead alias name
      ▸ (AreArguments Allowed arguments ▸ (AreDirectives Allowed directives ▸ IsSetOrNone levels
      (head_pos alias name) set selections))
  IsSelection levels (Spread pos name directives) =
      SignAt sign.Spread pos ▸ (IsFragmentName name ▸ AreDirectives Allowed directives)
  IsSelection levels (Inline' pos condition directives set _ selections) =
      SignAt sign.Spread pos ▸ (Maybe IsCondition condition ▸
      (AreDirectives Allowed directives ▸ IsSetOf levels set selections))

  pub IsSetOrNone : ℕ → Pos → Pos → {m : Count} → Row_of-SelectionTree m → Language
  IsSetOrNone levels field set end_of-SelectionTree = λ ms. (set ≡ field) × Nothing ms
  IsSetOrNone levels field set (more_of-SelectionTree selection selections) =
      OpensAt levels sign.OpenBrace set
      ▸ ((IsSelection (pred levels) selection ▸ AreSelections (pred levels) selections)
      ▸ Sign sign.CloseBrace)

  pub IsSetOf : ℕ → Pos → {m : Count} → Row_of-SelectionTree m → Language
  IsSetOf levels set end_of-SelectionTree = λ _. ⊥
  IsSetOf levels set (more_of-SelectionTree selection selections) =
      OpensAt levels sign.OpenBrace set
      ▸ ((IsSelection (pred levels) selection ▸ AreSelections (pred levels) selections)
      ▸ Sign sign.CloseBrace)

  pub AreSelections : ℕ → {m : Count} → Row_of-SelectionTree m → Language
  AreSelections levels end_of-SelectionTree = Nothing
  AreSelections levels (more_of-SelectionTree selection selections) =
      IsSelection levels selection ▸ AreSelections levels selections

-- the set of a definition
abbrev pub IsNonEmpty : {A : Type 0} → List A → Type 0
IsNonEmpty [] = ⊥
IsNonEmpty (x ∷ xs) = Unit {0}

abbrev pub IsSet : SetTree → Language
IsSet set ms =
    IsNonEmpty set.selections
    × (OpensAt max_levels sign.OpenBrace set.pos
    ▸ (Each (IsSelection (pred max_levels)) set.selections ▸ Sign sign.CloseBrace)) ms

-- the word for a kind of operation (section 2.3)
abbrev pub keyword : OperationType → List ℕ
keyword Query = codes "query"
keyword Mutation = codes "mutation"
keyword Subscription = codes "subscription"

-- a query written as its set alone (section 2.3.1)
pub record IsShorthand (operation : OperationTree) (ms : Word) : Type 0 where
  pub query : operation.ty ≡ Query
  pub anonymous : operation.name ≡ None
  pub no_variables : operation.variables ≡ []
  pub no_directives : operation.directives ≡ []
  pub place : operation.pos ≡ operation.set.pos
  pub set : IsSet operation.set ms

-- an operation with its keyword
abbrev pub IsFullOperation : OperationTree → Language
IsFullOperation operation =
    KeywordAt (keyword operation.ty) operation.pos
    ▸ (Maybe IsName operation.name
    ▸ (AreVariables operation.variables
    ▸ (AreDirectives Allowed operation.directives ▸ IsSet operation.set)))

-- FragmentDefinition (section 2.8)
abbrev pub IsFragment : FragmentTree → Language
IsFragment fragment =
    KeywordAt (codes "fragment") fragment.pos
    ▸ (IsFragmentName fragment.name
    ▸ (IsCondition fragment.condition
    ▸ (AreDirectives Allowed fragment.directives ▸ IsSet fragment.set)))

-- ExecutableDefinition (section 2.2)
abbrev pub IsDefinition : DefinitionTree → Language
IsDefinition (Operation operation) = λ ms. IsShorthand operation ms ⊎ IsFullOperation operation ms
IsDefinition (Fragment fragment) = IsFragment fragment

-- ExecutableDocument (section 2.2): definitions up to the end of the text, at least one
abbrev pub IsDocument : List DefinitionTree → Language
IsDocument definitions ms =
    IsNonEmpty definitions × (Each IsDefinition definitions ▸ One lexeme.End) ms

-- a type, and then the end of the text
abbrev pub IsTypeText : TypeRef → Language
IsTypeText type = IsType max_levels type ▸ One lexeme.End
