-- One reader for each part of the grammar.
use Rattle.std.specs.Prelude.{◌≡◌, IsErr, ℕ, zero, suc, Bool, true, false, not, ◌&&◌, nat_eq, List}
use Rattle.std.specs.Prelude.{[], ◌∷◌}
use Rattle.std.specs.Prelude.{Option, Some, None, Result, Ok, Err, codes, if◌then◌else◌}
use Rattle.std.specs.Cmp.Lexicographic.{pointwise}
use denote.Enum.Bare.{sameb}
use Rattle.gql_base.specs.declared.pos.Pos.{Pos}
use Rattle.gql_tokens.specs.declared.token.Token.{Token}
use Rattle.gql_tokens.specs.declared.token.Lexeme.{Lexeme}
use Rattle.gql_tokens.specs.declared.token.Lexeme.TheVariants as lexeme
use Rattle.gql_tokens.specs.declared.token.Punctuator.{Punctuator}
use Rattle.gql_tokens.specs.declared.token.Punctuator.TheVariants as sign
use Rattle.gql_tokens.specs.contracts.token.Punctuator as punctuator
use Rattle.gql_doc.specs.declared.document.OperationType.{OperationType}
use Rattle.gql_doc.specs.declared.document.OperationType.TheVariants.{Query, Mutation, Subscription}
use Rattle.gql_doc.specs.declared.tree.Variables.{Variables}
use Rattle.gql_doc.specs.declared.tree.Variables.TheVariants.{Allowed, Forbidden}
use Rattle.gql_doc.specs.declared.tree.ValueTree.{ValueTree, Variable, Number, String, Boolean}
use Rattle.gql_doc.specs.declared.tree.ValueTree.{Null, Enum}
use Rattle.gql_doc.specs.declared.tree.ValueTree.{List as ListValue, Object}
use Rattle.gql_doc.specs.declared.tree.MemberTree.{MemberTree}
use Rattle.gql_doc.specs.declared.tree.ArgumentTree.{ArgumentTree}
use Rattle.gql_doc.specs.declared.tree.DirectiveTree.{DirectiveTree}
use Rattle.gql_base.specs.declared.type_ref.TypeRef as type
use Rattle.gql_base.specs.declared.type_ref.TypeRef.{TypeRef}
use Rattle.gql_doc.specs.declared.tree.VariableTree.{VariableTree}
use Rattle.gql_doc.specs.declared.tree.SelectionTree.{SelectionTree, Field, Spread, Inline}
use Rattle.gql_doc.specs.declared.tree.SetTree.{SetTree}
use Rattle.gql_doc.specs.declared.tree.DefinitionTree.{DefinitionTree}
use Rattle.gql_doc.specs.declared.tree.DefinitionTree.TheVariants.{Operation, Fragment}
use Rattle.gql_doc.specs.declared.trouble.Trouble.{Trouble}
use Rattle.gql_doc.specs.declared.trouble.Trouble.TheVariants.{Unexpected, TooDeep}
use Rattle.std.specs.declared.alloc.AllocError.{AllocError}
use Rattle.gql_doc.specs.declared.trouble.ReadError.{ReadError}
use Rattle.gql_doc.specs.declared.trouble.ReadError.TheVariants.{Memory, Stopped}
use Rattle.gql_doc.specs.declared.fault.ParseKind.{ParseKind}
use Rattle.gql_doc.specs.declared.fault.ParseKind.TheVariants.{Nesting}
use Rattle.gql_doc.specs.declared.fault.ParseKind.TheVariants as kind
use Rattle.gql_doc.specs.declared.fault.ParseFault.{ParseFault}
use Rattle.gql_doc.specs.Words.{Tokens}
use Rattle.gql_doc.specs.Spelling.{kind_of}
use Rattle.gql_doc.specs.Grammar.{max_levels, head_pos}
use Rattle.gql_doc.specs.Readers.{Reader, ◌then◌, gives, mapped, past, ended, take_one, branch}
use Rattle.gql_doc.specs.Readers.{many, some}
use Rattle.gql_doc.specs.Readers.{optional, place_of, placed, too_deep}
use Rattle.gql_doc.specs.Words.{PlacedName, PlacedType, PlacedValue}

-- Tests of a token.

abbrev pub says_sign : Punctuator → Lexeme → Bool
says_sign sign (lexeme.Punctuator found) = sameb punctuator.the_type found sign
says_sign sign _ = false

abbrev pub is_sign : Punctuator → Token → Bool
is_sign sign token = says_sign sign token.lexeme

abbrev pub other_than : Punctuator → Token → Bool
other_than sign token = not (is_sign sign token)

abbrev pub says_name : Lexeme → Bool
says_name (lexeme.Name text) = true
says_name _ = false

abbrev pub is_name : Token → Bool
is_name token = says_name token.lexeme

abbrev pub same_text : List ℕ → List ℕ → Bool
same_text = pointwise nat_eq

abbrev pub says_word : List ℕ → Lexeme → Bool
says_word word (lexeme.Name text) = same_text text word
says_word word _ = false

abbrev pub is_word : List ℕ → Token → Bool
is_word word token = says_word word token.lexeme

abbrev pub is_fragment_name : Token → Bool
is_fragment_name token = is_name token && not (is_word (codes "on") token)

-- a value of one token, but a variable
abbrev pub says_scalar : Lexeme → Bool
says_scalar (lexeme.Number number) = true
says_scalar (lexeme.String text) = true
says_scalar (lexeme.Name text) = true
says_scalar _ = false

abbrev pub is_scalar : Token → Bool
is_scalar token = says_scalar token.lexeme

abbrev pub says_end : Lexeme → Bool
says_end lexeme.End = true
says_end _ = false

abbrev pub is_end : Token → Bool
is_end token = says_end token.lexeme

abbrev pub before_end : Token → Bool
before_end token = not (says_end token.lexeme)

-- What a token is taken for.

abbrev pub if_so : {A : Type 0} → Bool → A → Option A
if_so true a = Some a
if_so false a = None

abbrev pub name_in : Lexeme → Pos → Option PlacedName
name_in (lexeme.Name text) pos = Some (record { pos = pos; node = text })
name_in _ pos = None

abbrev pub fragment_name_in : Lexeme → Pos → Option PlacedName
fragment_name_in (lexeme.Name text) pos =
    if_so (not (same_text text (codes "on"))) (record { pos = pos; node = text })
fragment_name_in _ pos = None

abbrev pub named_value : List ℕ → ValueTree
named_value text =
    if same_text text (codes "true") then Boolean true
    else (if same_text text (codes "false") then Boolean false
    else (if same_text text (codes "null") then Null else Enum text))

abbrev pub scalar_in : Lexeme → Option ValueTree
scalar_in (lexeme.Number number) = Some (Number number)
scalar_in (lexeme.String text) = Some (String text)
scalar_in (lexeme.Name text) = Some (named_value text)
scalar_in _ = None

abbrev pub operation_named : List ℕ → Option OperationType
operation_named text =
    if same_text text (codes "query") then Some Query
    else (if same_text text (codes "mutation") then Some Mutation
    else if_so (same_text text (codes "subscription")) Subscription)

abbrev pub with_pos : {A : Type 0} → Pos → Option A → Option (Pos × A)
with_pos pos None = None
with_pos pos (Some a) = Some (pos, a)

abbrev pub operation_said : Lexeme → Option OperationType
operation_said (lexeme.Name text) = operation_named text
operation_said _ = None

abbrev pub operation_in : Lexeme → Pos → Option (Pos × OperationType)
operation_in says pos = with_pos pos (operation_said says)

-- the kind of operation that the next token is the word of
abbrev pub next_operation : Tokens → Option OperationType
next_operation [] = None
next_operation (token ∷ tokens) = operation_said token.lexeme

-- Tokens.

unfoldable pub take_sign : Punctuator → Reader Pos
take_sign sign = take_one (λ token. if_so (is_sign sign token) token.pos)

unfoldable pub take_word : List ℕ → Reader Pos
take_word text = take_one (λ token. if_so (is_word text token) token.pos)

unfoldable pub take_name : Reader PlacedName
take_name = take_one (λ token. name_in token.lexeme token.pos)

unfoldable pub take_fragment_name : Reader PlacedName
take_fragment_name = take_one (λ token. fragment_name_in token.lexeme token.pos)

unfoldable pub take_scalar : Reader ValueTree
take_scalar = take_one (λ token. scalar_in token.lexeme)

unfoldable pub take_operation : Reader (Pos × OperationType)
take_operation = take_one (λ token. operation_in token.lexeme token.pos)

unfoldable pub take_end : Reader Pos
take_end = take_one (λ token. if_so (says_end token.lexeme) token.pos)

-- Values (section 2.9).

abbrev pub variable_value : Reader ValueTree
variable_value = past (take_sign sign.Dollar) (mapped (λ name. Variable name.node) take_name)

abbrev pub list_by : Reader ValueTree → Reader ValueTree
list_by value =
    past (take_sign sign.OpenBracket)
    (mapped ListValue
    (ended (many (other_than sign.CloseBracket) value) (take_sign sign.CloseBracket)))

abbrev pub member_by : Reader ValueTree → Reader MemberTree
member_by value =
    take_name
    then (λ name. past (take_sign sign.Colon)
    (mapped (λ value. record { name = name; value = value }) value))

abbrev pub object_by : Reader MemberTree → Reader ValueTree
object_by member =
    past (take_sign sign.OpenBrace)
    (mapped Object (ended (many (other_than sign.CloseBrace) member) (take_sign sign.CloseBrace)))

-- a value that is no list and no object
abbrev pub plain_value : Variables → Reader ValueTree
plain_value Allowed = branch (is_sign sign.Dollar) variable_value take_scalar
plain_value Forbidden = take_scalar

abbrev pub value_by : Variables → Reader ValueTree → Reader ValueTree → Reader ValueTree
value_by variables list object =
    branch (is_sign sign.OpenBracket) list
    (branch (is_sign sign.OpenBrace) object (plain_value variables))

unfoldable pub value_at : Variables → ℕ → Reader ValueTree
value_at variables zero tokens =
    value_by variables (too_deep (is_sign sign.OpenBracket)) (too_deep (is_sign sign.OpenBrace))
    tokens
value_at variables (suc n) tokens =
    value_by variables (list_by (value_at variables n))
    (object_by (member_by (value_at variables n))) tokens

-- a member of an object, where so many levels are left
unfoldable pub member_at : Variables → ℕ → Reader MemberTree
member_at variables n = member_by (value_at variables n)

-- a list, where so many levels are left
unfoldable pub list_at : Variables → ℕ → Reader ValueTree
list_at variables zero = too_deep (is_sign sign.OpenBracket)
list_at variables (suc n) = list_by (value_at variables n)

-- an object, where so many levels are left
unfoldable pub object_at : Variables → ℕ → Reader ValueTree
object_at variables zero = too_deep (is_sign sign.OpenBrace)
object_at variables (suc n) = object_by (member_at variables n)

unfoldable pub placed_value : Variables → Reader PlacedValue
placed_value variables =
    placed (λ pos value. record { pos = pos; node = value }) (value_at variables max_levels)

-- Arguments (section 2.6) and directives (section 2.12).

unfoldable pub argument : Variables → Reader ArgumentTree
argument variables =
    take_name
    then (λ name. past (take_sign sign.Colon)
    (mapped (λ value. record { name = name; value = value })
    (placed_value variables)))

-- in parentheses, once at least; or not at all
abbrev pub in_parentheses : {A : Type 0} → Reader A → Reader (List A)
in_parentheses f =
    branch (is_sign sign.OpenParen)
    (past (take_sign sign.OpenParen)
    (ended (some (other_than sign.CloseParen) f) (take_sign sign.CloseParen)))
    (gives [])

unfoldable pub arguments : Variables → Reader (List ArgumentTree)
arguments variables = in_parentheses (argument variables)

unfoldable pub directive : Variables → Reader DirectiveTree
directive variables =
    take_sign sign.At
    then (λ pos. take_name
    then (λ name. mapped (λ arguments. record { pos = pos; name = name; arguments = arguments })
    (arguments variables)))

unfoldable pub directives : Variables → Reader (List DirectiveTree)
directives variables = many (is_sign sign.At) (directive variables)

-- Types (section 2.11).

abbrev pub bare_type_by : Reader TypeRef → Reader TypeRef
bare_type_by list =
    branch (is_sign sign.OpenBracket) list (mapped (λ name. type.Named name.node) take_name)

abbrev pub list_type_by : Reader TypeRef → Reader TypeRef
list_type_by inner =
    past (take_sign sign.OpenBracket) (mapped type.List (ended inner (take_sign sign.CloseBracket)))

-- a type, or one that is not null where a `!` follows
abbrev pub null_or_not : TypeRef → Reader TypeRef
null_or_not bare =
    branch (is_sign sign.Bang) (mapped (λ _. type.NonNull bare) (take_sign sign.Bang)) (gives bare)

unfoldable pub type_at : ℕ → Reader TypeRef
type_at zero tokens = (bare_type_by (too_deep (is_sign sign.OpenBracket)) then null_or_not) tokens
type_at (suc n) tokens = (bare_type_by (list_type_by (type_at n)) then null_or_not) tokens

-- a list type, where so many levels are left
unfoldable pub list_type_at : ℕ → Reader TypeRef
list_type_at zero = too_deep (is_sign sign.OpenBracket)
list_type_at (suc n) = list_type_by (type_at n)

unfoldable pub placed_type : Reader PlacedType
placed_type = placed (λ pos ty. record { pos = pos; node = ty }) (type_at max_levels)

-- Definitions of variables (section 2.10).

unfoldable pub default : Reader (Option PlacedValue)
default = optional (is_sign sign.Equals) (past (take_sign sign.Equals) (placed_value Forbidden))

unfoldable pub variable : Reader VariableTree
variable =
    take_sign sign.Dollar
    then (λ pos. take_name
    then (λ name. past (take_sign sign.Colon) (placed_type
    then (λ ty. default
    then (λ default. mapped
    (λ directives. record
    { pos = pos; name = name; ty = ty; default = default; directives = directives })
    (directives Forbidden))))))

unfoldable pub variables : Reader (List VariableTree)
variables = in_parentheses variable

-- Selections (sections 2.4, 2.5, 2.7 and 2.8).

-- an alias and the name
unfoldable pub head : Reader (Option PlacedName × PlacedName)
head =
    take_name
    then (λ first. branch (is_sign sign.Colon) (past (take_sign sign.Colon)
    (mapped (λ name. (Some first, name)) take_name)) (gives (None, first)))

unfoldable pub condition : Reader PlacedName
condition = past (take_word (codes "on")) take_name

abbrev pub set_or_none : Pos → Reader SetTree → Reader SetTree
set_or_none field set =
    branch (is_sign sign.OpenBrace) set (gives (record { pos = field; selections = [] }))

abbrev pub field_by : Reader SetTree → Reader SelectionTree
field_by set =
    head
    then (λ head. arguments Allowed
    then (λ arguments. directives Allowed
    then (λ directives. mapped
    (λ set. Field head.0 head.1 arguments directives set.pos set.selections)
    (set_or_none (head_pos head.0 head.1) set))))

abbrev pub spread_behind : Pos → Reader SelectionTree
spread_behind pos =
    take_fragment_name then (λ name. mapped (λ directives. Spread pos name directives)
    (directives Allowed))

abbrev pub inline_behind : Pos → Reader SetTree → Reader SelectionTree
inline_behind pos set =
    optional (is_word (codes "on")) condition
    then (λ condition. directives Allowed
    then (λ directives. mapped (λ set. Inline pos condition directives set.pos set.selections) set))

abbrev pub spread_by : Reader SetTree → Reader SelectionTree
spread_by set =
    take_sign sign.Spread
    then (λ pos. branch is_fragment_name (spread_behind pos) (inline_behind pos set))

abbrev pub selection_by : Reader SetTree → Reader SelectionTree
selection_by set = branch (is_sign sign.Spread) (spread_by set) (field_by set)

abbrev pub set_by : Reader SelectionTree → Reader SetTree
set_by selection =
    take_sign sign.OpenBrace
    then (λ pos. mapped (λ selections. record { pos = pos; selections = selections })
    (ended (some (other_than sign.CloseBrace) selection) (take_sign sign.CloseBrace)))

unfoldable pub set_at : ℕ → Reader SetTree
set_at zero tokens = too_deep (is_sign sign.OpenBrace) tokens
set_at (suc n) tokens = set_by (selection_by (set_at n)) tokens

-- a field, a spread or an inline fragment, and any selection, where so many levels of sets are left
unfoldable pub field_at : ℕ → Reader SelectionTree
field_at levels = field_by (set_at levels)

unfoldable pub spread_at : ℕ → Reader SelectionTree
spread_at levels = spread_by (set_at levels)

unfoldable pub selection_at : ℕ → Reader SelectionTree
selection_at levels = selection_by (set_at levels)

-- Definitions (sections 2.2, 2.3 and 2.8).

unfoldable pub set : Reader SetTree
set = set_at max_levels

unfoldable pub shorthand : Reader DefinitionTree
shorthand =
    mapped
    (λ set. Operation
    (record {
      pos = set.pos;
      ty = Query;
      name = None;
      variables = [];
      directives = [];
      set = set;
    })) set

unfoldable pub operation : Reader DefinitionTree
operation =
    take_operation
    then (λ kind. optional is_name take_name
    then (λ name. variables
    then (λ variables. directives Allowed
    then (λ directives. mapped
    (λ set. Operation
    (record {
      pos = kind.0;
      ty = kind.1;
      name = name;
      variables = variables;
      directives = directives;
      set = set;
    })) set))))

unfoldable pub fragment : Reader DefinitionTree
fragment =
    take_word (codes "fragment")
    then (λ pos. take_fragment_name
    then (λ name. condition
    then (λ condition. directives Allowed
    then (λ directives. mapped
    (λ set. Fragment
    (record {
      pos = pos;
      name = name;
      condition = condition;
      directives = directives;
      set = set;
    })) set))))

unfoldable pub definition : Reader DefinitionTree
definition =
    branch (is_sign sign.OpenBrace) shorthand (branch (is_word (codes "fragment")) fragment operation)

-- Whole texts.

unfoldable pub document : Reader (List DefinitionTree)
document = ended (some before_end definition) take_end

unfoldable pub type_text : Reader TypeRef
type_text = ended (type_at max_levels) take_end

-- Faults.

-- the kind of trouble at the next token
abbrev pub kind_at : Trouble → Tokens → ParseKind
kind_at TooDeep rest = Nesting
kind_at Unexpected [] = kind.Token
kind_at Unexpected (token ∷ rest) = kind_of token.lexeme

-- the value, or the fault at the place where the reading stopped
abbrev pub parsed : {A : Type 0} → Result A Trouble → Tokens → Result A ParseFault
parsed (Ok value) rest = Ok value
parsed (Err trouble) rest = Err (record { kind = kind_at trouble rest; pos = place_of rest })

-- what the tokens of a text are read as
abbrev pub parsed_by : {A : Type 0} → Reader A → Tokens → Result A ParseFault
parsed_by f tokens = parsed (f tokens).0 (f tokens).1

-- the fault at the next token, unless memory runs out
abbrev pub IsFaultAt : Tokens → ReadError → Result ParseFault AllocError → Type 0
IsFaultAt rest Memory answer = IsErr answer
IsFaultAt rest (Stopped trouble) answer =
    answer ≡ Ok (record { kind = kind_at trouble rest; pos = place_of rest })
