-- One reader for each part of a document, as the code reads it: what it answers is the draft of the
-- part. The laws say that it reads what the reader of the grammar's tree reads, and that the draft
-- is what the tree gives.
use Rattle.std.specs.Prelude.{ℕ, zero, suc, Bool, true, false, List, [], Option, Some, None, Ok, Err}
use Rattle.std.specs.Prelude.{codes, if◌then◌else◌}
use Rattle.std.specs.Option.{option_or}
use Rattle.gql_base.specs.declared.pos.Pos.{Pos}
use Rattle.gql_base.specs.declared.value.Value.{Value}
use Rattle.gql_base.specs.declared.type_ref.TypeRef as type
use Rattle.gql_base.specs.declared.type_ref.TypeRef.{TypeRef}
use Rattle.gql_tokens.specs.declared.token.Token.{Token}
use Rattle.gql_tokens.specs.declared.token.Lexeme.{Lexeme}
use Rattle.gql_tokens.specs.declared.token.Lexeme.TheVariants as lexeme
use Rattle.gql_tokens.specs.declared.token.Punctuator.{Punctuator}
use Rattle.gql_tokens.specs.declared.token.Punctuator.TheVariants as sign
use Rattle.gql_doc.specs.declared.cursor.Opened.{Opened}
use Rattle.gql_doc.specs.declared.document.Positioned.{Positioned}
use Rattle.gql_doc.specs.declared.document.DocValue.{DocValue}
use Rattle.gql_doc.specs.declared.document.DocValue.TheVariants as doc
use Rattle.gql_doc.specs.declared.document.Argument.{Argument}
use Rattle.gql_doc.specs.declared.document.Directive.{Directive}
use Rattle.gql_doc.specs.declared.document.VariableDefinition.{VariableDefinition}
use Rattle.gql_doc.specs.declared.document.SelectionSet.{SelectionSet}
use Rattle.gql_doc.specs.declared.document.Selection.{Selection}
use Rattle.gql_doc.specs.declared.document.Selection.TheVariants as selection
use Rattle.gql_doc.specs.declared.document.Field.{roll-Field}
use Rattle.gql_doc.specs.declared.document.InlineFragment.{roll-InlineFragment}
use Rattle.gql_doc.specs.declared.document.OperationType.{OperationType}
use Rattle.gql_doc.specs.declared.document.OperationType.TheVariants.{Query}
use Rattle.gql_doc.specs.declared.draft.Draft.{Draft}
use Rattle.gql_doc.specs.declared.gathering.DefinitionDraft.{DefinitionDraft}
use Rattle.gql_doc.specs.declared.gathering.DefinitionDraft.TheVariants.{Operation, Fragment}
use Rattle.gql_doc.specs.declared.gathering.Gathering.{Gathering}
use Rattle.gql_doc.specs.declared.tree.Variables.{Variables}
use Rattle.gql_doc.specs.declared.tree.Variables.TheVariants.{Allowed, Forbidden}
use Rattle.gql_doc.specs.declared.trouble.Trouble.{Trouble}
use Rattle.gql_doc.specs.declared.trouble.Trouble.TheVariants.{Unexpected, TooDeep}
use Rattle.gql_doc.specs.Building.{placed as at_place, set_of}
use Rattle.gql_doc.specs.Drafts.{plain, remade, added, first_item, with_member, folded, constant_in}
use Rattle.gql_doc.specs.Gathered.{nothing_gathered, gathered}
use Rattle.gql_doc.specs.Grammar.{max_levels, head_pos}
use Rattle.gql_doc.specs.Readers.{Reader, ◌then◌, gives, mapped, past, ended, take_one, choose}
use Rattle.gql_doc.specs.Readers.{begins, behind_first, branch, many, optional, place_of, placed}
use Rattle.gql_doc.specs.Reading.{is_sign, is_word, is_name, is_fragment_name, other_than}
use Rattle.gql_doc.specs.Reading.{before_end, same_text, take_sign, take_word, take_name, take_end}
use Rattle.gql_doc.specs.Reading.{take_fragment_name, take_operation, placed_type, condition, head}
use Rattle.gql_doc.specs.Words.{PlacedName, PlacedType}

-- Tokens.

-- whether the next token passes a test, and is taken then
unfoldable pub taken_if : (Token → Bool) → Reader Bool
taken_if test tokens =
    choose (begins test tokens) (λ here. (Ok true, behind_first here)) (λ here. (Ok false, here))
    tokens

-- a bracket, where so many levels are left
abbrev pub opened : ℕ → Reader (Option Opened)
opened zero tokens = (Err TooDeep, tokens)
opened (suc n) tokens =
    (Ok (Some (record { pos = place_of tokens; levels = n })), behind_first tokens)

-- a bracket that is next, where so many levels are left
unfoldable pub open_at : Punctuator → ℕ → Reader (Option Opened)
open_at mark levels tokens =
    choose (begins (is_sign mark) tokens) (opened levels) (gives None) tokens

-- what is after a bracket, or else
abbrev pub if_open : {A : Type 0} → Option Opened → (Opened → Reader A) → Reader A → Reader A
if_open None inner other = other
if_open (Some here) inner other = inner here

-- trouble at the next token
abbrev pub stopped : {A : Type 0} → Trouble → Reader A
stopped trouble tokens = (Err trouble, tokens)

-- a bracket that is next, with a reader of what is after it, unless no level is left
abbrev pub behind : {A : Type 0} → Option (Pos → Reader A) → Reader A
behind None tokens = (Err TooDeep, tokens)
behind (Some inner) tokens = inner (place_of tokens) (behind_first tokens)

abbrev pub opening : {A : Type 0} → Punctuator → Option (Pos → Reader A) → Reader A → Reader A
opening mark inner other tokens =
    choose (begins (is_sign mark) tokens) (behind inner) other tokens

abbrev pub named_value : List ℕ → DocValue
named_value text =
    if same_text text (codes "true") then doc.Boolean true
    else (if same_text text (codes "false") then doc.Boolean false
    else (if same_text text (codes "null") then doc.Null else doc.Enum text))

abbrev pub scalar_in : Lexeme → Option DocValue
scalar_in (lexeme.Number number) = Some (doc.Number number)
scalar_in (lexeme.String text) = Some (doc.String text)
scalar_in (lexeme.Name text) = Some (named_value text)
scalar_in _ = None

unfoldable pub scalar : Reader DocValue
scalar = take_one (λ token. scalar_in token.lexeme)

-- Values (section 2.9).

unfoldable pub variable_or_scalar : Reader DocValue
variable_or_scalar =
    taken_if (is_sign sign.Dollar)
    then (λ taken. choose taken (mapped (λ name. doc.Variable name.node) take_name) scalar)

-- a value that is no list and no object
abbrev pub plain_value : Variables → Reader DocValue
plain_value Allowed = variable_or_scalar
plain_value Forbidden = scalar

abbrev pub items_by : {A : Type 0} → (Token → Bool) → Reader (Draft A) → Reader (Draft (List A))
items_by test item = mapped (folded added (plain [])) (many test item)

-- one at least
abbrev pub some_by : {A : Type 0} → (Token → Bool) → Reader (Draft A) → Reader (Draft (List A))
some_by test item =
    item then (λ first. mapped (folded added (first_item first)) (many test item))

abbrev pub list_by : Reader (Draft DocValue) → Reader (Draft DocValue)
list_by value =
    mapped (remade doc.List)
    (ended (items_by (other_than sign.CloseBracket) value) (take_sign sign.CloseBracket))

abbrev pub member_by : Reader (Draft DocValue) → Reader (PlacedName × Draft DocValue)
member_by value =
    take_name
    then (λ name. past (take_sign sign.Colon) (mapped (λ value. (name, value)) value))

abbrev pub members_by : Reader (Draft DocValue) → Reader (Draft (List (List ℕ × DocValue)))
members_by value =
    mapped (folded with_member (plain [])) (many (other_than sign.CloseBrace) (member_by value))

abbrev pub object_by : Reader (Draft DocValue) → Reader (Draft DocValue)
object_by value =
    mapped (remade doc.Object) (ended (members_by value) (take_sign sign.CloseBrace))

abbrev pub value_by : Variables → Option (Reader (Draft DocValue)) → Reader (Draft DocValue)
value_by variables None =
    opening sign.OpenBracket None
    (opening sign.OpenBrace None (mapped plain (plain_value variables)))
value_by variables (Some value) =
    opening sign.OpenBracket (Some (λ _. list_by value))
    (opening sign.OpenBrace (Some (λ _. object_by value)) (mapped plain (plain_value variables)))

unfoldable pub value_draft : Variables → ℕ → Reader (Draft DocValue)
value_draft variables zero tokens = value_by variables None tokens
value_draft variables (suc n) tokens = value_by variables (Some (value_draft variables n)) tokens

-- the values of a list, a list after its bracket, a member, the members of an object and an object
-- after its brace, where so many levels are left within
unfoldable pub values_draft : Variables → ℕ → Reader (Draft (List DocValue))
values_draft variables n = items_by (other_than sign.CloseBracket) (value_draft variables n)

unfoldable pub list_draft : Variables → ℕ → Reader (Draft DocValue)
list_draft variables n =
    mapped (remade doc.List) (ended (values_draft variables n) (take_sign sign.CloseBracket))

unfoldable pub member_draft : Variables → ℕ → Reader (PlacedName × Draft DocValue)
member_draft variables n = member_by (value_draft variables n)

unfoldable pub members_draft : Variables → ℕ → Reader (Draft (List (List ℕ × DocValue)))
members_draft variables n =
    mapped (folded with_member (plain []))
    (many (other_than sign.CloseBrace) (member_draft variables n))

unfoldable pub object_draft : Variables → ℕ → Reader (Draft DocValue)
object_draft variables n =
    mapped (remade doc.Object) (ended (members_draft variables n) (take_sign sign.CloseBrace))

unfoldable pub placed_draft : Variables → Reader (Draft (Positioned DocValue))
placed_draft variables =
    placed (λ pos. remade (at_place pos)) (value_draft variables max_levels)

-- Arguments (section 2.6) and directives (section 2.12).

abbrev pub argument_in : PlacedName → Positioned DocValue → Argument
argument_in name value = record { name = name; value = value }

unfoldable pub argument_draft : Variables → Reader (Draft Argument)
argument_draft variables =
    take_name
    then (λ name. past (take_sign sign.Colon)
    (mapped (remade (argument_in name)) (placed_draft variables)))

-- in parentheses, or not at all
abbrev pub if_parentheses : {A : Type 0} → Reader (Draft (List A)) → Reader (Draft (List A))
if_parentheses inner =
    taken_if (is_sign sign.OpenParen)
    then (λ taken. choose taken (ended inner (take_sign sign.CloseParen)) (gives (plain [])))

unfoldable pub some_arguments_draft : Variables → Reader (Draft (List Argument))
some_arguments_draft variables =
    some_by (other_than sign.CloseParen) (argument_draft variables)

unfoldable pub arguments_draft : Variables → Reader (Draft (List Argument))
arguments_draft variables = if_parentheses (some_arguments_draft variables)

abbrev pub directive_in : Pos → PlacedName → List Argument → Positioned Directive
directive_in pos name arguments = at_place pos (record { name = name; arguments = arguments })

unfoldable pub directive_draft : Variables → Reader (Draft (Positioned Directive))
directive_draft variables =
    take_sign sign.At
    then (λ pos. take_name
    then (λ name. mapped (remade (directive_in pos name)) (arguments_draft variables)))

unfoldable pub directives_draft : Variables → Reader (Draft (List (Positioned Directive)))
directives_draft variables = items_by (is_sign sign.At) (directive_draft variables)

-- Types (section 2.11).

-- a list type after its bracket
abbrev pub list_type_behind : Reader TypeRef → Reader TypeRef
list_type_behind inner = mapped type.List (ended inner (take_sign sign.CloseBracket))

-- Definitions of variables (section 2.10).

abbrev pub default_in : Positioned DocValue → Option (Positioned Value)
default_in value = Some (at_place value.pos (constant_in value.node))

unfoldable pub default_draft : Reader (Draft (Option (Positioned Value)))
default_draft =
    taken_if (is_sign sign.Equals)
    then (λ taken. choose taken (mapped (remade default_in) (placed_draft Forbidden))
    (gives (plain None)))

abbrev pub variable_in : Pos → PlacedName → PlacedType → Draft (Option (Positioned Value))
    → Draft (List (Positioned Directive)) → Draft (Positioned VariableDefinition)
variable_in pos name ty default directives =
    record {
      part = at_place pos
          (record {
            name = name;
            var_type = ty;
            directives = directives.part;
            default = default.part;
          });
      doubled = option_or default.doubled directives.doubled;
    }

unfoldable pub variable_draft : Reader (Draft (Positioned VariableDefinition))
variable_draft =
    take_sign sign.Dollar
    then (λ pos. take_name
    then (λ name. past (take_sign sign.Colon) (placed_type
    then (λ ty. default_draft
    then (λ default. mapped (variable_in pos name ty default) (directives_draft Forbidden))))))

unfoldable pub some_variables_draft : Reader (Draft (List (Positioned VariableDefinition)))
some_variables_draft = some_by (other_than sign.CloseParen) variable_draft

unfoldable pub variables_draft : Reader (Draft (List (Positioned VariableDefinition)))
variables_draft = if_parentheses some_variables_draft

-- Selections (sections 2.4, 2.5, 2.7 and 2.8).

abbrev pub SetDraft : Type 0
SetDraft = Draft (Positioned SelectionSet)

abbrev pub field_of : Option PlacedName → PlacedName → Draft (List Argument)
    → Draft (List (Positioned Directive)) → SetDraft → Draft (Positioned Selection)
field_of alias name arguments directives set =
    record {
      part = at_place (head_pos alias name)
          (selection.Field (at_place (head_pos alias name)
          (roll-Field
          (record {
            alias = alias;
            name = name;
            arguments = arguments.part;
            directives = directives.part;
            selection_set = set.part;
          }))));
      doubled = option_or arguments.doubled (option_or directives.doubled set.doubled);
    }

abbrev pub spread_of : Pos → PlacedName → List (Positioned Directive) → Positioned Selection
spread_of pos name directives =
    at_place pos
    (selection.FragmentSpread
    (at_place pos (record { fragment_name = name; directives = directives })))

abbrev pub inline_of : Pos → Option PlacedName → Draft (List (Positioned Directive)) → SetDraft
    → Draft (Positioned Selection)
inline_of pos condition directives set =
    record {
      part = at_place pos
          (selection.InlineFragment (at_place pos
          (roll-InlineFragment
          (record {
            type_condition = condition;
            directives = directives.part;
            selection_set = set.part;
          }))));
      doubled = option_or directives.doubled set.doubled;
    }

-- what is after the brace of a set, if a level is left
abbrev pub Inner : Type 0
Inner = Option (Pos → Reader SetDraft)

abbrev pub set_by : Inner → Reader SetDraft
set_by inner = opening sign.OpenBrace inner (stopped Unexpected)

abbrev pub set_or_none_by : Inner → Pos → Reader SetDraft
set_or_none_by inner field =
    opening sign.OpenBrace inner (gives (plain (set_of field [])))

abbrev pub field_by : Inner → Reader (Draft (Positioned Selection))
field_by inner =
    head
    then (λ head. arguments_draft Allowed
    then (λ arguments. directives_draft Allowed
    then (λ directives. mapped (field_of head.0 head.1 arguments directives)
    (set_or_none_by inner (head_pos head.0 head.1)))))

unfoldable pub spread_behind : Pos → Reader (Draft (Positioned Selection))
spread_behind pos =
    take_fragment_name
    then (λ name. mapped (remade (spread_of pos name)) (directives_draft Allowed))

abbrev pub inline_by : Inner → Pos → Reader (Draft (Positioned Selection))
inline_by inner pos =
    optional (is_word (codes "on")) condition
    then (λ condition. directives_draft Allowed
    then (λ directives. mapped (inline_of pos condition directives) (set_by inner)))

abbrev pub spread_by : Inner → Pos → Reader (Draft (Positioned Selection))
spread_by inner pos = branch is_fragment_name (spread_behind pos) (inline_by inner pos)

abbrev pub selection_by : Inner → Reader (Draft (Positioned Selection))
selection_by inner tokens =
    (taken_if (is_sign sign.Spread)
    then (λ taken. choose taken (spread_by inner (place_of tokens)) (field_by inner))) tokens

abbrev pub behind_brace : Reader (Draft (Positioned Selection)) → Pos → Reader SetDraft
behind_brace item pos =
    mapped (remade (set_of pos))
    (ended (some_by (other_than sign.CloseBrace) item) (take_sign sign.CloseBrace))

-- what is after the brace of a set, where so many levels are left
unfoldable pub inner_at : ℕ → Inner
inner_at zero = None
inner_at (suc n) = Some (behind_brace (selection_by (inner_at n)))

-- a set, and one that may be absent, where so many levels are left
unfoldable pub set_draft : ℕ → Reader SetDraft
set_draft levels = set_by (inner_at levels)

unfoldable pub set_or_none_draft : ℕ → Pos → Reader SetDraft
set_or_none_draft levels = set_or_none_by (inner_at levels)

-- selections, where so many levels of sets are left within them
unfoldable pub field_draft : ℕ → Reader (Draft (Positioned Selection))
field_draft levels =
    head
    then (λ head. arguments_draft Allowed
    then (λ arguments. directives_draft Allowed
    then (λ directives. mapped (field_of head.0 head.1 arguments directives)
    (set_or_none_draft levels (head_pos head.0 head.1)))))

unfoldable pub inline_behind : ℕ → Pos → Reader (Draft (Positioned Selection))
inline_behind levels pos =
    optional (is_word (codes "on")) condition
    then (λ condition. directives_draft Allowed
    then (λ directives. mapped (inline_of pos condition directives) (set_draft levels)))

unfoldable pub spread_draft : ℕ → Pos → Reader (Draft (Positioned Selection))
spread_draft levels pos = branch is_fragment_name (spread_behind pos) (inline_behind levels pos)

unfoldable pub selection_draft : ℕ → Reader (Draft (Positioned Selection))
selection_draft levels tokens =
    (taken_if (is_sign sign.Spread)
    then (λ taken. choose taken (spread_draft levels (place_of tokens)) (field_draft levels)))
    tokens

unfoldable pub selections_draft : ℕ → Reader (Draft (List (Positioned Selection)))
selections_draft levels = some_by (other_than sign.CloseBrace) (selection_draft levels)

unfoldable pub set_behind : ℕ → Pos → Reader SetDraft
set_behind levels pos =
    mapped (remade (set_of pos)) (ended (selections_draft levels) (take_sign sign.CloseBrace))

-- Definitions (sections 2.2, 2.3 and 2.8).

abbrev pub shorthand_of : Pos → SetDraft → DefinitionDraft
shorthand_of pos set =
    Operation pos None
    (record {
      part = record {
        ty = Query;
        variable_definitions = [];
        directives = [];
        selection_set = set.part;
      };
      doubled = set.doubled;
    })

unfoldable pub shorthand_draft : Reader DefinitionDraft
shorthand_draft = placed shorthand_of (set_draft max_levels)

abbrev pub operation_of : Pos → OperationType → Option PlacedName
    → Draft (List (Positioned VariableDefinition))
    → Draft (List (Positioned Directive)) → SetDraft → DefinitionDraft
operation_of pos ty name variables directives set =
    Operation pos name
    (record {
      part = record {
        ty = ty;
        variable_definitions = variables.part;
        directives = directives.part;
        selection_set = set.part;
      };
      doubled = option_or variables.doubled (option_or directives.doubled set.doubled);
    })

unfoldable pub operation_draft : Reader DefinitionDraft
operation_draft =
    take_operation
    then (λ kind. optional is_name take_name
    then (λ name. variables_draft
    then (λ variables. directives_draft Allowed
    then (λ directives. mapped (operation_of kind.0 kind.1 name variables directives)
    (set_draft max_levels)))))

abbrev pub fragment_of : Pos → PlacedName → PlacedName → Draft (List (Positioned Directive))
    → SetDraft → DefinitionDraft
fragment_of pos name condition directives set =
    Fragment pos name
    (record {
      part = record {
        type_condition = condition;
        directives = directives.part;
        selection_set = set.part;
      };
      doubled = option_or directives.doubled set.doubled;
    })

unfoldable pub fragment_draft : Reader DefinitionDraft
fragment_draft =
    take_word (codes "fragment")
    then (λ pos. take_fragment_name
    then (λ name. condition
    then (λ condition. directives_draft Allowed
    then (λ directives. mapped (fragment_of pos name condition directives)
    (set_draft max_levels)))))

unfoldable pub definition_draft : Reader DefinitionDraft
definition_draft =
    branch (is_sign sign.OpenBrace) shorthand_draft
    (branch (is_word (codes "fragment")) fragment_draft operation_draft)

-- Whole texts.

unfoldable pub definitions_draft : Reader Gathering
definitions_draft =
    definition_draft
    then (λ first. mapped (folded gathered (gathered nothing_gathered first))
    (many before_end definition_draft))

unfoldable pub document_draft : Reader Gathering
document_draft = ended definitions_draft take_end
