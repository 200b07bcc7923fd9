-- The drafts of values, arguments, directives and definitions of variables are what the grammar's trees give.
use Rattle.std.proofs.Common.{◌≡◌, ℕ, zero, suc, Bool, true, false, List, [], ◌∷◌, map, Option, Some, None, Result, Ok, refl, sym, ap, ◌∙◌}
use Rattle.std.specs.Prelude.{codes, if◌then◌else◌}
use mathlib.Core.Former.{Count}
use Rattle.gql_base.specs.declared.pos.Pos.{Pos}
use Rattle.gql_base.specs.declared.value.Value.{Value}
use Rattle.gql_base.specs.declared.value.Value.TheVariants as constant
use Rattle.gql_tokens.specs.declared.token.Token.{Token}
use Rattle.gql_tokens.specs.declared.token.Lexeme.{Lexeme}
use Rattle.gql_tokens.specs.declared.token.Lexeme.TheVariants as lexeme
use Rattle.gql_tokens.specs.declared.token.Punctuator.TheVariants as sign
use Rattle.gql_doc.specs.declared.document.Directive.{Directive}
use Rattle.gql_doc.specs.declared.document.DocValue.{DocValue}
use Rattle.gql_doc.specs.declared.document.DocValue.TheVariants as doc
use Rattle.gql_doc.specs.declared.document.DocValue.TheOpen.{DocValue-F}
use Rattle.gql_doc.specs.declared.document.DocValue.TheFolds.{fold-roll-DocValue}
use Rattle.gql_doc.specs.declared.document.DocValue.TheViews.{rolls-Variable, rolls-Null, rolls-Boolean, rolls-Number, rolls-String, rolls-Enum, rolls-List, rolls-Object}
use Rattle.gql_doc.specs.declared.document.Positioned.{Positioned}
use Rattle.gql_doc.specs.declared.document.VariableDefinition.{VariableDefinition}
use Rattle.gql_doc.specs.declared.draft.Draft.{Draft}
use Rattle.gql_doc.specs.declared.tree.Variables.{Variables}
use Rattle.gql_doc.specs.declared.tree.Variables.TheVariants.{Allowed, Forbidden}
use Rattle.gql_doc.specs.declared.tree.ValueTree.{ValueTree, Variable, Number, String, Boolean, Null, Enum, List as ListTree, List', Object as ObjectTree, Object', Row_of-ValueTree, end_of-ValueTree, more_of-ValueTree, Row_of-MemberTree, end_of-MemberTree, more_of-MemberTree}
use Rattle.gql_doc.specs.declared.tree.DirectiveTree.{DirectiveTree}
use Rattle.gql_doc.specs.declared.tree.VariableTree.{VariableTree}
use Rattle.gql_doc.specs.First.{first_in}
use Rattle.gql_doc.specs.Words.{Tokens, PlacedName, PlacedType, PlacedValue}
use Rattle.gql_doc.specs.Grammar.{max_levels}
use Rattle.gql_doc.specs.NameRules.{doubled_in_value, doubled_in_argument, doubled_in_arguments, doubled_in_directive, doubled_in_directives, doubled_in_default, doubled_in_variable}
use Rattle.gql_doc.specs.Building.{placed as at_place, value_of, values_of, members_of, constant_of, constants_of, constant_members_of, argument_of, directive_of, default_of, variable_of}
use Rattle.gql_doc.specs.Readers.{Reader, behind_first, branch, ended, gives, go_on, many, mapped, past, picked, place_of, some, too_deep, ◌then◌}
use Rattle.gql_doc.specs.Reading as tree
use Rattle.gql_doc.specs.Reading.{is_sign, other_than, member_at, same_text, take_sign, take_name, take_scalar, value_at, placed_value, argument, arguments, directive, directives, default, variable, variables, placed_type}
use Rattle.gql_doc.specs.Drafts.{plain, remade, added, first_item, folded, with_member, constant_step, constant_in, constant_member}
use Rattle.gql_doc.specs.Drafting as draft
use Rattle.gql_doc.specs.Drafting.{scalar, scalar_in, named_value, variable_or_scalar, plain_value, items_by, some_by, value_draft, member_draft, placed_draft, argument_draft, argument_in, arguments_draft, some_arguments_draft, directive_draft, directive_in, directives_draft, default_in, default_draft, variable_in, variable_draft, some_variables_draft, variables_draft}
use Rattle.gql_doc.specs.Grammar.{IsValue, IsMember, IsArgument, IsDirective, IsVariable}
use Rattle.gql_doc.proofs.ReaderLaws.{Shrinks, shrinking}
use Rattle.gql_doc.proofs.ValueLaws.{value_reads, value_starts, member_at_reads, member_starts}
use Rattle.gql_doc.proofs.ArgumentLaws.{argument_reads, argument_starts, directive_reads, directive_next}
use Rattle.gql_doc.proofs.VariableLaws.{variable_reads, variable_starts}
use Rattle.gql_doc.proofs.Alike.{Alike, shrinks_alike, regroup, bind_alike, bind_same, map_alike, left_alike, ended_alike, many_alike, taken_alike, opens_alike, deep_alike, sign_first}
use Rattle.gql_doc.proofs.Builds.{member_of, doubled_among_members}
use Rattle.gql_doc.proofs.BuildLaws.{doubled_list, doubled_object, value_list, value_object}
use Rattle.gql_doc.proofs.DraftLaws.{judged, shown, given, one_shown, both_shown, items_shown, members_shown, seen_member, told_member}

-- Constants.

constant_of_list : (vs : List DocValue) → constant_in (doc.List vs) ≡ constant.List (map constant_in vs)
constant_of_list vs = ap constant_in (sym (rolls-List vs)) ∙ fold-roll-DocValue Value constant_step (DocValue-F.List vs)

constant_of_object : (ms : List (List ℕ × DocValue)) → constant_in (doc.Object ms) ≡ constant.Object (map constant_member ms)
constant_of_object ms = ap constant_in (sym (rolls-Object ms)) ∙ fold-roll-DocValue Value constant_step (DocValue-F.Object ms)

mutual
  pub constant_is : (t : ValueTree) → constant_in (value_of t) ≡ constant_of t
  constant_is (Variable name) = ap constant_in (sym (rolls-Variable name)) ∙ fold-roll-DocValue Value constant_step (DocValue-F.Variable name)
  constant_is (Number number) = ap constant_in (sym (rolls-Number number)) ∙ fold-roll-DocValue Value constant_step (DocValue-F.Number number)
  constant_is (String text) = ap constant_in (sym (rolls-String text)) ∙ fold-roll-DocValue Value constant_step (DocValue-F.String text)
  constant_is (Boolean holds) = ap constant_in (sym (rolls-Boolean holds)) ∙ fold-roll-DocValue Value constant_step (DocValue-F.Boolean holds)
  constant_is Null = ap constant_in (sym rolls-Null) ∙ fold-roll-DocValue Value constant_step DocValue-F.Null
  constant_is (Enum name) = ap constant_in (sym (rolls-Enum name)) ∙ fold-roll-DocValue Value constant_step (DocValue-F.Enum name)
  constant_is (List' _ values) = constant_of_list (values_of values) ∙ ap constant.List (constants_are _ values)
  constant_is (Object' _ members) = constant_of_object (members_of members) ∙ ap constant.Object (constant_members_are _ members)

  constants_are : (m : Count) (row : Row_of-ValueTree m) → map constant_in (values_of row) ≡ constants_of row
  constants_are _ end_of-ValueTree = refl
  constants_are _ (more_of-ValueTree value row) = λ i. constant_is value i ∷ constants_are _ row i

  constant_members_are : (m : Count) (row : Row_of-MemberTree m) → map constant_member (members_of row) ≡ constant_members_of row
  constant_members_are _ end_of-MemberTree = refl
  constant_members_are _ (more_of-MemberTree name value row) = λ i. (name.node, constant_is value i) ∷ constant_members_are _ row i

-- Lists of drafts.

module _ {A T : Type 0} (part : T → A) (doubled : T → Option Pos) (test : Token → Bool) (f : Reader (Draft A)) (g : Reader T) (alike : Alike shown (given part doubled) f g) where
  pub items_alike : Alike shown (given (map part) (first_in doubled)) (items_by test f) (many test g)
  items_alike tokens =
      left_alike (map shown) (map (given part doubled)) shown (given (map part) (first_in doubled)) (many test f) (many test g) (folded added (plain [])) tokens
      (many_alike shown (given part doubled) test f g alike tokens)
      (λ xs ts same. items_shown part doubled (plain []) None [] xs ts refl same)

  pub some_alike : Alike shown (given (map part) (first_in doubled)) (some_by test f) (some test g)
  some_alike tokens =
      bind_alike shown (given part doubled) shown (given (map part) (first_in doubled)) f g (λ first. mapped (folded added (first_item first)) (many test f)) (λ t. mapped (λ more. t ∷ more) (many test g)) tokens (alike tokens)
      (λ x t rest same.
      map_alike (map shown) (map (given part doubled)) shown (given (map part) (first_in doubled)) (many test f) (many test g) (folded added (first_item x)) (λ more. t ∷ more) rest
      (many_alike shown (given part doubled) test f g alike rest)
      (λ xs ts others. items_shown part doubled (first_item x) (doubled t) (part t ∷ []) xs ts (one_shown (λ y. y ∷ []) x.doubled (doubled t) x.part (part t) same) others))

-- Values.

abbrev pub ok : {A : Type 0} → A → Result A Pos
ok a = Ok a

named_same : (text : List ℕ) → ok (named_value text) ≡ given value_of doubled_in_value (tree.named_value text)
named_same text = go (same_text text (codes "true")) (same_text text (codes "false")) (same_text text (codes "null"))
  where
    go : (a b c : Bool) → ok (if a then doc.Boolean true else (if b then doc.Boolean false else (if c then doc.Null else doc.Enum text)))
        ≡ given value_of doubled_in_value (if a then Boolean true else (if b then Boolean false else (if c then Null else Enum text)))
    go true b c = refl
    go false true c = refl
    go false false true = refl
    go false false false = refl

scalar_same : (l : Lexeme) (token : Token) (tokens : Tokens) → mapped ok (picked (scalar_in l) token) tokens ≡ mapped (given value_of doubled_in_value) (picked (tree.scalar_in l) token) tokens
scalar_same (lexeme.Number number) token tokens = refl
scalar_same (lexeme.String text) token tokens = refl
scalar_same (lexeme.Name text) token tokens = ap (λ v. (Ok v, tokens)) (named_same text)
scalar_same (lexeme.Punctuator found) token tokens = refl
scalar_same lexeme.End token tokens = refl
scalar_same lexeme.Unexpected token tokens = refl
scalar_same lexeme.Unsupported token tokens = refl

scalar_alike : Alike ok (given value_of doubled_in_value) scalar take_scalar
unfolding scalar take_scalar
scalar_alike [] = refl
scalar_alike (token ∷ tokens) = scalar_same token.lexeme token tokens

plain_alike : (variables : Variables) → Alike ok (given value_of doubled_in_value) (plain_value variables) (tree.plain_value variables)
unfolding variable_or_scalar
plain_alike Allowed tokens =
    taken_alike ok (given value_of doubled_in_value) sign.Dollar (mapped (λ name. doc.Variable name.node) take_name) scalar tree.variable_value take_scalar tokens
    (λ next.
    bind_same ok (given value_of doubled_in_value) take_name (λ name. gives (doc.Variable name.node)) (λ name. gives (Variable name.node)) (behind_first tokens) (λ name rest. refl)
    ∙ sym (sign_first ok (given value_of doubled_in_value) sign.Dollar (λ _. mapped (λ name. Variable name.node) take_name) tokens next))
    (scalar_alike tokens)
plain_alike Forbidden tokens = scalar_alike tokens

plain_draft_alike : (variables : Variables) → Alike shown (given value_of doubled_in_value) (mapped plain (plain_value variables)) (tree.plain_value variables)
plain_draft_alike variables tokens = regroup (plain_value variables) (λ v. gives (plain v)) shown tokens ∙ plain_alike variables tokens

abbrev ValueAlike : Reader (Draft DocValue) → Reader ValueTree → Type 0
ValueAlike f g = Alike shown (given value_of doubled_in_value) f g

list_alike : (f : Reader (Draft DocValue)) (g : Reader ValueTree) → ValueAlike f g
    → ValueAlike (draft.list_by f) (mapped ListTree (ended (many (other_than sign.CloseBracket) g) (take_sign sign.CloseBracket)))
list_alike f g alike tokens =
    map_alike shown (given (map value_of) (first_in doubled_in_value)) shown (given value_of doubled_in_value)
    (ended (items_by (other_than sign.CloseBracket) f) (take_sign sign.CloseBracket)) (ended (many (other_than sign.CloseBracket) g) (take_sign sign.CloseBracket)) (remade doc.List) ListTree tokens
    (ended_alike shown (given (map value_of) (first_in doubled_in_value)) (items_by (other_than sign.CloseBracket) f) (many (other_than sign.CloseBracket) g) (take_sign sign.CloseBracket) tokens
    (items_alike value_of doubled_in_value (other_than sign.CloseBracket) f g alike tokens))
    (λ x ts same.
    one_shown doc.List x.doubled (first_in doubled_in_value ts) x.part (map value_of ts) same
    ∙ (λ i. judged (sym (doubled_list ts) i) (sym (value_list ts) i)))

member_by_alike : (f : Reader (Draft DocValue)) (g : Reader ValueTree) → ValueAlike f g → Alike seen_member told_member (draft.member_by f) (tree.member_by g)
member_by_alike f g alike tokens =
    bind_same seen_member told_member take_name (λ name. past (take_sign sign.Colon) (mapped (λ value. (name, value)) f)) (λ name. past (take_sign sign.Colon) (mapped (λ value. record { name = name; value = value }) g)) tokens
    (λ name rest.
    bind_same seen_member told_member (take_sign sign.Colon) (λ _. mapped (λ value. (name, value)) f) (λ _. mapped (λ value. record { name = name; value = value }) g) rest
    (λ pos left.
    map_alike shown (given value_of doubled_in_value) seen_member told_member f g (λ value. (name, value)) (λ value. record { name = name; value = value }) left (alike left) (λ x t same i. (name, same i))))

members_alike : (f : Reader (Draft DocValue)) (g : Reader ValueTree) → ValueAlike f g
    → Alike shown (given (map member_of) (doubled_among_members [])) (draft.members_by f) (many (other_than sign.CloseBrace) (tree.member_by g))
members_alike f g alike tokens =
    left_alike (map seen_member) (map told_member) shown (given (map member_of) (doubled_among_members [])) (many (other_than sign.CloseBrace) (draft.member_by f)) (many (other_than sign.CloseBrace) (tree.member_by g)) (folded with_member (plain [])) tokens
    (many_alike seen_member told_member (other_than sign.CloseBrace) (draft.member_by f) (tree.member_by g) (member_by_alike f g alike) tokens)
    (λ xs ts same. members_shown (plain []) None [] xs ts refl same)

object_alike : (f : Reader (Draft DocValue)) (g : Reader ValueTree) → ValueAlike f g
    → ValueAlike (draft.object_by f) (mapped ObjectTree (ended (many (other_than sign.CloseBrace) (tree.member_by g)) (take_sign sign.CloseBrace)))
object_alike f g alike tokens =
    map_alike shown (given (map member_of) (doubled_among_members [])) shown (given value_of doubled_in_value)
    (ended (draft.members_by f) (take_sign sign.CloseBrace)) (ended (many (other_than sign.CloseBrace) (tree.member_by g)) (take_sign sign.CloseBrace)) (remade doc.Object) ObjectTree tokens
    (ended_alike shown (given (map member_of) (doubled_among_members [])) (draft.members_by f) (many (other_than sign.CloseBrace) (tree.member_by g)) (take_sign sign.CloseBrace) tokens (members_alike f g alike tokens))
    (λ x ts same.
    one_shown doc.Object x.doubled (doubled_among_members [] ts) x.part (map member_of ts) same
    ∙ (λ i. judged (sym (doubled_object ts) i) (sym (value_object ts) i)))

pub value_alike : (variables : Variables) (levels : ℕ) → ValueAlike (value_draft variables levels) (value_at variables levels)
unfolding value_draft value_at
value_alike variables zero = λ tokens.
    deep_alike shown (given value_of doubled_in_value) sign.OpenBracket (draft.opening sign.OpenBrace None (mapped plain (plain_value variables))) (branch (is_sign sign.OpenBrace) (too_deep (is_sign sign.OpenBrace)) (tree.plain_value variables)) tokens
    (deep_alike shown (given value_of doubled_in_value) sign.OpenBrace (mapped plain (plain_value variables)) (tree.plain_value variables) tokens (plain_draft_alike variables tokens))
value_alike variables (suc n) = λ tokens.
    opens_alike shown (given value_of doubled_in_value) sign.OpenBracket (λ _. draft.list_by (value_draft variables n)) (draft.opening sign.OpenBrace (Some (λ _. draft.object_by (value_draft variables n))) (mapped plain (plain_value variables)))
    (λ _. mapped ListTree (ended (many (other_than sign.CloseBracket) (value_at variables n)) (take_sign sign.CloseBracket))) (branch (is_sign sign.OpenBrace) (tree.object_by (tree.member_by (value_at variables n))) (tree.plain_value variables)) tokens
    (λ _. list_alike (value_draft variables n) (value_at variables n) (value_alike variables n))
    (opens_alike shown (given value_of doubled_in_value) sign.OpenBrace (λ _. draft.object_by (value_draft variables n)) (mapped plain (plain_value variables))
    (λ _. mapped ObjectTree (ended (many (other_than sign.CloseBrace) (tree.member_by (value_at variables n))) (take_sign sign.CloseBrace))) (tree.plain_value variables) tokens
    (λ _. object_alike (value_draft variables n) (value_at variables n) (value_alike variables n)) (plain_draft_alike variables tokens))

pub member_alike : (variables : Variables) (levels : ℕ) → Alike seen_member told_member (member_draft variables levels) (member_at variables levels)
unfolding member_draft member_at
member_alike variables levels = member_by_alike (value_draft variables levels) (value_at variables levels) (value_alike variables levels)

abbrev pub placed_of : PlacedValue → Positioned DocValue
placed_of value = at_place value.pos (value_of value.node)

abbrev pub doubled_in_placed : PlacedValue → Option Pos
doubled_in_placed value = doubled_in_value value.node

pub placed_alike : (variables : Variables) → Alike shown (given placed_of doubled_in_placed) (placed_draft variables) (placed_value variables)
unfolding placed_draft placed_value
placed_alike variables tokens =
    map_alike shown (given value_of doubled_in_value) shown (given placed_of doubled_in_placed) (value_draft variables max_levels) (value_at variables max_levels)
    (remade (at_place (place_of tokens))) (λ value. record { pos = place_of tokens; node = value }) tokens (value_alike variables max_levels tokens)
    (λ x t same. one_shown (at_place (place_of tokens)) x.doubled (doubled_in_value t) x.part (value_of t) same)

-- Arguments and directives.

pub argument_alike : (variables : Variables) → Alike shown (given argument_of doubled_in_argument) (argument_draft variables) (argument variables)
unfolding argument_draft argument
argument_alike variables tokens =
    bind_same shown (given argument_of doubled_in_argument) take_name (λ name. past (take_sign sign.Colon) (mapped (remade (argument_in name)) (placed_draft variables))) (λ name. past (take_sign sign.Colon) (mapped (λ value. record { name = name; value = value }) (placed_value variables))) tokens
    (λ name rest.
    bind_same shown (given argument_of doubled_in_argument) (take_sign sign.Colon) (λ _. mapped (remade (argument_in name)) (placed_draft variables)) (λ _. mapped (λ value. record { name = name; value = value }) (placed_value variables)) rest
    (λ pos left.
    map_alike shown (given placed_of doubled_in_placed) shown (given argument_of doubled_in_argument) (placed_draft variables) (placed_value variables) (remade (argument_in name)) (λ value. record { name = name; value = value }) left
    (placed_alike variables left)
    (λ x t same. one_shown (argument_in name) x.doubled (doubled_in_placed t) x.part (placed_of t) same)))

-- in parentheses, or not at all
module _ {A T : Type 0} (part : T → A) (doubled : T → Option Pos) (f : Reader (Draft (List A))) (g : Reader T) (alike : Alike shown (given (map part) (first_in doubled)) f (some (other_than sign.CloseParen) g)) where
  pub parentheses_alike : Alike shown (given (map part) (first_in doubled)) (draft.if_parentheses f) (tree.in_parentheses g)
  parentheses_alike tokens =
      taken_alike shown (given (map part) (first_in doubled)) sign.OpenParen (ended f (take_sign sign.CloseParen)) (gives (plain []))
      (past (take_sign sign.OpenParen) (ended (some (other_than sign.CloseParen) g) (take_sign sign.CloseParen))) (gives []) tokens
      (λ next.
      ended_alike shown (given (map part) (first_in doubled)) f (some (other_than sign.CloseParen) g) (take_sign sign.CloseParen) (behind_first tokens) (alike (behind_first tokens))
      ∙ sym (sign_first shown (given (map part) (first_in doubled)) sign.OpenParen (λ _. ended (some (other_than sign.CloseParen) g) (take_sign sign.CloseParen)) tokens next))
      refl

pub arguments_alike : (variables : Variables) → Alike shown (given (map argument_of) doubled_in_arguments) (arguments_draft variables) (arguments variables)
unfolding arguments_draft some_arguments_draft arguments
arguments_alike variables =
    parentheses_alike argument_of doubled_in_argument (some_by (other_than sign.CloseParen) (argument_draft variables)) (argument variables)
    (some_alike argument_of doubled_in_argument (other_than sign.CloseParen) (argument_draft variables) (argument variables) (argument_alike variables))

pub directive_alike : (variables : Variables) → Alike shown (given directive_of doubled_in_directive) (directive_draft variables) (directive variables)
unfolding directive_draft directive
directive_alike variables tokens =
    bind_same shown (given directive_of doubled_in_directive) (take_sign sign.At) (λ pos. take_name then (λ name. mapped (remade (directive_in pos name)) (arguments_draft variables)))
    (λ pos. take_name then (λ name. mapped (λ args. record { pos = pos; name = name; arguments = args }) (arguments variables))) tokens
    (λ pos rest.
    bind_same shown (given directive_of doubled_in_directive) take_name (λ name. mapped (remade (directive_in pos name)) (arguments_draft variables)) (λ name. mapped (λ args. record { pos = pos; name = name; arguments = args }) (arguments variables)) rest
    (λ name left.
    map_alike shown (given (map argument_of) doubled_in_arguments) shown (given directive_of doubled_in_directive) (arguments_draft variables) (arguments variables) (remade (directive_in pos name)) (λ args. record { pos = pos; name = name; arguments = args }) left
    (arguments_alike variables left)
    (λ x ts same. one_shown (directive_in pos name) x.doubled (doubled_in_arguments ts) x.part (map argument_of ts) same)))

pub directives_alike : (variables : Variables) → Alike shown (given (map directive_of) doubled_in_directives) (directives_draft variables) (directives variables)
unfolding directives_draft directives
directives_alike variables = items_alike directive_of doubled_in_directive (is_sign sign.At) (directive_draft variables) (directive variables) (directive_alike variables)

-- Definitions of variables.

default_value : (v : PlacedValue) → default_in (placed_of v) ≡ default_of (Some v)
default_value v = ap (λ c. Some (at_place v.pos c)) (constant_is v.node)

pub default_alike : Alike shown (given default_of doubled_in_default) default_draft default
unfolding default_draft default
default_alike tokens =
    taken_alike shown (given default_of doubled_in_default) sign.Equals (mapped (remade default_in) (placed_draft Forbidden)) (gives (plain None))
    (mapped Some (past (take_sign sign.Equals) (placed_value Forbidden))) (gives None) tokens
    (λ next.
    map_alike shown (given placed_of doubled_in_placed) shown (given default_of doubled_in_default) (placed_draft Forbidden) (placed_value Forbidden) (remade default_in) Some (behind_first tokens)
    (placed_alike Forbidden (behind_first tokens))
    (λ x t same. one_shown default_in x.doubled (doubled_in_placed t) x.part (placed_of t) same ∙ ap (judged (doubled_in_placed t)) (default_value t))
    ∙ sym (sign_first shown (given default_of doubled_in_default) sign.Equals (λ _. mapped Some (placed_value Forbidden)) tokens next)
    ∙ sym (ap (λ reading. go_on reading.0 reading.1 (λ v. gives (given default_of doubled_in_default v))) (regroup (take_sign sign.Equals) (λ _. placed_value Forbidden) Some tokens)))
    refl

abbrev variable_made : Pos → PlacedName → PlacedType → Option (Positioned Value) → List (Positioned Directive) → Positioned VariableDefinition
variable_made pos name ty d ds = at_place pos (record { name = name; var_type = ty; directives = ds; default = d })

abbrev tree_variable : Pos → PlacedName → PlacedType → Option PlacedValue → List DirectiveTree → VariableTree
tree_variable pos name ty d ds = record { pos = pos; name = name; ty = ty; default = d; directives = ds }

abbrev draft_last : Pos → PlacedName → PlacedType → Draft (Option (Positioned Value)) → Reader (Draft (Positioned VariableDefinition))
draft_last pos name ty d = mapped (variable_in pos name ty d) (directives_draft Forbidden)

abbrev tree_last : Pos → PlacedName → PlacedType → Option PlacedValue → Reader VariableTree
tree_last pos name ty d = mapped (tree_variable pos name ty d) (directives Forbidden)

abbrev draft_typed : Pos → PlacedName → Reader (Draft (Positioned VariableDefinition))
draft_typed pos name = placed_type then (λ ty. default_draft then (λ d. draft_last pos name ty d))

abbrev tree_typed : Pos → PlacedName → Reader VariableTree
tree_typed pos name = placed_type then (λ ty. default then (λ d. tree_last pos name ty d))

abbrev draft_named : Pos → Reader (Draft (Positioned VariableDefinition))
draft_named pos = take_name then (λ name. past (take_sign sign.Colon) (draft_typed pos name))

abbrev tree_named : Pos → Reader VariableTree
tree_named pos = take_name then (λ name. past (take_sign sign.Colon) (tree_typed pos name))

pub variable_alike : Alike shown (given variable_of doubled_in_variable) variable_draft variable
unfolding variable_draft variable
variable_alike tokens =
    bind_same shown (given variable_of doubled_in_variable) (take_sign sign.Dollar) (λ pos. draft_named pos) (λ pos. tree_named pos) tokens
    (λ pos rest.
    bind_same shown (given variable_of doubled_in_variable) take_name (λ name. past (take_sign sign.Colon) (draft_typed pos name)) (λ name. past (take_sign sign.Colon) (tree_typed pos name)) rest
    (λ name left.
    bind_same shown (given variable_of doubled_in_variable) (take_sign sign.Colon) (λ _. draft_typed pos name) (λ _. tree_typed pos name) left
    (λ colon behind.
    bind_same shown (given variable_of doubled_in_variable) placed_type (λ ty. default_draft then (λ d. draft_last pos name ty d)) (λ ty. default then (λ d. tree_last pos name ty d)) behind
    (λ ty more.
    bind_alike shown (given default_of doubled_in_default) shown (given variable_of doubled_in_variable) default_draft default (λ d. draft_last pos name ty d) (λ d. tree_last pos name ty d) more (default_alike more)
    (λ x d last same.
    map_alike shown (given (map directive_of) doubled_in_directives) shown (given variable_of doubled_in_variable) (directives_draft Forbidden) (directives Forbidden) (variable_in pos name ty x) (tree_variable pos name ty d) last
    (directives_alike Forbidden last)
    (λ y ds others. both_shown (variable_made pos name ty) x.doubled (doubled_in_default d) y.doubled (doubled_in_directives ds) x.part (default_of d) y.part (map directive_of ds) same others))))))

pub variables_alike : Alike shown (given (map variable_of) (first_in doubled_in_variable)) variables_draft variables
unfolding variables_draft some_variables_draft variables
variables_alike =
    parentheses_alike variable_of doubled_in_variable (some_by (other_than sign.CloseParen) variable_draft) variable
    (some_alike variable_of doubled_in_variable (other_than sign.CloseParen) variable_draft variable variable_alike)

-- What is read takes a token.

pub value_shrinks : (variables : Variables) (levels : ℕ) → Shrinks (value_draft variables levels)
value_shrinks variables levels =
    shrinks_alike shown (given value_of doubled_in_value) (value_draft variables levels) (value_at variables levels) (value_alike variables levels)
    (shrinking (other_than sign.CloseBracket) (value_at variables levels) (IsValue variables levels) (value_reads variables levels).sound (value_starts variables levels))

pub member_shrinks : (variables : Variables) (levels : ℕ) → Shrinks (member_draft variables levels)
member_shrinks variables levels =
    shrinks_alike seen_member told_member (member_draft variables levels) (member_at variables levels) (member_alike variables levels)
    (shrinking (other_than sign.CloseBrace) (member_at variables levels) (IsMember variables levels) (member_at_reads variables levels).sound (member_starts variables levels))

pub argument_shrinks : (variables : Variables) → Shrinks (argument_draft variables)
argument_shrinks variables =
    shrinks_alike shown (given argument_of doubled_in_argument) (argument_draft variables) (argument variables) (argument_alike variables)
    (shrinking (other_than sign.CloseParen) (argument variables) (IsArgument variables) (argument_reads variables).sound (argument_starts variables))

pub directive_shrinks : (variables : Variables) → Shrinks (directive_draft variables)
directive_shrinks variables =
    shrinks_alike shown (given directive_of doubled_in_directive) (directive_draft variables) (directive variables) (directive_alike variables)
    (shrinking (is_sign sign.At) (directive variables) (IsDirective variables) (directive_reads variables).sound (directive_next variables))

pub variable_shrinks : Shrinks variable_draft
variable_shrinks =
    shrinks_alike shown (given variable_of doubled_in_variable) variable_draft variable variable_alike
    (shrinking (other_than sign.CloseParen) variable IsVariable variable_reads.sound variable_starts)
