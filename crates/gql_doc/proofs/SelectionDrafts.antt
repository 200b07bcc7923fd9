-- The drafts of selections and sets are what the grammar's trees give.
use Rattle.std.proofs.Common.{◌≡◌, ℕ, zero, suc, Bool, true, false, List, [], map, Option, Err, refl, sym, ap, ◌∙◌}
use Rattle.std.specs.Prelude.{codes}
use Rattle.std.specs.Option.{option_or}
use Rattle.gql_base.specs.declared.pos.Pos.{Pos}
use Rattle.gql_tokens.specs.declared.token.Punctuator.TheVariants as sign
use Rattle.gql_doc.specs.declared.document.Argument.{Argument}
use Rattle.gql_doc.specs.declared.document.Directive.{Directive}
use Rattle.gql_doc.specs.declared.document.Positioned.{Positioned}
use Rattle.gql_doc.specs.declared.document.SelectionSet.{SelectionSet}
use Rattle.gql_doc.specs.declared.document.Selection.{Selection}
use Rattle.gql_doc.specs.declared.document.Selection.TheVariants as selection
use Rattle.gql_doc.specs.declared.document.Field.{roll-Field}
use Rattle.gql_doc.specs.declared.document.InlineFragment.{roll-InlineFragment}
use Rattle.gql_doc.specs.declared.draft.Draft.{Draft}
use Rattle.gql_doc.specs.declared.tree.Variables.TheVariants.{Allowed}
use Rattle.gql_doc.specs.declared.tree.ArgumentTree.{ArgumentTree}
use Rattle.gql_doc.specs.declared.tree.DirectiveTree.{DirectiveTree}
use Rattle.gql_doc.specs.declared.tree.SelectionTree.{SelectionTree, Field, Spread, Inline}
use Rattle.gql_doc.specs.declared.tree.SetTree.{SetTree}
use Rattle.gql_doc.specs.declared.trouble.Trouble.{Trouble}
use Rattle.gql_doc.specs.declared.trouble.Trouble.TheVariants.{Unexpected, TooDeep}
use Rattle.gql_doc.specs.First.{first_in}
use Rattle.gql_doc.specs.Words.{Tokens, PlacedName}
use Rattle.gql_doc.specs.Grammar.{head_pos}
use Rattle.gql_doc.specs.NameRules.{doubled_in_arguments, doubled_in_directives, doubled_in_selection, doubled_in_set}
use Rattle.gql_doc.specs.Building.{placed as at_place, argument_of, directive_of, selection_of, set_of, whole_set_of}
use Rattle.gql_doc.specs.Readers.{Reader, begins, behind_first, branch, choose, ended, gives, go_on, mapped, optional, place_of, some, ◌then◌}
use Rattle.gql_doc.specs.Reading as tree
use Rattle.gql_doc.specs.Reading.{is_sign, is_word, is_fragment_name, other_than, take_sign, take_fragment_name, arguments, directives, head, condition, set_at, selection_at}
use Rattle.gql_doc.specs.Drafts.{plain, remade}
use Rattle.gql_doc.specs.Drafting as draft
use Rattle.gql_doc.specs.Drafting.{SetDraft, arguments_draft, directives_draft, opening, stopped, inner_at, set_draft, set_or_none_by, set_by, selection_draft, spread_draft, inline_behind, field_draft, set_or_none_draft, spread_behind, field_of, inline_of, spread_of, behind_brace, selection_by, some_by}
use Rattle.gql_doc.specs.Grammar.{IsSelection}
use Rattle.gql_doc.proofs.ReaderLaws.{Shrinks, shrinking}
use Rattle.gql_doc.proofs.SelectionLaws.{selection_at_reads, selection_starts}
use Rattle.gql_doc.proofs.Alike.{Alike, shrinks_alike, regroup, bind_alike, bind_same, map_alike, ended_alike, choose_alike, taken_alike, opens_alike, deep_alike, sign_first}
use Rattle.gql_doc.proofs.BuildLaws.{doubled_field, field_built, doubled_inline, inline_built}
use Rattle.gql_doc.proofs.CursorLaws.{sign_missed, sign_taken}
use Rattle.gql_doc.proofs.DraftLaws.{judged, shown, given, one_shown, both_shown, three_shown}
use Rattle.gql_doc.proofs.ValueDrafts.{arguments_alike, directives_alike, some_alike}

abbrev pub SetAlike : Reader SetDraft → Reader SetTree → Type 0
SetAlike f g = Alike shown (given whole_set_of doubled_in_set) f g

abbrev pub SelectionAlike : Reader (Draft (Positioned Selection)) → Reader SelectionTree → Type 0
SelectionAlike f g = Alike shown (given selection_of doubled_in_selection) f g

abbrev set_tree : Pos → List SelectionTree → SetTree
set_tree pos selections = record { pos = pos; selections = selections }

-- a set that may open, where so many levels are left
abbrev OpensAlike : ℕ → Type 0
OpensAlike n = (f : Reader SetDraft) (g : Reader SetTree) (tokens : Tokens) → mapped shown f tokens ≡ mapped (given whole_set_of doubled_in_set) g tokens
    → mapped shown (opening sign.OpenBrace (inner_at n) f) tokens ≡ mapped (given whole_set_of doubled_in_set) (branch (is_sign sign.OpenBrace) (set_at n) g) tokens

-- Fields.

abbrev field_made : Option PlacedName → PlacedName → List Argument → List (Positioned Directive) → Positioned SelectionSet → Positioned Selection
field_made alias name args ds set =
    at_place (head_pos alias name) (selection.Field (at_place (head_pos alias name)
    (roll-Field (record { alias = alias; name = name; arguments = args; directives = ds; selection_set = set }))))

abbrev tree_field : Option PlacedName → PlacedName → List ArgumentTree → List DirectiveTree → SetTree → SelectionTree
tree_field alias name args ds set = Field alias name args ds set.pos set.selections

field_given : (alias : Option PlacedName) (name : PlacedName) (args : List ArgumentTree) (ds : List DirectiveTree) (set : SetTree)
    → judged (option_or (doubled_in_arguments args) (option_or (doubled_in_directives ds) (doubled_in_set set))) (field_made alias name (map argument_of args) (map directive_of ds) (whole_set_of set))
    ≡ given selection_of doubled_in_selection (tree_field alias name args ds set)
field_given alias name args ds set =
    λ i. judged (sym (doubled_field alias name args ds set.pos set.selections) i) (sym (field_built alias name args ds set.pos set.selections) i)

abbrev inline_made : Pos → Option PlacedName → List (Positioned Directive) → Positioned SelectionSet → Positioned Selection
inline_made pos on_type ds set =
    at_place pos (selection.InlineFragment (at_place pos (roll-InlineFragment (record { type_condition = on_type; directives = ds; selection_set = set }))))

abbrev tree_inline : Pos → Option PlacedName → List DirectiveTree → SetTree → SelectionTree
tree_inline pos on_type ds set = Inline pos on_type ds set.pos set.selections

inline_given : (pos : Pos) (on_type : Option PlacedName) (ds : List DirectiveTree) (set : SetTree)
    → judged (option_or (doubled_in_directives ds) (doubled_in_set set)) (inline_made pos on_type (map directive_of ds) (whole_set_of set))
    ≡ given selection_of doubled_in_selection (tree_inline pos on_type ds set)
inline_given pos on_type ds set =
    λ i. judged (sym (doubled_inline pos on_type ds set.pos set.selections) i) (sym (inline_built pos on_type ds set.pos set.selections) i)

spread_alike : (pos : Pos) → SelectionAlike (spread_behind pos) (tree.spread_behind pos)
unfolding spread_behind
spread_alike pos tokens =
    bind_same shown (given selection_of doubled_in_selection) take_fragment_name (λ name. mapped (remade (spread_of pos name)) (directives_draft Allowed)) (λ name. mapped (λ ds. Spread pos name ds) (directives Allowed)) tokens
    (λ name rest.
    map_alike shown (given (map directive_of) doubled_in_directives) shown (given selection_of doubled_in_selection) (directives_draft Allowed) (directives Allowed) (remade (spread_of pos name)) (λ ds. Spread pos name ds) rest
    (directives_alike Allowed rest)
    (λ x ds same. one_shown (spread_of pos name) x.doubled (doubled_in_directives ds) x.part (map directive_of ds) same))

-- a set that is not there
set_missed : (n : ℕ) (tokens : Tokens) → begins (is_sign sign.OpenBrace) tokens ≡ false → set_at n tokens ≡ (Err Unexpected, tokens)
unfolding set_at
set_missed zero tokens next = ap (λ b. choose b (λ here. (Err TooDeep, here)) (λ here. (Err Unexpected, here)) tokens) next
set_missed (suc n) tokens next =
    ap (λ reading. go_on reading.0 reading.1 (λ pos. mapped (set_tree pos) (ended (some (other_than sign.CloseBrace) (tree.selection_by (set_at n))) (take_sign sign.CloseBrace))))
    (sign_missed sign.OpenBrace tokens next)

module _ (n : ℕ) (opens : OpensAlike n) where
  set_or_stop : (b : Bool) (tokens : Tokens) → begins (is_sign sign.OpenBrace) tokens ≡ b → choose b (set_at n) (stopped Unexpected) tokens ≡ set_at n tokens
  set_or_stop true tokens next = refl
  set_or_stop false tokens next = sym (set_missed n tokens next)

  set_of_level : SetAlike (set_by (inner_at n)) (set_at n)
  set_of_level tokens =
      opens (stopped Unexpected) (stopped Unexpected) tokens refl
      ∙ ap (λ reading. go_on reading.0 reading.1 (λ set. gives (given whole_set_of doubled_in_set set))) (set_or_stop (begins (is_sign sign.OpenBrace) tokens) tokens refl)

  set_or_none_of_level : (field : Pos) → SetAlike (set_or_none_by (inner_at n) field) (tree.set_or_none field (set_at n))
  set_or_none_of_level field tokens = opens (gives (plain (set_of field []))) (gives (set_tree field [])) tokens refl

  field_of_level : SelectionAlike (draft.field_by (inner_at n)) (tree.field_by (set_at n))
  field_of_level tokens =
      bind_same shown (given selection_of doubled_in_selection) head
      (λ h. arguments_draft Allowed then (λ args. directives_draft Allowed then (λ ds. mapped (field_of h.0 h.1 args ds) (set_or_none_by (inner_at n) (head_pos h.0 h.1)))))
      (λ h. arguments Allowed then (λ args. directives Allowed then (λ ds. mapped (tree_field h.0 h.1 args ds) (tree.set_or_none (head_pos h.0 h.1) (set_at n))))) tokens
      (λ h rest.
      bind_alike shown (given (map argument_of) doubled_in_arguments) shown (given selection_of doubled_in_selection) (arguments_draft Allowed) (arguments Allowed)
      (λ args. directives_draft Allowed then (λ ds. mapped (field_of h.0 h.1 args ds) (set_or_none_by (inner_at n) (head_pos h.0 h.1))))
      (λ args. directives Allowed then (λ ds. mapped (tree_field h.0 h.1 args ds) (tree.set_or_none (head_pos h.0 h.1) (set_at n)))) rest (arguments_alike Allowed rest)
      (λ x args left one.
      bind_alike shown (given (map directive_of) doubled_in_directives) shown (given selection_of doubled_in_selection) (directives_draft Allowed) (directives Allowed)
      (λ ds. mapped (field_of h.0 h.1 x ds) (set_or_none_by (inner_at n) (head_pos h.0 h.1)))
      (λ ds. mapped (tree_field h.0 h.1 args ds) (tree.set_or_none (head_pos h.0 h.1) (set_at n))) left (directives_alike Allowed left)
      (λ y ds more two.
      map_alike shown (given whole_set_of doubled_in_set) shown (given selection_of doubled_in_selection) (set_or_none_by (inner_at n) (head_pos h.0 h.1)) (tree.set_or_none (head_pos h.0 h.1) (set_at n))
      (field_of h.0 h.1 x y) (tree_field h.0 h.1 args ds) more (set_or_none_of_level (head_pos h.0 h.1) more)
      (λ z set three.
      three_shown (field_made h.0 h.1) x.doubled (doubled_in_arguments args) y.doubled (doubled_in_directives ds) z.doubled (doubled_in_set set) x.part (map argument_of args) y.part (map directive_of ds) z.part (whole_set_of set) one two three
      ∙ field_given h.0 h.1 args ds set))))

  inline_of_level : (pos : Pos) → SelectionAlike (draft.inline_by (inner_at n) pos) (tree.inline_behind pos (set_at n))
  inline_of_level pos tokens =
      bind_same shown (given selection_of doubled_in_selection) (optional (is_word (codes "on")) condition)
      (λ c. directives_draft Allowed then (λ ds. mapped (inline_of pos c ds) (set_by (inner_at n))))
      (λ c. directives Allowed then (λ ds. mapped (tree_inline pos c ds) (set_at n))) tokens
      (λ c rest.
      bind_alike shown (given (map directive_of) doubled_in_directives) shown (given selection_of doubled_in_selection) (directives_draft Allowed) (directives Allowed)
      (λ ds. mapped (inline_of pos c ds) (set_by (inner_at n))) (λ ds. mapped (tree_inline pos c ds) (set_at n)) rest (directives_alike Allowed rest)
      (λ x ds left one.
      map_alike shown (given whole_set_of doubled_in_set) shown (given selection_of doubled_in_selection) (set_by (inner_at n)) (set_at n) (inline_of pos c x) (tree_inline pos c ds) left (set_of_level left)
      (λ y set two.
      both_shown (inline_made pos c) x.doubled (doubled_in_directives ds) y.doubled (doubled_in_set set) x.part (map directive_of ds) y.part (whole_set_of set) one two
      ∙ inline_given pos c ds set)))

  spread_of_level : (pos : Pos) → SelectionAlike (draft.spread_by (inner_at n) pos) (branch is_fragment_name (tree.spread_behind pos) (tree.inline_behind pos (set_at n)))
  spread_of_level pos tokens =
      choose_alike shown (given selection_of doubled_in_selection) (begins is_fragment_name tokens) (spread_behind pos) (draft.inline_by (inner_at n) pos) (tree.spread_behind pos) (tree.inline_behind pos (set_at n)) tokens
      (spread_alike pos tokens) (inline_of_level pos tokens)

  selection_of_level : SelectionAlike (selection_by (inner_at n)) (tree.selection_by (set_at n))
  selection_of_level tokens =
      taken_alike shown (given selection_of doubled_in_selection) sign.Spread (draft.spread_by (inner_at n) (place_of tokens)) (draft.field_by (inner_at n)) (tree.spread_by (set_at n)) (tree.field_by (set_at n)) tokens
      (λ next.
      spread_of_level (place_of tokens) (behind_first tokens)
      ∙ sym (sign_first shown (given selection_of doubled_in_selection) sign.Spread (λ pos. branch is_fragment_name (tree.spread_behind pos) (tree.inline_behind pos (set_at n))) tokens next))
      (field_of_level tokens)

  behind_of_level : (pos : Pos) → SetAlike (behind_brace (selection_by (inner_at n)) pos)
      (mapped (set_tree pos) (ended (some (other_than sign.CloseBrace) (tree.selection_by (set_at n))) (take_sign sign.CloseBrace)))
  behind_of_level pos tokens =
      map_alike shown (given (map selection_of) (first_in doubled_in_selection)) shown (given whole_set_of doubled_in_set)
      (ended (some_by (other_than sign.CloseBrace) (selection_by (inner_at n))) (take_sign sign.CloseBrace)) (ended (some (other_than sign.CloseBrace) (tree.selection_by (set_at n))) (take_sign sign.CloseBrace))
      (remade (set_of pos)) (set_tree pos) tokens
      (ended_alike shown (given (map selection_of) (first_in doubled_in_selection)) (some_by (other_than sign.CloseBrace) (selection_by (inner_at n))) (some (other_than sign.CloseBrace) (tree.selection_by (set_at n))) (take_sign sign.CloseBrace) tokens
      (some_alike selection_of doubled_in_selection (other_than sign.CloseBrace) (selection_by (inner_at n)) (tree.selection_by (set_at n)) selection_of_level tokens))
      (λ x ss same. one_shown (set_of pos) x.doubled (first_in doubled_in_selection ss) x.part (map selection_of ss) same)

opens_at : (n : ℕ) → OpensAlike n
unfolding inner_at set_at
opens_at zero = λ f g tokens same. deep_alike shown (given whole_set_of doubled_in_set) sign.OpenBrace f g tokens same
opens_at (suc n) = λ f g tokens same.
    opens_alike shown (given whole_set_of doubled_in_set) sign.OpenBrace (behind_brace (selection_by (inner_at n))) f
    (λ pos. mapped (set_tree pos) (ended (some (other_than sign.CloseBrace) (tree.selection_by (set_at n))) (take_sign sign.CloseBrace))) g tokens
    (behind_of_level n (opens_at n)) same

pub set_alike : (n : ℕ) → SetAlike (set_draft n) (set_at n)
unfolding set_draft
set_alike n = set_of_level n (opens_at n)

pub selection_alike : (n : ℕ) → SelectionAlike (selection_draft n) (selection_at n)
unfolding selection_draft spread_draft inline_behind field_draft set_draft set_or_none_draft selection_at
selection_alike n = selection_of_level n (opens_at n)

-- The place of a set is that of its brace.

abbrev pub at_brace : Pos → SetTree → SetTree
at_brace pos set = record { pos = pos; selections = set.selections }

still : (n : ℕ) (tokens : Tokens) (trouble : Trouble) (rest : Tokens) → set_at n tokens ≡ (Err trouble, rest) → set_at n tokens ≡ mapped (at_brace (place_of tokens)) (set_at n) tokens
still n tokens trouble rest e = e ∙ sym (ap (λ reading. go_on reading.0 reading.1 (λ set. gives (at_brace (place_of tokens) set))) e)

placed_by : (n : ℕ) (tokens : Tokens) (b : Bool) → begins (is_sign sign.OpenBrace) tokens ≡ b → set_at n tokens ≡ mapped (at_brace (place_of tokens)) (set_at n) tokens
unfolding set_at
placed_by zero tokens true next = still zero tokens TooDeep tokens (ap (λ b. choose b (λ here. (Err TooDeep, here)) (λ here. (Err Unexpected, here)) tokens) next)
placed_by zero tokens false next = still zero tokens Unexpected tokens (set_missed zero tokens next)
placed_by (suc n) tokens true next =
    let inner : Reader (List SelectionTree) = ended (some (other_than sign.CloseBrace) (tree.selection_by (set_at n))) (take_sign sign.CloseBrace) in
    let opened = ap (λ reading. go_on reading.0 reading.1 (λ pos. mapped (set_tree pos) inner)) (sign_taken sign.OpenBrace tokens next) in
    opened
    ∙ sym (regroup inner (λ selections. gives (set_tree (place_of tokens) selections)) (at_brace (place_of tokens)) (behind_first tokens))
    ∙ sym (ap (λ reading. go_on reading.0 reading.1 (λ set. gives (at_brace (place_of tokens) set))) opened)
placed_by (suc n) tokens false next = still (suc n) tokens Unexpected tokens (set_missed (suc n) tokens next)

pub set_placed : (n : ℕ) (tokens : Tokens) → set_at n tokens ≡ mapped (at_brace (place_of tokens)) (set_at n) tokens
set_placed n tokens = placed_by n tokens (begins (is_sign sign.OpenBrace) tokens) refl

pub selection_shrinks : (n : ℕ) → Shrinks (selection_draft n)
selection_shrinks n =
    shrinks_alike shown (given selection_of doubled_in_selection) (selection_draft n) (selection_at n) (selection_alike n)
    (shrinking (other_than sign.CloseBrace) (selection_at n) (IsSelection n) (selection_at_reads n).sound (selection_starts n))
