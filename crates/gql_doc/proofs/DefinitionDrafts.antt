-- The drafts of definitions are what the grammar's trees give, and what a text comes to is what its tree is.
use Rattle.std.proofs.Common.{◌≡◌, List, [], ◌∷◌, map, Option, None, Result, Ok, Err, inl, inr, refl, sym, ap, ◌∙◌}
use Rattle.std.specs.Prelude.{codes}
use Rattle.gql_base.specs.declared.pos.Pos.{Pos}
use Rattle.gql_tokens.specs.declared.token.Punctuator.TheVariants as sign
use Rattle.gql_doc.specs.declared.document.Directive.{Directive}
use Rattle.gql_doc.specs.declared.document.ExecutableDocument.{ExecutableDocument}
use Rattle.gql_doc.specs.declared.document.FragmentDefinition.{FragmentDefinition}
use Rattle.gql_doc.specs.declared.document.OperationDefinition.{OperationDefinition}
use Rattle.gql_doc.specs.declared.document.OperationType.{OperationType}
use Rattle.gql_doc.specs.declared.document.OperationType.TheVariants.{Query}
use Rattle.gql_doc.specs.declared.document.Positioned.{Positioned}
use Rattle.gql_doc.specs.declared.document.SelectionSet.{SelectionSet}
use Rattle.gql_doc.specs.declared.document.VariableDefinition.{VariableDefinition}
use Rattle.gql_doc.specs.declared.fault.ParseFault.{ParseFault}
use Rattle.gql_doc.specs.declared.gathering.DefinitionDraft.{DefinitionDraft}
use Rattle.gql_doc.specs.declared.gathering.Gathering.{Gathering}
use Rattle.gql_doc.specs.declared.tree.Variables.TheVariants.{Allowed}
use Rattle.gql_doc.specs.declared.tree.DirectiveTree.{DirectiveTree}
use Rattle.gql_doc.specs.declared.tree.VariableTree.{VariableTree}
use Rattle.gql_doc.specs.declared.tree.SetTree.{SetTree}
use Rattle.gql_doc.specs.declared.tree.DefinitionTree.{DefinitionTree}
use Rattle.gql_doc.specs.declared.tree.DefinitionTree.TheVariants.{Operation, Fragment}
use Rattle.gql_doc.specs.declared.trouble.Trouble.{Trouble}
use Rattle.gql_doc.specs.First.{first_in}
use Rattle.gql_doc.specs.Words.{Tokens, PlacedName}
use Rattle.gql_doc.specs.Grammar.{max_levels}
use Rattle.gql_doc.specs.NameRules.{doubled_in_directives, doubled_in_set, doubled_in_variable}
use Rattle.gql_doc.specs.Building.{directive_of, variable_of, whole_set_of}
use Rattle.gql_doc.specs.Readers.{Reader, begins, branch, gives, go_on, many, mapped, optional, place_of, some, ◌then◌}
use Rattle.gql_doc.specs.Reading.{set}
use Rattle.gql_doc.specs.Reading.{is_sign, is_word, is_name, before_end, take_name, take_word, take_fragment_name, take_operation, take_end, condition, directives, variables, set_at, shorthand, operation, fragment, definition, document, kind_at, parsed}
use Rattle.gql_doc.specs.Drafts.{folded}
use Rattle.gql_doc.specs.Gathered.{nothing_gathered, gathered, outcome_of}
use Rattle.gql_doc.specs.Ruled.{ruled, then_ruled, query_of}
use Rattle.gql_doc.specs.Drafting.{variables_draft, directives_draft, set_draft, shorthand_of, operation_of, fragment_of, shorthand_draft, operation_draft, fragment_draft, definition_draft, definitions_draft, document_draft}
use Rattle.gql_doc.specs.Grammar.{IsDefinition}
use Rattle.gql_doc.proofs.ReaderLaws.{Shrinks, shrinking}
use Rattle.gql_doc.proofs.DefinitionLaws.{definition_reads}
use Rattle.gql_doc.proofs.TextLaws.{definition_starts}
use Rattle.gql_doc.proofs.Alike.{Alike, shrinks_alike, regroup, bind_alike, bind_same, map_alike, ended_alike, many_alike, choose_alike}
use Rattle.gql_doc.proofs.DraftLaws.{shown, given, one_shown, both_shown, three_shown}
use Rattle.gql_doc.proofs.GatherLaws.{seen, told, gathered_is}
use Rattle.gql_doc.proofs.SelectionDrafts.{at_brace, set_placed, set_alike}
use Rattle.gql_doc.proofs.ValueDrafts.{directives_alike, variables_alike}

-- Definitions.

abbrev DefinitionAlike : Reader DefinitionDraft → Reader DefinitionTree → Type 0
DefinitionAlike f g = Alike seen told f g

abbrev query_made : Positioned SelectionSet → OperationDefinition
query_made inner = record { ty = Query; variable_definitions = []; directives = []; selection_set = inner }

abbrev tree_query : SetTree → DefinitionTree
tree_query inner = Operation (record { pos = inner.pos; ty = Query; name = None; variables = []; directives = []; set = inner })

shorthand_alike : DefinitionAlike shorthand_draft shorthand
unfolding shorthand_draft shorthand set
shorthand_alike tokens =
    let pos : Pos = place_of tokens in
    map_alike shown (λ inner. given whole_set_of doubled_in_set (at_brace pos inner)) seen told (set_draft max_levels) (set_at max_levels) (shorthand_of pos) (λ inner. tree_query (at_brace pos inner)) tokens
    (set_alike max_levels tokens
    ∙ ap (λ reading. go_on reading.0 reading.1 (λ inner. gives (given whole_set_of doubled_in_set inner))) (set_placed max_levels tokens)
    ∙ regroup (set_at max_levels) (λ inner. gives (at_brace pos inner)) (given whole_set_of doubled_in_set) tokens)
    (λ x inner same. ap (λ node. inl (pos, None, node)) (one_shown query_made x.doubled (doubled_in_set inner) x.part (whole_set_of (at_brace pos inner)) same))
    ∙ sym (ap (λ reading. go_on reading.0 reading.1 (λ d. gives (told d)))
    (ap (λ reading. go_on reading.0 reading.1 (λ inner. gives (tree_query inner))) (set_placed max_levels tokens)
    ∙ regroup (set_at max_levels) (λ inner. gives (at_brace pos inner)) tree_query tokens))

abbrev operation_made : OperationType → List (Positioned VariableDefinition) → List (Positioned Directive) → Positioned SelectionSet → OperationDefinition
operation_made ty vs ds inner = record { ty = ty; variable_definitions = vs; directives = ds; selection_set = inner }

abbrev tree_operation : Pos → OperationType → Option PlacedName → List VariableTree → List DirectiveTree → SetTree → DefinitionTree
tree_operation pos ty name vs ds inner = Operation (record { pos = pos; ty = ty; name = name; variables = vs; directives = ds; set = inner })

operation_alike : DefinitionAlike operation_draft operation
unfolding operation_draft operation set
operation_alike tokens =
    bind_same seen told take_operation
    (λ kind. optional is_name take_name then (λ name. variables_draft then (λ vs. directives_draft Allowed then (λ ds. mapped (operation_of kind.0 kind.1 name vs ds) (set_draft max_levels)))))
    (λ kind. optional is_name take_name then (λ name. variables then (λ vs. directives Allowed then (λ ds. mapped (tree_operation kind.0 kind.1 name vs ds) (set_at max_levels))))) tokens
    (λ kind a.
    bind_same seen told (optional is_name take_name)
    (λ name. variables_draft then (λ vs. directives_draft Allowed then (λ ds. mapped (operation_of kind.0 kind.1 name vs ds) (set_draft max_levels))))
    (λ name. variables then (λ vs. directives Allowed then (λ ds. mapped (tree_operation kind.0 kind.1 name vs ds) (set_at max_levels)))) a
    (λ name b.
    bind_alike shown (given (map variable_of) (first_in doubled_in_variable)) seen told variables_draft variables
    (λ vs. directives_draft Allowed then (λ ds. mapped (operation_of kind.0 kind.1 name vs ds) (set_draft max_levels)))
    (λ vs. directives Allowed then (λ ds. mapped (tree_operation kind.0 kind.1 name vs ds) (set_at max_levels))) b (variables_alike b)
    (λ x vs c one.
    bind_alike shown (given (map directive_of) doubled_in_directives) seen told (directives_draft Allowed) (directives Allowed)
    (λ ds. mapped (operation_of kind.0 kind.1 name x ds) (set_draft max_levels)) (λ ds. mapped (tree_operation kind.0 kind.1 name vs ds) (set_at max_levels)) c (directives_alike Allowed c)
    (λ y ds d two.
    map_alike shown (given whole_set_of doubled_in_set) seen told (set_draft max_levels) (set_at max_levels) (operation_of kind.0 kind.1 name x y) (tree_operation kind.0 kind.1 name vs ds) d (set_alike max_levels d)
    (λ z inner three.
    ap (λ node. inl (kind.0, name, node))
    (three_shown (operation_made kind.1) x.doubled (first_in doubled_in_variable vs) y.doubled (doubled_in_directives ds) z.doubled (doubled_in_set inner) x.part (map variable_of vs) y.part (map directive_of ds) z.part (whole_set_of inner) one two three))))))

abbrev fragment_made : PlacedName → List (Positioned Directive) → Positioned SelectionSet → FragmentDefinition
fragment_made on_type ds inner = record { type_condition = on_type; directives = ds; selection_set = inner }

abbrev tree_fragment : Pos → PlacedName → PlacedName → List DirectiveTree → SetTree → DefinitionTree
tree_fragment pos name on_type ds inner = Fragment (record { pos = pos; name = name; condition = on_type; directives = ds; set = inner })

fragment_alike : DefinitionAlike fragment_draft fragment
unfolding fragment_draft fragment set
fragment_alike tokens =
    bind_same seen told (take_word (codes "fragment"))
    (λ pos. take_fragment_name then (λ name. condition then (λ c. directives_draft Allowed then (λ ds. mapped (fragment_of pos name c ds) (set_draft max_levels)))))
    (λ pos. take_fragment_name then (λ name. condition then (λ c. directives Allowed then (λ ds. mapped (tree_fragment pos name c ds) (set_at max_levels))))) tokens
    (λ pos a.
    bind_same seen told take_fragment_name
    (λ name. condition then (λ c. directives_draft Allowed then (λ ds. mapped (fragment_of pos name c ds) (set_draft max_levels))))
    (λ name. condition then (λ c. directives Allowed then (λ ds. mapped (tree_fragment pos name c ds) (set_at max_levels)))) a
    (λ name b.
    bind_same seen told condition
    (λ c. directives_draft Allowed then (λ ds. mapped (fragment_of pos name c ds) (set_draft max_levels)))
    (λ c. directives Allowed then (λ ds. mapped (tree_fragment pos name c ds) (set_at max_levels))) b
    (λ c e.
    bind_alike shown (given (map directive_of) doubled_in_directives) seen told (directives_draft Allowed) (directives Allowed)
    (λ ds. mapped (fragment_of pos name c ds) (set_draft max_levels)) (λ ds. mapped (tree_fragment pos name c ds) (set_at max_levels)) e (directives_alike Allowed e)
    (λ x ds f one.
    map_alike shown (given whole_set_of doubled_in_set) seen told (set_draft max_levels) (set_at max_levels) (fragment_of pos name c x) (tree_fragment pos name c ds) f (set_alike max_levels f)
    (λ y inner two.
    ap (λ node. inr (pos, name, node))
    (both_shown (fragment_made c) x.doubled (doubled_in_directives ds) y.doubled (doubled_in_set inner) x.part (map directive_of ds) y.part (whole_set_of inner) one two))))))

pub definition_alike : DefinitionAlike definition_draft definition
unfolding definition_draft definition
definition_alike tokens =
    choose_alike seen told (begins (is_sign sign.OpenBrace) tokens) shorthand_draft (branch (is_word (codes "fragment")) fragment_draft operation_draft) shorthand (branch (is_word (codes "fragment")) fragment operation) tokens
    (shorthand_alike tokens)
    (choose_alike seen told (begins (is_word (codes "fragment")) tokens) fragment_draft operation_draft fragment operation tokens (fragment_alike tokens) (operation_alike tokens))

-- Whole texts.

pub document_alike : Alike outcome_of ruled document_draft document
unfolding document_draft definitions_draft document
document_alike tokens =
    ended_alike outcome_of ruled (definition_draft then (λ first. mapped (folded gathered (gathered nothing_gathered first)) (many before_end definition_draft))) (some before_end definition) take_end tokens
    (bind_alike seen told outcome_of ruled definition_draft definition (λ first. mapped (folded gathered (gathered nothing_gathered first)) (many before_end definition_draft)) (λ t. mapped (λ more. t ∷ more) (many before_end definition)) tokens (definition_alike tokens)
    (λ x t rest first.
    map_alike (map seen) (map told) outcome_of ruled (many before_end definition_draft) (many before_end definition) (folded gathered (gathered nothing_gathered x)) (λ more. t ∷ more) rest
    (many_alike seen told before_end definition_draft definition definition_alike rest)
    (λ xs ts others. gathered_is x t xs ts first others)))

abbrev Outcome : Type 0
Outcome = Result ExecutableDocument ParseFault

abbrev outcome_or : Outcome → Result Outcome Trouble → Outcome
outcome_or o (Ok other) = other
outcome_or o (Err trouble) = o

abbrev judged_text : Result Outcome Trouble → Tokens → Outcome
judged_text (Ok outcome) rest = outcome
judged_text (Err trouble) rest = Err (record { kind = kind_at trouble rest; pos = place_of rest })

text_by : (o : Result (List DefinitionTree) Trouble) (rest : Tokens) → judged_text (go_on o rest (λ ds. gives (ruled ds))).0 (go_on o rest (λ ds. gives (ruled ds))).1 ≡ then_ruled (parsed o rest)
text_by (Ok ds) rest = refl
text_by (Err trouble) rest = refl

text_is : (tokens : Tokens) (o : Result Gathering Trouble) (rest : Tokens) → document_draft tokens ≡ (o, rest)
    → judged_text (go_on o rest (λ all. gives (outcome_of all))).0 (go_on o rest (λ all. gives (outcome_of all))).1 ≡ query_of tokens
text_is tokens o rest e =
    ap (λ reading. judged_text reading.0 reading.1) (sym (ap (λ reading. go_on reading.0 reading.1 (λ all. gives (outcome_of all))) e) ∙ document_alike tokens)
    ∙ text_by (document tokens).0 (document tokens).1

-- what was read is the text's document or its fault against the rules
pub text_read : (tokens rest : Tokens) (all : Gathering) → document_draft tokens ≡ (Ok all, rest) → outcome_of all ≡ query_of tokens
text_read tokens rest all e = text_is tokens (Ok all) rest e

-- where the reading stopped, the text's fault is
pub text_stopped : (tokens rest : Tokens) (trouble : Trouble) → document_draft tokens ≡ (Err trouble, rest)
    → query_of tokens ≡ Err (record { kind = kind_at trouble rest; pos = place_of rest })
text_stopped tokens rest trouble e = sym (text_is tokens (Err trouble) rest e)

pub definition_shrinks : Shrinks definition_draft
definition_shrinks =
    shrinks_alike seen told definition_draft definition definition_alike (shrinking before_end definition IsDefinition definition_reads.sound definition_starts)
