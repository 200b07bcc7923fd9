-- The readers of definitions.
use Rattle.std.proofs.Common.{◌≡◌, ℕ, true, false, List, [], ◌∷◌, ◌++◌, Option, None, inl, inr, refl, sym, subst}
use Rattle.std.specs.Prelude.{codes}
use Rattle.gql_base.specs.declared.pos.Pos.{Pos}
use Rattle.gql_tokens.specs.declared.token.Punctuator.TheVariants as sign
use Rattle.gql_doc.specs.declared.document.OperationType.{OperationType}
use Rattle.gql_doc.specs.declared.document.OperationType.TheVariants.{Query, Mutation, Subscription}
use Rattle.gql_doc.specs.declared.tree.Variables.TheVariants.{Allowed}
use Rattle.gql_doc.specs.declared.tree.DirectiveTree.{DirectiveTree}
use Rattle.gql_doc.specs.declared.tree.VariableTree.{VariableTree}
use Rattle.gql_doc.specs.declared.tree.SetTree.{SetTree}
use Rattle.gql_doc.specs.declared.tree.DefinitionTree.{DefinitionTree}
use Rattle.gql_doc.specs.declared.tree.DefinitionTree.TheVariants.{Operation, Fragment}
use Rattle.gql_doc.specs.Words.{Tokens, Word, Language, tokens_of, Maybe, KeywordAt}
use Rattle.gql_doc.specs.Grammar.{IsName, IsFragmentName, IsCondition, AreVariables, AreDirectives, IsSet, IsDefinition, keyword, max_levels}
use Rattle.gql_doc.specs.Readers.{begins, mapped, branch, optional, ◌then◌}
use Rattle.gql_doc.specs.Reading.{is_sign, is_name, is_word, take_word, take_name, take_fragment_name, take_operation, directives, variables, condition, set, shorthand, operation, fragment, definition}
use Rattle.gql_doc.proofs.ReaderLaws.{Reads, Always, Seq, Map, Either, Starts, convert, seq, mapped_reads, choice, optional_reads}
use Rattle.gql_doc.proofs.TokenLaws.{IsKind, word_reads, name_reads, fragment_name_reads, operation_word_reads}
use Rattle.gql_doc.proofs.Follows.{NextIs, NextIsName, Never, Before, joined, never_next, never_name, before_name, before_seq}
use Rattle.gql_doc.proofs.ArgumentLaws.{directives_reads, before_directives, before_parentheses}
use Rattle.gql_doc.proofs.VariableLaws.{variables_reads}
use Rattle.gql_doc.proofs.SelectionLaws.{NextIsSign, next_sign, sign_no_name, brace_next, condition_reads, set_reads}
use Rattle.gql_doc.specs.Words.{PlacedName}

pub definition_set_reads : Reads set IsSet Always
unfolding set
definition_set_reads = set_reads max_levels

-- Directives, and then the set.

module _ (make : List DirectiveTree → SetTree → DefinitionTree) where
  abbrev IsBody : DefinitionTree → Language
  IsBody = Seq (AreDirectives Allowed) (λ directives. Map (make directives) IsSet)

  body_reads : Reads (directives Allowed then (λ ds. mapped (make ds) set)) IsBody Always
  body_reads =
      seq (directives Allowed) (AreDirectives Allowed) (λ ds. mapped (make ds) set) (λ ds. Map (make ds) IsSet) (Never (sign.At ∷ sign.OpenParen ∷ [])) Always (directives_reads Allowed)
      (λ ds. mapped_reads (make ds) set IsSet Always definition_set_reads)
      (λ ds v y rest (s, k, h) g. never_next (sign.At ∷ sign.OpenParen ∷ []) sign.OpenBrace (tokens_of y ++ rest) (refl, (refl, tt)) (brace_next max_levels s y rest h))

  before_body : (F : Tokens → Type 0) → ((rest : Tokens) → NextIs sign.At rest → F rest) → ((rest : Tokens) → NextIs sign.OpenBrace rest → F rest) → Before IsBody Always F
  before_body F at brace =
      before_seq (AreDirectives Allowed) (λ ds. Map (make ds) IsSet) Always F F (before_directives Allowed F at) (λ ds v ms rest (s, k, h) g. brace (tokens_of ms ++ rest) (brace_next max_levels s ms rest h))

-- Operations.

abbrev Kind : Type 0
Kind = Pos × OperationType

abbrev make_operation : Kind → Option PlacedName → List VariableTree → List DirectiveTree → SetTree → DefinitionTree
make_operation kind name variables directives set =
    Operation (record { pos = kind.0; ty = kind.1; name = name; variables = variables; directives = directives; set = set })

module _ (kind : Kind) where
  abbrev BehindName : Option PlacedName → DefinitionTree → Language
  BehindName name = Seq AreVariables (λ variables. IsBody (make_operation kind name variables))

  behind_name : (name : Option PlacedName) → Reads (variables then (λ vs. directives Allowed then (λ ds. mapped (make_operation kind name vs ds) set))) (BehindName name) Always
  behind_name name =
      seq variables AreVariables (λ vs. directives Allowed then (λ ds. mapped (make_operation kind name vs ds) set)) (λ vs. IsBody (make_operation kind name vs)) (Never (sign.OpenParen ∷ [])) Always variables_reads (λ vs. body_reads (make_operation kind name vs))
      (λ vs. before_body (make_operation kind name vs) (Never (sign.OpenParen ∷ [])) (λ rest. never_next (sign.OpenParen ∷ []) sign.At rest (refl, tt)) (λ rest. never_next (sign.OpenParen ∷ []) sign.OpenBrace rest (refl, tt)))

  before_name_behind : (name : Option PlacedName) → Before (BehindName name) Always NextIsSign
  before_name_behind name =
      before_seq AreVariables (λ vs. IsBody (make_operation kind name vs)) Always NextIsSign NextIsSign (before_parentheses _ NextIsSign (next_sign sign.OpenParen))
      (λ vs. before_body (make_operation kind name vs) NextIsSign (next_sign sign.At) (next_sign sign.OpenBrace))

  no_name : (rest : Tokens) → NextIsSign rest → begins is_name rest ≡ false
  no_name [] next = refl
  no_name (t ∷ rest) next = sign_no_name t.lexeme next

  abbrev BehindKind : DefinitionTree → Language
  BehindKind = Seq (Maybe IsName) BehindName

  behind_kind : Reads (optional is_name take_name then (λ name. variables then (λ vs. directives Allowed then (λ ds. mapped (make_operation kind name vs ds) set)))) BehindKind Always
  behind_kind =
      seq (optional is_name take_name) (Maybe IsName) (λ name. variables then (λ vs. directives Allowed then (λ ds. mapped (make_operation kind name vs ds) set))) BehindName NextIsSign Always
      (optional_reads is_name take_name IsName Always NextIsSign name_reads (λ v ms rest h. before_name Always v ms rest h tt) (λ rest g. tt) no_name) behind_name before_name_behind

abbrev IsOperationRead : DefinitionTree → Language
IsOperationRead = Seq IsKind BehindKind

pub operation_reads : Reads operation IsOperationRead Always
unfolding operation
operation_reads =
    seq take_operation IsKind (λ kind. optional is_name take_name then (λ name. variables then (λ vs. directives Allowed then (λ ds. mapped (make_operation kind name vs ds) set)))) BehindKind Always Always operation_word_reads behind_kind (λ a v y rest q g. tt)

-- Shorthands.

abbrev make_shorthand : SetTree → DefinitionTree
make_shorthand set = make_operation (set.pos, Query) None [] [] set

pub shorthand_reads : Reads shorthand (Map make_shorthand IsSet) Always
unfolding shorthand
shorthand_reads = mapped_reads make_shorthand set IsSet Always definition_set_reads

-- Fragments.

abbrev make_fragment : Pos → PlacedName → PlacedName → List DirectiveTree → SetTree → DefinitionTree
make_fragment pos name condition directives set =
    Fragment (record { pos = pos; name = name; condition = condition; directives = directives; set = set })

abbrev BehindFragmentName : Pos → PlacedName → DefinitionTree → Language
BehindFragmentName pos name = Seq IsCondition (λ condition. IsBody (make_fragment pos name condition))

abbrev IsFragmentRead : DefinitionTree → Language
IsFragmentRead = Seq (KeywordAt (codes "fragment")) (λ pos. Seq IsFragmentName (BehindFragmentName pos))

pub fragment_reads : Reads fragment IsFragmentRead Always
unfolding fragment
fragment_reads =
    seq (take_word (codes "fragment")) (KeywordAt (codes "fragment")) (λ pos. take_fragment_name then (λ name. condition then (λ c. directives Allowed then (λ ds. mapped (make_fragment pos name c ds) set)))) (λ pos. Seq IsFragmentName (BehindFragmentName pos)) Always Always (word_reads (codes "fragment"))
    (λ pos. seq take_fragment_name IsFragmentName (λ name. condition then (λ c. directives Allowed then (λ ds. mapped (make_fragment pos name c ds) set))) (BehindFragmentName pos) Always Always fragment_name_reads
    (λ name. seq condition IsCondition (λ c. directives Allowed then (λ ds. mapped (make_fragment pos name c ds) set)) (λ c. IsBody (make_fragment pos name c)) Always Always condition_reads (λ c. body_reads (make_fragment pos name c)) (λ a v y rest q g. tt))
    (λ a v y rest q g. tt))
    (λ a v y rest q g. tt)

-- Definitions.

abbrev IsRead : DefinitionTree → Language
IsRead = Either (Map make_shorthand IsSet) (Either IsFragmentRead IsOperationRead)

definition_to : (v : DefinitionTree) (ms : Word) → IsRead v ms → IsDefinition v ms
definition_to v ms (inl (s, k, h)) =
    subst (λ w. IsDefinition w ms) (sym k) (inl (record { query = refl; anonymous = refl; no_variables = refl; no_directives = refl; place = refl; set = h }))
definition_to v ms (inr (inl (pos, a, b, e, word, (name, c, d, f, n, (cond', g, h, i, on, (ds, j, k, l, dirs, (s, is, body))))))) =
    subst (λ w. IsDefinition w ms) (sym is) (a, b, e, word, (c, d, f, n, (g, h, i, on, (j, k, l, dirs, body))))
definition_to v ms (inr (inr (kind, a, b, e, word, (name, c, d, f, n, (vs, g, h, i, vars, (ds, j, k, l, dirs, (s, is, body))))))) =
    subst (λ w. IsDefinition w ms) (sym is) (inr (a, b, e, word, (c, d, f, n, (g, h, i, vars, (j, k, l, dirs, body)))))

definition_from : (v : DefinitionTree) (ms : Word) → IsDefinition v ms → IsRead v ms
definition_from (Operation o) ms (inl h) =
    inl (o.set, (λ i. Operation (record { pos = h.place i; ty = h.query i; name = h.anonymous i; variables = h.no_variables i; directives = h.no_directives i; set = o.set })), h.set)
definition_from (Operation o) ms (inr (a, b, e, word, (c, d, f, n, (g, h, i, vars, (j, k, l, dirs, body))))) =
    inr (inr ((o.pos, o.ty), a, b, e, word, (o.name, c, d, f, n, (o.variables, g, h, i, vars, (o.directives, j, k, l, dirs, (o.set, refl, body))))))
definition_from (Fragment o) ms (a, b, e, word, (c, d, f, n, (g, h, i, on, (j, k, l, dirs, body)))) =
    inr (inl (o.pos, a, b, e, word, (o.name, c, d, f, n, (o.condition, g, h, i, on, (o.directives, j, k, l, dirs, (o.set, refl, body))))))

kind_no_fragment : (ty : OperationType) (pos : Pos) (ms : Word) (rest : Tokens) → KeywordAt (keyword ty) pos ms → begins (is_word (codes "fragment")) (tokens_of ms ++ rest) ≡ false
kind_no_fragment Query pos ms rest h = subst (λ w. begins (is_word (codes "fragment")) (tokens_of w ++ rest) ≡ false) (sym h) refl
kind_no_fragment Mutation pos ms rest h = subst (λ w. begins (is_word (codes "fragment")) (tokens_of w ++ rest) ≡ false) (sym h) refl
kind_no_fragment Subscription pos ms rest h = subst (λ w. begins (is_word (codes "fragment")) (tokens_of w ++ rest) ≡ false) (sym h) refl

word_is_name : (word : List ℕ) (pos : Pos) (ms : Word) (rest : Tokens) → KeywordAt word pos ms → NextIsName (tokens_of ms ++ rest)
word_is_name word pos ms rest h = subst (λ w. NextIsName (tokens_of w ++ rest)) (sym h) refl

fragment_starts : Starts (is_word (codes "fragment")) IsFragmentRead
fragment_starts v ms rest (pos, x, y, e, word, h) =
    joined (λ ts. begins (is_word (codes "fragment")) ts ≡ true) ms x y rest e (subst (λ w. begins (is_word (codes "fragment")) (tokens_of w ++ (tokens_of y ++ rest)) ≡ true) (sym word) refl)

others_name : (v : DefinitionTree) (ms : Word) (rest : Tokens) → Either IsFragmentRead IsOperationRead v ms → NextIsName (tokens_of ms ++ rest)
others_name v ms rest (inl (pos, x, y, e, word, h)) = joined NextIsName ms x y rest e (word_is_name (codes "fragment") pos x (tokens_of y ++ rest) word)
others_name v ms rest (inr (kind, x, y, e, word, h)) = joined NextIsName ms x y rest e (word_is_name (keyword kind.1) kind.0 x (tokens_of y ++ rest) word)

shorthand_next : (v : DefinitionTree) (ms : Word) (rest : Tokens) → Map make_shorthand IsSet v ms → NextIs sign.OpenBrace (tokens_of ms ++ rest)
shorthand_next v ms rest (s, k, h) = brace_next max_levels s ms rest h

pub definition_reads : Reads definition IsDefinition Always
unfolding definition
definition_reads =
    convert definition IsRead IsDefinition Always Always
    (choice (is_sign sign.OpenBrace) shorthand (branch (is_word (codes "fragment")) fragment operation) (Map make_shorthand IsSet) (Either IsFragmentRead IsOperationRead) Always Always Always shorthand_reads
    (choice (is_word (codes "fragment")) fragment operation IsFragmentRead IsOperationRead Always Always Always fragment_reads operation_reads fragment_starts
    (λ v ms rest (kind, x, y, e, word, h) g. joined (λ ts. begins (is_word (codes "fragment")) ts ≡ false) ms x y rest e (kind_no_fragment kind.1 kind.0 x (tokens_of y ++ rest) word)) (λ rest g. g) (λ rest g. g))
    shorthand_next (λ v ms rest h g. (never_name (sign.OpenBrace ∷ []) (tokens_of ms ++ rest) (others_name v ms rest h)).0) (λ rest g. g) (λ rest g. g))
    definition_to definition_from (λ rest g. g)

-- the first token of a definition is a brace or a name
pub before_definition : (F : Tokens → Type 0) → ((rest : Tokens) → NextIs sign.OpenBrace rest → F rest) → ((rest : Tokens) → NextIsName rest → F rest) → (v : DefinitionTree) (ms : Word) (rest : Tokens) → IsDefinition v ms → F (tokens_of ms ++ rest)
before_definition F brace name v ms rest h = first (definition_from v ms h)
  where
    first : IsRead v ms → F (tokens_of ms ++ rest)
    first (inl short) = brace (tokens_of ms ++ rest) (shorthand_next v ms rest short)
    first (inr other) = name (tokens_of ms ++ rest) (others_name v ms rest other)
