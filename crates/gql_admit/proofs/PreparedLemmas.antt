-- A request has one preparation.
use Rattle.std.proofs.Common.{◌≡◌, ℕ, List, Option, Some, None, Result, Ok, Err, ap, sym, subst, ◌∙◌}
use Rattle.std.proofs.Props.{props}
use Rattle.std.specs.Str.{chars}
use mathlib.Core.HLevel.{is_prop→PathP}
use Rattle.gql_base.specs.declared.server_error.ServerError.{ServerError}
use Rattle.gql_doc.proofs.ParseLaws.{never_both, one_document, one_document_fault}
use Rattle.gql_doc.specs.Depth.{deep_from}
use Rattle.gql_doc.specs.declared.document.ExecutableDocument.{ExecutableDocument}
use Rattle.gql_doc.specs.declared.fault.ParseFault.{ParseFault}
use Rattle.gql_doc.specs.declared.document.OperationDefinition.{OperationDefinition}
use Rattle.gql_doc.specs.declared.document.Positioned.{Positioned}
use Rattle.gql_request.specs.Defined.{definition_places}
use Rattle.gql_request.specs.QueryEnv.{levels_of}
use Rattle.gql_request.specs.Request.{GivesParsed, set_document}
use Rattle.gql_request.specs.declared.query_env.QueryEnv.{QueryEnv}
use Rattle.gql_request.specs.declared.request.Request.{Request}
use Rattle.gql_fields.specs.Terms.{Terms}
use Rattle.gql_rules.specs.Asked.{Asked}
use Rattle.gql_rules.specs.RulesChecked.{IsBreach, IsChecked, refused_with}
use Rattle.gql_rules.proofs.ListedLemmas.{one_listed}
use Rattle.gql_admit.specs.Prepared.{Admits, IsKept, IsPrepared, IsReady, Prepared}
use Rattle.gql_admit.specs.Stages.{asked_by, given_by_rules, IsLimited, IsLooked, IsRead, limits_checked, Staged, StagesGive}
use Rattle.gql_admit.specs.declared.chosen.Chosen.{Chosen}

-- a text is read as one thing
one_read : (document : Option ExecutableDocument) (query : List ℕ) (one other : Result ExecutableDocument ParseFault) → GivesParsed document query one
    → GivesParsed document query other → one ≡ other
one_read (Some document) query one other a b = a ∙ sym b
one_read None query (Ok d) (Ok e) a b = ap Ok (one_document (chars query) d e a b)
one_read None query (Ok d) (Err g) a b = absurd (never_both (chars query) d g a b)
one_read None query (Err f) (Ok e) a b = absurd (never_both (chars query) e f b a)
one_read None query (Err f) (Err g) a b = ap Err (one_document_fault (chars query) f g a b)

-- what an execution knows is told by its parts
same_env : (one other : QueryEnv) → one.variables ≡ other.variables → one.operation_name ≡ other.operation_name → one.operation ≡ other.operation
    → one.fragments ≡ other.fragments → one.introspection_mode ≡ other.introspection_mode → levels_of one ≡ levels_of other → one ≡ other
same_env one other variables name operation fragments mode levels =
    let defined : one.defined ≡ other.defined
    = one.indexed ∙ ap (λ (o : Positioned OperationDefinition). definition_places o.node.variable_definitions) operation ∙ sym other.indexed in
    λ i. record {
      variables = variables i;
      operation_name = name i;
      operation = operation i;
      fragments = fragments i;
      introspection_mode = mode i;
      levels = levels i;
      defined = defined i;
      nests =
          is_prop→PathP (λ j. deep_from (fragments j) (levels j) (operation j).node.selection_set ≡ None) (λ j. hlevel props) one.nests other.nests i;
      indexed =
          is_prop→PathP (λ j. defined j ≡ definition_places (operation j).node.variable_definitions) (λ j. hlevel props) one.indexed other.indexed i;
    }

module _ (terms : Terms) where
  -- a document's rules have one answer
  pub one_checked : (asked : Asked) (document : ExecutableDocument) (one other : Result (Unit {0}) (List ServerError))
      → IsChecked terms asked document one → IsChecked terms asked document other → one ≡ other
  one_checked asked document one other a b =
      a.answer ∙ ap refused_with (one_listed (IsBreach terms asked document) a.breaches b.breaches a.all b.all) ∙ sym b.answer

  module _ (request : Request) where
    one_ready : (chosen : Chosen) (one other : QueryEnv) → IsReady terms request chosen one → IsReady terms request chosen other → one ≡ other
    one_ready chosen one other a b =
        same_env one other (a.variables ∙ sym b.variables) (a.operation_name ∙ sym b.operation_name) (a.operation ∙ sym b.operation)
        (a.fragments ∙ sym b.fragments) (a.introspection_mode ∙ sym b.introspection_mode) (a.levels ∙ sym b.levels)

    one_admitted : (chosen : Chosen) (one other : Prepared) → Admits terms request chosen one → Admits terms request chosen other → one ≡ other
    one_admitted chosen (Ok one) (Ok other) a b = ap Ok (one_ready chosen one other a b)
    one_admitted chosen (Ok one) (Err errors) a b = absurd b
    one_admitted chosen (Err errors) other a b = absurd a

    module _ (document : ExecutableDocument) where
      one_looked : (one other : Staged) → IsLooked terms request document one → IsLooked terms request document other → one ≡ other
      one_looked one other a b =
          a.answer ∙ ap (given_by_rules request document) (one_checked (asked_by request) document a.checked b.checked a.rules b.rules) ∙ sym b.answer

      one_limited : (limited : Result (Unit {0}) ServerError) (one other : Staged) → IsLimited terms request document limited one
          → IsLimited terms request document limited other → one ≡ other
      one_limited (Ok passed) one other a b = one_looked one other a b
      one_limited (Err error) one other a b = a ∙ sym b

    one_answer : (read : Result ExecutableDocument ParseFault) (one other : Staged) → IsRead terms request read one
        → IsRead terms request read other → one ≡ other
    one_answer (Ok document) one other a b = one_limited document (limits_checked terms document) one other a b
    one_answer (Err fault) one other a b = a ∙ sym b

    one_kept : (staged : Staged) (one other : Prepared) → IsKept terms request staged one → IsKept terms request staged other → one ≡ other
    one_kept (Ok chosen) one other a b = one_admitted chosen one other a b
    one_kept (Err errors) one other a b = a ∙ sym b

-- the stages give one thing of a request
pub one_staged : (terms : Terms) (request : Request) (one other : Staged) → StagesGive terms request one → StagesGive terms request other
    → one ≡ other
one_staged terms request one other a b =
    let read = one_read (set_document request) request.query a.read b.read a.reads b.reads in
    one_answer terms request b.read one other (subst (λ r. IsRead terms request r one) read a.answer) b.answer

-- and it has one preparation
pub one_prepared : (terms : Terms) (request : Request) (one other : Prepared) → IsPrepared terms request one → IsPrepared terms request other
    → one ≡ other
one_prepared terms request one other a b =
    let staged = one_staged terms request a.staged b.staged a.stages b.stages in
    one_kept terms request b.staged one other (subst (λ s. IsKept terms request s one) staged a.kept) b.kept
