-- One refusal of each stage, computed: what is prepared of the request. All of a document stands in line 1.
use Rattle.std.proofs.Common.{◌≡◌, ◌+◌, ℕ, false, List, [], ◌∷◌, map, Option, Some, None, Result, Ok, Err, refl, ap, sym, ◌∙◌, subst}
use Rattle.std.specs.Prelude.{codes}
use Rattle.gql_base.specs.declared.pos.Pos.{Pos}
use Rattle.gql_base.specs.declared.server_error.ServerError.{ServerError}
use Rattle.gql_doc.specs.declared.document.Directive.{Directive}
use Rattle.gql_doc.specs.declared.document.DocumentOperations.TheVariants.{Multiple, Single}
use Rattle.gql_doc.specs.declared.document.ExecutableDocument.{ExecutableDocument}
use Rattle.gql_doc.specs.declared.document.Field.{out-Field, roll-Field}
use Rattle.gql_doc.specs.declared.document.OperationDefinition.{OperationDefinition}
use Rattle.gql_doc.specs.declared.document.OperationType.TheVariants as kinds
use Rattle.gql_doc.specs.declared.document.Positioned.{Positioned}
use Rattle.gql_doc.specs.declared.document.Selection.{out-Selection, Selection}
use Rattle.gql_doc.specs.declared.document.Selection.TheBlock.{shown-the_row-SelectionSet-items-2-0}
use Rattle.gql_doc.specs.declared.document.Selection.TheVariants as selection
use Rattle.gql_doc.specs.declared.document.SelectionSet.{roll-SelectionSet, SelectionSet}
use Rattle.gql_doc.specs.declared.fault.ParseFault.{ParseFault}
use denote.Hole.Carrier.{out, roll, shown, hidden}
use Rattle.gql_fields.specs.BreachOrder.{Lists}
use Rattle.gql_fields.specs.Terms.{Terms}
use Rattle.gql_fields.specs.declared.breach.Breach.{Breach}
use Rattle.gql_request.specs.Request.{GivesParsed, request_for, set_document, with_document}
use Rattle.gql_request.specs.declared.request.Request.{Request}
use Rattle.gql_rules.specs.RulesChecked.{error_of, IsBreach}
use Rattle.gql_admit.proofs.StagesLemmas.{beyond_limits, breaks_rules, limited_on, not_read, read_on, ruled_on}
use Rattle.gql_admit.specs.Prepared.{IsPrepared, Prepared}
use Rattle.gql_admit.specs.Refusal.{depth_error, directives_error, no_operation_error}
use Rattle.gql_admit.specs.Stages.{asked_by, fault_error, limits_checked}

abbrev at : ℕ → Pos
at column = record { line = 1; column = column }

abbrev placed : {A : Type 0} → ℕ → A → Positioned A
placed column node = record { pos = at column; node = node }

-- the field of a name with these directives and these selections
abbrev field : ℕ → List ℕ → List (Positioned Directive) → List (Positioned Selection) → Positioned Selection
field column name directives selections =
    placed column (selection.Field (placed column (roll-Field (record {
      alias = None;
      name = placed column name;
      arguments = [];
      directives = directives;
      selection_set = placed (column + 2) (roll-SelectionSet (record { items = selections }));
    }))))

-- a query of these selections, and a document of it alone
abbrev query : List (Positioned Selection) → Positioned OperationDefinition
query selections = placed 1 (record {
  ty = kinds.Query;
  variable_definitions = [];
  directives = [];
  selection_set = placed 1 (roll-SelectionSet (record { items = selections }));
})

abbrev alone : List (Positioned Selection) → ExecutableDocument
alone selections = record { operations = Single (query selections); fragments = [] }

abbrev directive : ℕ → List ℕ → Positioned Directive
directive column name = placed column (record { name = placed column name; arguments = [] })

-- limits on the depth and on directives
abbrev limited : ℕ → Option ℕ → Terms
limited depth directives = record {
  table = [];
  query = codes "Query";
  mutation = None;
  subscription = None;
  depth = depth;
  directives = directives;
  entities = false;
}

-- a request with this document
abbrev sent : ExecutableDocument → Request
sent document = with_document (request_for []) document

-- a text that is no document is refused with its first fault
no_document : (terms : Terms) (request : Request) (fault : ParseFault) → GivesParsed (set_document request) request.query (Err fault)
    → IsPrepared terms request (Err (fault_error fault ∷ []))
no_document terms request fault reads = not_read terms request fault (fault_error fault ∷ []) reads refl

module _ (terms : Terms) (document : ExecutableDocument) where
  -- what a limit refuses
  over_limit : (error : ServerError) → limits_checked terms document ≡ Err error → IsPrepared terms (sent document) (Err (error ∷ []))
  over_limit error is =
      read_on terms (sent document) document {E = Unit {0}} (Ok (Err (error ∷ []))) refl
      (beyond_limits terms (sent document) document error (error ∷ []) is refl)

  module _ (within : limits_checked terms document ≡ Ok tt) where
    -- a document is refused with all that it breaks
    broken_rule : (found : Breach) (others : List Breach) → Lists (IsBreach terms (asked_by (sent document)) document) (found ∷ others)
        → IsPrepared terms (sent document) (Err (error_of found ∷ map error_of others))
    broken_rule found others all =
        read_on terms (sent document) document {E = Unit {0}} (Ok (Err (error_of found ∷ map error_of others))) refl
        (limited_on terms (sent document) document {E = Unit {0}} (Ok (Err (error_of found ∷ map error_of others))) tt within
        (breaks_rules terms (sent document) document (error_of found ∷ map error_of others) record { breaches = found ∷ others; all = all; answer = refl }))

-- { a { b } }, where one level of sets is allowed
nested : ExecutableDocument
nested = alone (field 3 (codes "a") [] (field 7 (codes "b") [] [] ∷ []) ∷ [])

too_deep : IsPrepared (limited 0 None) (sent nested) (Err (depth_error 0 (at 5) ∷ []))
unfolding nested out-Selection out-Field roll-Field out roll shown-the_row-SelectionSet-items-2-0 shown hidden
too_deep = over_limit (limited 0 None) nested (depth_error 0 (at 5)) refl

-- { a @x @y }, where one directive is allowed
crowded : ExecutableDocument
crowded = alone (field 3 (codes "a") (directive 5 (codes "x") ∷ directive 8 (codes "y") ∷ []) [] ∷ [])

too_many_directives : IsPrepared (limited 1 (Some 1)) (sent crowded) (Err (directives_error 1 (codes "a") (at 3) ∷ []))
unfolding crowded out-Selection out-Field roll-Field out roll shown-the_row-SelectionSet-items-2-0 shown hidden
too_many_directives = over_limit (limited 1 (Some 1)) crowded (directives_error 1 (codes "a") (at 3)) refl

-- query A { a } query B { b }, where no name is asked for and no rule is broken
two : ExecutableDocument
two = record {
  operations = Multiple ((codes "A", query (field 3 (codes "a") [] [] ∷ [])) ∷ (codes "B", query (field 3 (codes "b") [] [] ∷ [])) ∷ []);
  fragments = [];
}

no_operation : Lists (IsBreach (limited 1 None) (asked_by (sent two)) two) [] → IsPrepared (limited 1 None) (sent two) (Err (no_operation_error None ∷ []))
unfolding two out-Selection out-Field roll-Field out roll shown-the_row-SelectionSet-items-2-0 shown hidden
no_operation none =
    let answer : Result Prepared (Unit {0}) = Ok (Err (no_operation_error None ∷ [])) in
    read_on (limited 1 None) (sent two) two answer refl
    (limited_on (limited 1 None) (sent two) two answer tt refl
    (ruled_on (limited 1 None) (sent two) two answer tt record { breaches = []; all = none; answer = refl } refl))
