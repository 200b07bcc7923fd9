-- What is prepared of a request, stage by stage.
use Rattle.std.proofs.Common.{◌≡◌, List, [], ◌∷◌, Result, Ok, Err, IfOk, refl, ap, sym, ◌∙◌, subst}
use Rattle.gql_base.specs.declared.server_error.ServerError.{ServerError}
use Rattle.gql_doc.specs.declared.document.ExecutableDocument.{ExecutableDocument}
use Rattle.gql_doc.specs.declared.fault.ParseFault.{ParseFault}
use Rattle.gql_request.specs.Request.{GivesParsed, set_document}
use Rattle.gql_request.specs.declared.request.Request.{Request}
use Rattle.gql_fields.specs.Terms.{Terms}
use Rattle.gql_rules.specs.RulesChecked.{IsChecked}
use Rattle.gql_admit.specs.Choice.{choice}
use Rattle.gql_admit.specs.Prepared.{IsKept, IsKeptOf, IsPrepared, Prepared}
use Rattle.gql_admit.specs.Stages.{asked_by, fault_error, IsLimited, IsLooked, limits_checked, settled, Staged, StagesGive}

module _ (terms : Terms) (request : Request) where
  -- stages that give such give that too, and what is prepared of it is the same
  through : {E : Type 0} (Give More : Staged → Type 0) → ((staged : Staged) → Give staged → More staged) → (result : Result Prepared E)
      → IfOk result (IsKeptOf terms request Give) → IfOk result (IsKeptOf terms request More)
  through Give More goes (Ok prepared) is = record { staged = is.staged; stages = goes is.staged is.stages; kept = is.kept }
  through Give More goes (Err want) is = tt

  -- a stage that is broken
  broken : (Give : Staged → Type 0) (errors : List ServerError) → Give (Err errors) → IsKeptOf terms request Give (Err errors)
  broken Give errors gives = record { staged = Err errors; stages = gives; kept = refl }

  module _ (document : ExecutableDocument) where
    -- the document was read
    pub read_on : {E : Type 0} (result : Result Prepared E) → GivesParsed (set_document request) request.query (Ok document)
        → IfOk result (IsKeptOf terms request (IsLimited terms request document (limits_checked terms document))) → IfOk result (IsPrepared terms request)
    read_on result reads is =
        through (IsLimited terms request document (limits_checked terms document)) (StagesGive terms request)
        (λ staged answer. record { read = Ok document; reads = reads; answer = answer }) result is

    -- it is within its limits
    pub limited_on : {E : Type 0} (result : Result Prepared E) (passed : Unit {0}) → limits_checked terms document ≡ Ok passed
        → IfOk result (IsKeptOf terms request (IsLooked terms request document))
        → IfOk result (IsKeptOf terms request (IsLimited terms request document (limits_checked terms document)))
    limited_on result passed is looked =
        subst (λ limited. IfOk result (IsKeptOf terms request (IsLimited terms request document limited))) (sym is) looked

    pub beyond_limits : (error : ServerError) (errors : List ServerError) → limits_checked terms document ≡ Err error → errors ≡ error ∷ []
        → IsKeptOf terms request (IsLimited terms request document (limits_checked terms document)) (Err errors)
    beyond_limits error errors is alone =
        subst (λ limited. IsKeptOf terms request (IsLimited terms request document limited) (Err errors)) (sym is)
        (broken (IsLimited terms request document (Err error)) errors (ap Err alone))

    -- it breaks no rule
    pub ruled_on : {E : Type 0} (result : Result Prepared E) (passed : Unit {0}) → IsChecked terms (asked_by request) document (Ok passed)
        → IfOk result (IsKept terms request (settled (choice document request.operation_name)))
        → IfOk result (IsKeptOf terms request (IsLooked terms request document))
    ruled_on (Ok prepared) passed rules kept = record {
      staged = settled (choice document request.operation_name);
      stages = record { checked = Ok passed; rules = rules; answer = refl };
      kept = kept;
    }
    ruled_on (Err want) passed rules kept = tt

    pub breaks_rules : (errors : List ServerError) → IsChecked terms (asked_by request) document (Err errors)
        → IsKeptOf terms request (IsLooked terms request document) (Err errors)
    breaks_rules errors rules =
        broken (IsLooked terms request document) errors record { checked = Err errors; rules = rules; answer = refl }

  pub not_read : (fault : ParseFault) (errors : List ServerError) → GivesParsed (set_document request) request.query (Err fault)
      → errors ≡ fault_error fault ∷ [] → IsPrepared terms request (Err errors)
  not_read fault errors reads alone =
      broken (StagesGive terms request) errors record { read = Err fault; reads = reads; answer = ap Err alone }
