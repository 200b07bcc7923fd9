-- What comes of a request: the errors of the first stage that it breaks, or what an execution knows
-- of it (GraphQL, October 2021, section 6.1).
use Rattle.std.specs.Prelude.{◌≡◌, ℕ, suc, List, Result, Ok, Err}
use Rattle.gql_base.specs.declared.server_error.ServerError.{ServerError}
use Rattle.gql_base.specs.declared.value.Value.{Value}
use Rattle.gql_doc.specs.declared.document.OperationDefinition.{OperationDefinition}
use Rattle.gql_doc.specs.declared.document.Positioned.{Positioned}
use Rattle.gql_request.specs.QueryEnv.{levels_of}
use Rattle.gql_request.specs.declared.query_env.QueryEnv.{QueryEnv}
use Rattle.gql_request.specs.declared.request.Request.{Request}
use Rattle.gql_select.specs.Constants.{variable_value}
use Rattle.gql_select.specs.Kept.{kept_fragments}
use Rattle.gql_fields.specs.Terms.{Terms}
use Rattle.gql_admit.specs.KeptParts.{left_set}
use Rattle.gql_admit.specs.Stages.{Staged, StagesGive}
use Rattle.gql_admit.specs.declared.chosen.Chosen.{Chosen}

-- what a request is answered before its execution
abbrev pub Prepared : Type 0
Prepared = Result QueryEnv (List ServerError)

-- an operation of which the set is kept
abbrev pub kept_operation : (List ℕ → Value) → Positioned OperationDefinition
    → Positioned OperationDefinition
kept_operation known operation = record {
  pos = operation.pos;
  node = record operation.node { selection_set = left_set known operation.node.selection_set };
}

-- what the variables of the chosen operation stand for
abbrev pub known_of : Request → Chosen → List ℕ → Value
known_of request chosen =
    variable_value request.variables chosen.operation.node.variable_definitions

-- what an execution knows: the chosen operation and the fragments, without what `@skip` and
-- `@include` leave out
pub record IsReady (terms : Terms) (request : Request) (chosen : Chosen) (env : QueryEnv) : Type 0
  where
    pub variables : env.variables ≡ request.variables
    pub operation_name : env.operation_name ≡ chosen.operation_name
    pub operation : env.operation ≡ kept_operation (known_of request chosen) chosen.operation
    pub fragments : env.fragments ≡ kept_fragments (known_of request chosen) chosen.fragments
    pub introspection_mode : env.introspection_mode ≡ request.introspection_mode
    pub levels : levels_of env ≡ suc terms.depth

-- that a request is admitted with what an execution knows of it
abbrev pub Admits : Terms → Request → Chosen → Prepared → Type 0
Admits terms request chosen (Ok env) = IsReady terms request chosen env
Admits terms request chosen (Err errors) = ⊥

-- what is prepared of what the stages give: errors stay as they are
abbrev pub IsKept : Terms → Request → Staged → Prepared → Type 0
IsKept terms request (Ok chosen) prepared = Admits terms request chosen prepared
IsKept terms request (Err errors) prepared = prepared ≡ Err errors

-- the same, where stages give such
pub record IsKeptOf (terms : Terms) (request : Request) (Give : Staged → Type 0)
    (prepared : Prepared) : Type 0 where
  pub staged : Staged
  pub stages : Give staged
  pub kept : IsKept terms request staged prepared

-- the answer to a request: what is prepared of what its stages give
abbrev pub IsPrepared : Terms → Request → Prepared → Type 0
IsPrepared terms request prepared = IsKeptOf terms request (StagesGive terms request) prepared
