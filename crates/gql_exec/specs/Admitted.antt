-- Requests that are refused, and requests that are admitted (GraphQL, October 2021, section 6.1):
-- by the stages before their execution, and by the root of their operation.
use Rattle.std.specs.Prelude.{◌≡◌, ℕ, List, [], ◌∷◌, None, Result, Ok, Err}
use Rattle.gql_base.specs.declared.server_error.ServerError.{ServerError}
use Rattle.gql_base.specs.declared.value.Value.TheVariants as value
use Rattle.gql_rules.specs.Refusal.{refusal}
use Rattle.gql_admit.specs.Stages.{Staged, StagesGive}
use Rattle.gql_admit.specs.declared.chosen.Chosen.{Chosen}
use Rattle.gql_exec.specs.Admission.{terms_for}
use Rattle.gql_exec.specs.Root.{root_for}
use Rattle.gql_exec.specs.declared.schema.Schema.{Schema}
use Rattle.gql_request.specs.declared.request.Request.{Request}
use Rattle.gql_request.specs.declared.response.Response.{Response}
use Rattle.gql_schema.specs.declared.object.Object.{Object}

-- the response with these errors and without data (section 7.1)
abbrev pub error_response : List ServerError → Response
error_response errors =
    record { result = value.Null; extensions = []; errors = errors; headers = [] }

-- the response that tells one fault of a request, which has no place in its text
abbrev pub fault_response : List ℕ → Response
fault_response text = error_response (refusal text None ∷ [])

-- what the stages give of a request over a schema
abbrev pub Gives : Schema → Request → Staged → Type 0
Gives schema request staged =
    StagesGive (terms_for schema request.introspection_mode) request staged

-- a request is refused with this response: it has the errors of the first stage that the request
-- breaks, or tells why the operation that the stages give has no object at its root
pub data IsRefused (schema : Schema) (request : Request) (response : Response) : Type 0 where
  by_stage : (errors : List ServerError) → Gives schema request (Err errors)
      → response ≡ error_response errors → IsRefused schema request response
  by_root : (chosen : Chosen) (text : List ℕ) → Gives schema request (Ok chosen)
      → root_for schema chosen.operation.node.ty ≡ Err text
      → response ≡ fault_response text → IsRefused schema request response

-- a request is admitted: the stages give its operation, as it is written, and this object is at the
-- root
pub record IsAdmitted (schema : Schema) (request : Request) : Type 0 where
  pub chosen : Chosen
  pub object : Object
  pub stages : Gives schema request (Ok chosen)
  pub root : root_for schema chosen.operation.node.ty ≡ Ok object
