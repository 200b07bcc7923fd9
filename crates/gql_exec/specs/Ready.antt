-- What is made of a request before its execution: its environment, or the errors of the first stage
-- that it breaks (GraphQL, October 2021, section 6.1).
use Rattle.std.specs.Prelude.{◌≡◌, List, Result, Ok, Err}
use Rattle.gql_admit.specs.Prepared.{IsPrepared, Prepared}
use Rattle.gql_base.specs.declared.server_error.ServerError.{ServerError}
use Rattle.gql_exec.specs.Admission.{terms_for}
use Rattle.gql_exec.specs.Schema.{settings_of}
use Rattle.gql_settings.specs.Settings.{entities_for, mode_for}
use Rattle.gql_exec.specs.declared.ready.Ready.{Ready}
use Rattle.gql_exec.specs.declared.schema.Schema.{Schema}
use Rattle.gql_settings.specs.declared.settings.Settings.{Settings}
use Rattle.gql_request.specs.declared.query_env.QueryEnv.{QueryEnv}
use Rattle.gql_request.specs.declared.request.Request.{Request}

-- an environment, in the mode that a schema's settings leave it
abbrev pub env_under : Settings → QueryEnv → QueryEnv
env_under settings env =
    record env { introspection_mode = mode_for settings env.introspection_mode }

-- the same of what was prepared
abbrev pub prepared_under : Settings → Prepared → Prepared
prepared_under settings (Ok env) = Ok (env_under settings env)
prepared_under settings (Err errors) = Err errors

-- what is made of a request: what the stages prepare of it, in the mode that the schema leaves it
pub record IsMadeReady (schema : Schema) (request : Request) (outcome : Prepared) : Type 0 where
  pub prepared : Prepared
  pub stages : IsPrepared (terms_for schema request.introspection_mode) request prepared
  pub is : outcome ≡ prepared_under (settings_of schema) prepared

-- the same, with the request and with the resolver of entities that it meets
abbrev pub GivesReady : Schema → Request → Result Ready (List ServerError) → Type 0
GivesReady schema request (Ok ready) =
    IsMadeReady schema request (Ok ready.env) × (ready.request ≡ request)
    × (ready.entities ≡ entities_for (settings_of schema) request.introspection_mode)
GivesReady schema request (Err errors) = IsMadeReady schema request (Err errors)
