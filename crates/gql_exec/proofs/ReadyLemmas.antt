-- What is made of a request is one thing, whatever its environment's mode is set to.
use Rattle.std.proofs.Common.{◌≡◌, None, ap, sym, ◌∙◌}
use Rattle.std.proofs.Props.{props}
use mathlib.Core.HLevel.{is_prop→PathP}
use Rattle.gql_admit.specs.Prepared.{Prepared}
use Rattle.gql_admit.proofs.PreparedLemmas.{one_prepared}
use Rattle.gql_doc.specs.Depth.{deep_from}
use Rattle.gql_exec.specs.Admission.{terms_for}
use Rattle.gql_exec.specs.Ready.{IsMadeReady, prepared_under}
use Rattle.gql_exec.specs.Schema.{settings_of}
use Rattle.gql_exec.specs.declared.schema.Schema.{Schema}
use Rattle.gql_request.specs.Defined.{definition_places}
use Rattle.gql_request.specs.declared.query_env.IntrospectionMode.{IntrospectionMode}
use Rattle.gql_request.specs.declared.query_env.QueryEnv.{QueryEnv}
use Rattle.gql_request.specs.declared.request.Request.{Request}

-- that an environment's operation nests within its levels
abbrev Nests : QueryEnv → Type 0
Nests env = deep_from env.fragments env.levels env.operation.node.selection_set ≡ None

-- that its definitions are found by name
abbrev Indexed : QueryEnv → Type 0
Indexed env = env.defined ≡ definition_places env.operation.node.variable_definitions

-- an environment in a mode
abbrev in_mode : (env : QueryEnv) → IntrospectionMode → Nests env → Indexed env → QueryEnv
in_mode env mode nests indexed = record {
  variables = env.variables;
  operation_name = env.operation_name;
  operation = env.operation;
  fragments = env.fragments;
  introspection_mode = mode;
  levels = env.levels;
  defined = env.defined;
  nests = nests;
  indexed = indexed;
}

-- in one mode it is one environment
pub one_mode : (env : QueryEnv) (mode other : IntrospectionMode) → mode ≡ other → (nests also : Nests env) (indexed again : Indexed env)
    → in_mode env mode nests indexed ≡ in_mode env other also again
one_mode env mode other same nests also indexed again =
    λ i. in_mode env (same i) (is_prop→PathP (λ j. Nests env) (λ j. hlevel props) nests also i)
    (is_prop→PathP (λ j. Indexed env) (λ j. hlevel props) indexed again i)

-- a request is made one thing of
pub one_ready : (schema : Schema) (request : Request) (one other : Prepared) → IsMadeReady schema request one → IsMadeReady schema request other
    → one ≡ other
one_ready schema request one other a b =
    a.is
    ∙ ap (prepared_under (settings_of schema))
    (one_prepared (terms_for schema request.introspection_mode) request a.prepared b.prepared a.stages b.stages)
    ∙ sym b.is
