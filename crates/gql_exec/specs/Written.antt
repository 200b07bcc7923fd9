-- The operation of an admitted request, as it is written.
use Rattle.std.specs.Prelude.{suc, [], ◌∷◌, option_map}
use Rattle.gql_doc.specs.Depth.{operation_set, selections_of}
use Rattle.gql_admit.specs.Prepared.{known_of}
use Rattle.gql_admit.specs.declared.chosen.Chosen.{Chosen}
use Rattle.gql_collect.specs.Execution.{Execution}
use Rattle.gql_exec.specs.Admitted.{IsAdmitted}
use Rattle.gql_exec.specs.Schema.{settings_of, types_in}
use Rattle.gql_exec.specs.SchemaOnly.{is_schema_only}
use Rattle.gql_exec.specs.declared.dynamic_request.DynamicRequest.{DynamicRequest}
use Rattle.gql_exec.specs.declared.schema.Schema.{Schema}
use Rattle.gql_meaning.specs.Responses.{Written}
use Rattle.gql_request.specs.declared.request.Request.{Request}
use Rattle.gql_resolve.specs.Call.{is_mutation}
use Rattle.gql_schema.specs.Object.{object_name}
use Rattle.gql_schema.specs.Table.{types_of}
use Rattle.gql_schema.specs.declared.object.Object.{Object}
use Rattle.gql_settings.specs.Settings.{entities_for}

-- what is known of a chosen operation: the schema's types, the document's fragments, which nest
-- within its limit, the values of variables, and the data of the request and of the schema (a
-- session has none)
abbrev pub execution_for : Schema → Request → Chosen → Execution
execution_for schema request chosen = record {
  schema = record {
    table = types_of (types_in schema);
    entities =
        option_map (λ resolver. record { root = (settings_of schema).query; resolver = resolver })
        (entities_for (settings_of schema) request.introspection_mode);
  };
  fragments = chosen.fragments;
  levels = suc (settings_of schema).depth;
  known = known_of request chosen;
  layers = request.query_data ∷ [] ∷ (settings_of schema).schema_data ∷ [];
  only_introspection = is_schema_only schema request;
}

-- a chosen operation, with this object at its root and the request's value for it
abbrev pub written_for : {V : Type 0} → Schema → DynamicRequest V → Chosen → Object → Written V
written_for schema request chosen object = record {
  execution = execution_for schema request.inner chosen;
  mutates = is_mutation chosen.operation.node.ty;
  pos = chosen.operation.pos;
  asked = record {
    object = object_name object;
    parent = request.root_value;
    selections = selections_of (operation_set chosen.operation);
  };
}

-- that of an admitted request
abbrev pub written_of : {V : Type 0} (schema : Schema) (request : DynamicRequest V)
    → IsAdmitted schema request.inner → Written V
written_of schema request admitted =
    written_for schema request admitted.chosen admitted.object
