-- The schema of a bench: its roots, its types, its limits, and what it answers of itself.
use Rattle.std.specs.Prelude.{ℕ, false, List, [], ◌∷◌, codes, Ok, Err, if◌then◌else◌}
use Rattle.std.specs.Option.{unwrap_or}
use Rattle.std.specs.Str.{bytes_eq}
use Rattle.serde_json.specs.Data.{Data}
use Rattle.gql_base.specs.ReadJson.{Reading}
use Rattle.gql_request.specs.declared.query_env.IntrospectionMode.{IntrospectionMode}
use Rattle.gql_request.specs.declared.query_env.IntrospectionMode.TheVariants.{IntrospectionOnly}
use Rattle.gql_request.specs.declared.query_env.IntrospectionMode.TheVariants.{Enabled, Disabled}
use Rattle.gql_form.specs.declared.schema_form.Depth.{Depth}
use Rattle.gql_form.specs.declared.schema_form.SchemaForm.{SchemaForm}
use Rattle.gql_form.specs.declared.schema_form.Settings.{Settings}
use Rattle.gql_form.specs.Plain.{text_of, count_of, count_within, truth_of, ◌>>=◌}
use Rattle.gql_form.specs.Read.{member, optional, each, only}
use Rattle.gql_form.specs.TypeForm.{type_of}

abbrev pub deepest_limit : ℕ
deepest_limit = 256

abbrev pub depth_of : Data → Reading Depth
depth_of json = do
  levels ← count_within deepest_limit json
  Ok (record { levels = levels })

abbrev pub introspection_of : Data → Reading IntrospectionMode
introspection_of json = do
  word ← text_of json
  if bytes_eq word (codes "enabled") then Ok Enabled
      else (if bytes_eq word (codes "only") then Ok IntrospectionOnly
      else (if bytes_eq word (codes "disabled") then Ok Disabled else Err []))

abbrev pub settings_words : List (List ℕ)
settings_words =
    codes "limitRecursiveDepth" ∷ codes "limitDirectives" ∷ codes "introspection"
    ∷ codes "federation" ∷ codes "entities" ∷ []

-- the limits of requests, and what the schema answers of itself
abbrev pub settings_of : Data → Reading Settings
settings_of json = do
  depth ← optional (codes "limitRecursiveDepth") depth_of json
  directives ← optional (codes "limitDirectives") count_of json
  introspection ← optional (codes "introspection") introspection_of json
  federation ← optional (codes "federation") truth_of json
  entities ← optional (codes "entities") truth_of json
  Ok (record {
    depth = depth;
    directives = directives;
    introspection = unwrap_or introspection Enabled;
    federation = unwrap_or federation false;
    entities = unwrap_or entities false;
  })

abbrev pub schema_words : List (List ℕ)
schema_words =
    codes "query" ∷ codes "mutation" ∷ codes "subscription" ∷ codes "types"
    ∷ codes "limitRecursiveDepth"
    ∷ codes "limitDirectives" ∷ codes "introspection" ∷ codes "federation" ∷ codes "entities" ∷ []

abbrev pub schema_of : ℕ → Data → Reading SchemaForm
schema_of cells json = do
  query ← member (codes "query") text_of json
  mutation ← optional (codes "mutation") text_of json
  subscription ← optional (codes "subscription") text_of json
  types ← member (codes "types") (each (type_of cells)) json
  settings ← settings_of json
  _ ← only schema_words json
  Ok (record {
    query = query;
    mutation = mutation;
    subscription = subscription;
    types = types;
    settings = settings;
  })
