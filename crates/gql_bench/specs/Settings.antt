-- What the schema of a bench has beside its types.
use Rattle.std.specs.Prelude.{ℕ, Option, Some, None, if◌then◌else◌}
use Rattle.gql_settings.specs.Limits.{default_depth}
use Rattle.gql_settings.specs.Settings.{new_settings}
use Rattle.gql_settings.specs.declared.settings.Settings.{Settings}
use Rattle.gql_form.specs.declared.schema_form.Depth.{Depth}
use Rattle.gql_form.specs.declared.schema_form.SchemaForm.{SchemaForm}
use Rattle.gql_bench.specs.SchemaTable.{after_all, first_numbers}

-- how deep sets may lie, by the bench or as in a new schema
abbrev pub depth_in : Option Depth → ℕ
depth_in None = default_depth
depth_in (Some depth) = depth.levels

-- the number of the resolver of entities, where the entity rule is set: the one after all others
abbrev pub entities_in : SchemaForm → Option ℕ
entities_in schema =
    if schema.settings.entities then Some (after_all first_numbers schema.types).resolver else None

-- the settings of a new schema with these roots, and what the bench says
abbrev pub settings_in : SchemaForm → Settings
settings_in schema = record (new_settings schema.query schema.mutation schema.subscription) {
  depth = depth_in schema.settings.depth;
  directives = schema.settings.directives;
  introspection_mode = schema.settings.introspection;
  federation = schema.settings.federation;
  entity_resolver = entities_in schema;
}
