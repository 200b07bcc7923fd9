use Rattle.std.proofs.Common.{◌≡◌, drop}
use Rattle.gql_settings.specs.Builder.{settings_of, table_of}
use Rattle.gql_bench.specs.SchemaTable.{first_numbers, registered}
use Rattle.gql_bench.proofs.schema_table.with_types.Given as goal

abbrev pub invariant-loop-form : goal.invariant-loop-form
invariant-loop-form l =
    (registered (table_of l.fn.builder) first_numbers l.forms ≡ registered (table_of l.builder) l.numbers (drop l.form-index l.forms))
    × (settings_of l.builder ≡ settings_of l.fn.builder)
