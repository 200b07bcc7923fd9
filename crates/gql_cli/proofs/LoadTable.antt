-- A bench of `load` has one table of types, which is sound, so that it's never refused.
use Rattle.std.proofs.Common.{◌≡◌, ℕ, ◌||◌, List, length, refl, ◌∙◌, sym, subst}
use Rattle.gql_bench.specs.Bench.{IsBenchOf}
use Rattle.gql_bench.specs.Cells.{AreBelow}
use Rattle.gql_bench.specs.Rule.{schema_rules}
use Rattle.gql_bench.specs.SchemaTable.{declared_table}
use Rattle.gql_bench.specs.Settings.{settings_in}
use Rattle.gql_bench.specs.declared.bench.Bench.{Bench}
use Rattle.gql_cli.proofs.LoadTypes.{load_table, load_table_is_sound}
use Rattle.gql_cli.proofs.RefusalLemmas.{never-sound}
use Rattle.gql_cli.specs.Answer.{IsRefusedTable}
use Rattle.gql_exec.specs.Builder.{whole_table}
use Rattle.gql_settings.specs.Federation.{table_with}
use Rattle.gql_settings.specs.declared.settings.Settings.{Settings}
use Rattle.gql_form.specs.declared.bench_form.BenchForm.{BenchForm}
use Rattle.gql_load.specs.Form.{load_form}
use Rattle.gql_load.specs.Schema.{load_schema}
use Rattle.gql_schema.specs.Entities.{has_entities}
use Rattle.gql_schema.specs.Sound.{IsSound, with_built_in}
use Rattle.gql_schema.specs.TableReading.{TypeTable}

-- the whole table of a builder with these settings and types
abbrev whole_of : Settings → TypeTable → TypeTable
whole_of settings table = with_built_in (table_with (settings.federation || has_entities table) table)

module _ (rows : ℕ) where
  -- its rules name no cell
  pub rules_below : (form : BenchForm) → form ≡ load_form rows → AreBelow (length form.setup.cells) (schema_rules form.setup.schema)
  rules_below form is = subst (λ (f : BenchForm). AreBelow (length f.setup.cells) (schema_rules f.setup.schema)) (sym is) refl

  -- whatever the number of rows is
  one-table : whole_of (settings_in (load_schema rows)) (declared_table (load_schema rows)) ≡ load_table
  one-table = refl

  module _ (bench : Bench) (is : IsBenchOf (load_form rows) bench) where
    whole-is : whole_table bench.builder ≡ whole_of (settings_in (load_schema rows)) (declared_table (load_schema rows))
    whole-is = λ i. whole_of (is.settings i) (is.table i)

    pub never_refused : (text : List ℕ) → IsRefusedTable bench text → ⊥
    never_refused text (error, refused, same) =
        never-sound (whole_table bench.builder) error refused (subst IsSound (sym (whole-is ∙ one-table)) load_table_is_sound)
