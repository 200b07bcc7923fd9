use Rattle.std.proofs.Common.{◌≡◌, drop}
use Rattle.gql_bench.specs.SchemaTable.{after_all, first_numbers}
use Rattle.gql_bench.proofs.settings.numbers_behind.Given as goal

abbrev pub invariant-loop-form : goal.invariant-loop-form
invariant-loop-form l = after_all first_numbers l.forms ≡ after_all l.numbers (drop l.form-index l.forms)
