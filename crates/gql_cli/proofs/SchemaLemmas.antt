-- A builder is known by its table and its settings.
use Rattle.std.proofs.Common.{◌≡◌, ◌<◌}
use Rattle.std.proofs.Props.{props}
use mathlib.Core.HLevel.{is_prop→PathP}
use Rattle.std.below.core.specs.declared.int.usize.TheConstants.{MAX}
use Rattle.gql_exec.proofs.SchemaLemmas.{one_table}
use Rattle.gql_settings.specs.Builder as builders
use Rattle.gql_settings.specs.declared.builder.SchemaBuilder.{SchemaBuilder}

pub one_builder : (one other : SchemaBuilder) → builders.table_of one ≡ builders.table_of other → builders.settings_of one ≡ builders.settings_of other
    → one ≡ other
one_builder one other table settings =
    let types = one_table one.types other.types table in
    λ i. record {
      types = types i;
      settings = settings i;
      is_limited = is_prop→PathP (λ j. (settings j).depth < MAX) (λ j. hlevel props) one.is_limited other.is_limited i;
    }
