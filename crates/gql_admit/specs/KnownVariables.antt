-- The variables of an operation, as conditions know them: what each stands for.
use Rattle.std.specs.Prelude.{ℕ, List}
use Rattle.gql_base.specs.declared.value.Value.{Value}
use Rattle.gql_select.specs.Constants.{variable_value}
use Rattle.gql_admit.specs.declared.conditions.Known.{Known}

abbrev pub known_by : Known → List ℕ → Value
known_by known = variable_value known.variables.now known.defined
