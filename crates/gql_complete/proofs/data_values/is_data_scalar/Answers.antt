use Rattle.gql_schema.specs.Scalar.{rule_of}
use Rattle.gql_complete.proofs.DataLemmas.{scalar_data, scalar_null}
use Rattle.gql_complete.proofs.data_values.is_data_scalar.Goals as goal

pub returns-in-Null : goal.returns-in-Null
returns-in-Null g c = λ yes. scalar_null g.row.V.Denot c.args.name.now (rule_of c.args.scalar.now) c.args.value.now c.in-Null.is

pub returns-in_default : goal.returns-in_default
returns-in_default g c = λ yes. scalar_data g.row.V.Denot c.args.name.now (rule_of c.args.scalar.now) c.args.value.now (c.is_leaf_value.ensures yes)
