use Rattle.gql_resolve.proofs.VariableLemmas.{found_any}
use Rattle.gql_resolve.proofs.variables.is_defined.Goals as goal

pub returns : goal.returns
returns c = found_any c.args.env.now c.args.name.now c.definition.result c.is_some.result c.definition.ensures c.is_some.ensures
