use Rattle.gql_collect.proofs.LevelLemmas.{asked_first}
use Rattle.gql_collect.proofs.object_fields.node_of.Goals as goal

pub returns : goal.returns
returns c = asked_first c.args.basis.now c.args.object.now c.args.group c.in_ok-asks.asks c.in_ok-asks.ensures
