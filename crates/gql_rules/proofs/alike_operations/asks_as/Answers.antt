use Rattle.std.proofs.Common.{arith}
use Rattle.gql_rules.proofs.GatheringLemmas.{asked_head}
use Rattle.gql_rules.proofs.alike_operations.asks_as.Goals as goal

pub returns-clause-head : goal.returns-clause-head
returns-clause-head c = λ so one stands.
    asked_head c.args.operations.now c.args.other c.args.place c.index-operations-other.result c.index-operations-place.result one
    c.ask_alike.result (omega arith) c.requires c.index-operations-other.is c.index-operations-place.is c.ask_alike.ensures so stands
