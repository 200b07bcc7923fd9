use Rattle.gql_resolve.proofs.VariableLemmas.{unknown_here, unknown_later}
use Rattle.gql_resolve.proofs.variables.+unknown.Goals as goal

pub unknown_in_members-returns-then-is_some : goal.unknown_in_members-returns-then-is_some
unknown_in_members-returns-then-is_some t c =
    unknown_here c.args.env.now c.args.members.now c.loop-index.index c.at.result.0.now c.at.result.1.now c.at.ensures c.loop-index.invariant
    c.unknown_in-found.result c.is_some.result c.unknown_in-found.ensures c.is_some.ensures c.if-is_some.true

pub unknown_in_members-loop-index-preserved : goal.unknown_in_members-loop-index-preserved
unknown_in_members-loop-index-preserved t c =
    unknown_later c.args.env.now c.args.members.now c.loop-index.index c.at.result.0.now c.at.result.1.now c.at.ensures c.loop-index.invariant
    c.unknown_in-found.result c.is_some.result c.unknown_in-found.ensures c.is_some.ensures c.if-is_some.false
