use Rattle.std.proofs.Common.{arith, []}
use Rattle.gql_rules.proofs.AlikeLemmas.{alike_itself, alike_next, alike_whole}
use Rattle.gql_rules.proofs.alike_operations.are_alike.Goals as goal

pub loop-place-init : goal.loop-place-init
loop-place-init c = alike_itself []

pub loop-place-preserved : goal.loop-place-preserved
loop-place-preserved c =
    alike_next c.args.one.now c.args.other.now c.loop-place.place c.index-one-place.result c.index-other-place.result c.loop-place.invariant
    (omega arith) (omega arith) c.index-one-place.is c.index-other-place.is (c.is_alike.ensures.name (c.if-not-is_alike.false))
    (c.is_alike.ensures.alike (c.if-not-is_alike.false))

pub returns : goal.returns
returns c = λ so.
    alike_whole c.args.one.now c.args.other.now c.loop-place.place (omega arith) (omega arith) c.loop-place.invariant
