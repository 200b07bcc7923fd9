use Rattle.std.proofs.Common.{◌≤◌, length, arith}
use Rattle.std.proofs.Math.ListN.{length-map}
use Rattle.gql_base.specs.Pairs.{values_of}
use Rattle.gql_conflicts.specs.Walk.{operation_tells}
use Rattle.gql_conflicts.proofs.BelowLemmas.{value_at}
use Rattle.gql_conflicts.proofs.WalkedLemmas.{walks_begin, walks_end, walks_step}
use Rattle.gql_conflicts.proofs.fields_in_set_can_merge.add_several.Goals as goal

pub loop-place-init : goal.loop-place-init
loop-place-init c = λ nest. walks_begin c.args.reader.now (operation_tells c.args.reader.now) (values_of c.args.operations.now) c.args.walked.now

pub loop-place-preserved : goal.loop-place-preserved
loop-place-preserved c =
    let at = value_at c.args.operations.now c.loop-place.place _ _ c.at.ensures in
    λ nest.
    walks_step c.args.reader.now (operation_tells c.args.reader.now) (values_of c.args.operations.now) c.loop-place.place c.at.result.1.now _ _
    c.args.walked.now c.loop-place.walked c.add_operation.new.walked at (c.loop-place.invariant nest)
    (c.in_ok-clean.ensures (nest c.loop-place.place c.at.result.1.now at))

pub returns : goal.returns
returns c =
    let over : length c.args.operations.now ≤ c.loop-place.place = omega arith in
    λ nest.
    walks_end c.args.reader.now (operation_tells c.args.reader.now) (values_of c.args.operations.now) c.loop-place.place c.loop-place.clean
    c.args.walked.now c.loop-place.walked (omega (arith, over, length-map c.args.operations.now (λ p. p.1))) (c.loop-place.invariant nest)
