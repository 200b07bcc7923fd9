use Rattle.std.proofs.Common.{◌≤◌, IsTrue, length, arith}
use Rattle.std.proofs.Math.ListN.{length-map}
use Rattle.gql_base.specs.Pairs.{values_of}
use Rattle.gql_conflicts.specs.Proposals.{has_class}
use Rattle.gql_conflicts.proofs.BelowLemmas.{each_more, each_passed, value_at}
use Rattle.gql_conflicts.proofs.coarse.several_fit.Goals as goal

pub loop-place-preserved : goal.loop-place-preserved
loop-place-preserved c =
    let so : IsTrue c.in_ok-operation_fits.field-0 = cc in
    each_more (has_class c.args.fragments.now c.args.proposal.now) (values_of c.args.operations.now) c.loop-place.place c.at.result.1.now c.loop-place.invariant
    (value_at c.args.operations.now c.loop-place.place c.at.result.0.now c.at.result.1.now c.at.ensures) (c.in_ok-operation_fits.ensures so)

pub returns : goal.returns
returns c =
    let over : length c.args.operations.now ≤ c.loop-place.place = omega arith in
    λ so. each_passed (has_class c.args.fragments.now c.args.proposal.now) (values_of c.args.operations.now) c.loop-place.place c.loop-place.invariant
    (omega (arith, over, length-map c.args.operations.now (λ p. p.1)))
