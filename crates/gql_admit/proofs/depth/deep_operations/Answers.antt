use Rattle.std.proofs.Common.{arith}
use Rattle.gql_admit.specs.Counted.{budget}
use Rattle.gql_select.specs.Standing.{standing_of}
use Rattle.gql_admit.proofs.CountedLemmas.{none_found}
use Rattle.gql_select.proofs.StandingLemmas.{left_more}
use Rattle.gql_doc.specs.declared.document.OperationDefinition.{OperationDefinition}
use Rattle.gql_doc.specs.declared.document.Positioned.{Positioned}
use Rattle.gql_base.specs.Pairs.{values_of}
use Rattle.gql_doc.specs.Depth.{deep_from, operation_set}
use Rattle.gql_lists.proofs.FirstLemmas.{first_here, first_more}
use Rattle.gql_fields.proofs.PairLemmas.{value_at}
use Rattle.gql_admit.proofs.depth.deep_operations.Goals as goal

pub returns-then-is_some-clause-found : goal.returns-then-is_some-clause-found
returns-then-is_some-clause-found g c =
    first_here (λ (operation : Positioned OperationDefinition). deep_from c.args.fragments.now c.args.levels (operation_set operation))
    (values_of c.args.operations.now) c.loop-place.place c.at.result.1.now c.deep_set-found.result c.is_some.result
    c.loop-place.invariant.before
    (value_at c.args.operations.now c.loop-place.place _ _ c.at.ensures) c.deep_set-found.ensures.found c.is_some.ensures c.if-is_some.true

pub loop-place-preserved : goal.loop-place-preserved
loop-place-preserved g c = record {
  before =
      first_more (λ (operation : Positioned OperationDefinition). deep_from c.args.fragments.now c.args.levels (operation_set operation))
      (values_of c.args.operations.now) c.loop-place.place c.at.result.1.now c.deep_set-found.result c.is_some.result
      c.loop-place.invariant.before
      (value_at c.args.operations.now c.loop-place.place _ _ c.at.ensures) c.deep_set-found.ensures.found c.is_some.ensures
      c.if-is_some.false;
  fine = c.deep_set-found.ensures.fine;
  bound =
      omega (
        arith,
        c.deep_set-found.ensures.bound,
        c.loop-place.invariant.bound,
        none_found c.deep_set-found.result c.is_some.result (budget c.args.levels (values_of c.args.fragments.now) c.deep_set-found.new.fine)
            c.is_some.ensures
            c.if-is_some.false,
        left_more standing_of (values_of c.args.operations.now) c.loop-place.place c.at.result.1.now
            (value_at c.args.operations.now c.loop-place.place _ _ c.at.ensures),
      );
}

pub returns-then-is_some-clause-bound : goal.returns-then-is_some-clause-bound
returns-then-is_some-clause-bound g c =
    omega (
      arith,
      c.deep_set-found.ensures.bound,
      c.loop-place.invariant.bound,
      left_more standing_of (values_of c.args.operations.now) c.loop-place.place c.at.result.1.now
          (value_at c.args.operations.now c.loop-place.place _ _ c.at.ensures),
    )
