use Rattle.std.proofs.Common.{◌≡◌, ℕ, List, Some, None, refl, slice_get, arith}
use Rattle.std.proofs.Math.ListN.{length-map}
use Rattle.std.specs.Option.{option_copied}
use Rattle.gql_base.specs.Pairs.{values_of}
use Rattle.gql_doc.specs.declared.document.OperationDefinition.{OperationDefinition}
use Rattle.gql_doc.specs.declared.document.Positioned.{Positioned}
use Rattle.gql_doc.specs.Depth.{deep_from, operation_set}
use Rattle.gql_lists.proofs.FirstLemmas.{none_at, there_copied}
use Rattle.gql_select.specs.Crowded.{crowded_from}
use Rattle.gql_fields.proofs.PairLemmas.{value_at}
use Rattle.gql_select.specs.Standing.{standing_of}
use Rattle.gql_admit.proofs.CrowdedLemmas.{finds_all, finds_hit, finds_next, finds_still}
use Rattle.gql_select.proofs.StandingLemmas.{left_more}
use Rattle.gql_admit.proofs.directives.crowded_operations.Goals as goal

pub loop-place-init : goal.loop-place-init
loop-place-init g c = record {
  finds = finds_still c.args.fragments.now c.args.limit c.args.levels c.args.entered.now None None c.requires.clean refl;
  long = c.requires.long;
  bound = omega arith;
}

pub crowded_set-found-requires : goal.crowded_set-found-requires
crowded_set-found-requires g c = record {
  nests =
      none_at (λ (operation : Positioned OperationDefinition). deep_from c.args.fragments.now c.args.levels (operation_set operation))
      (values_of c.args.operations.now) c.loop-place.place c.at.result.1.now c.requires.nests
      (value_at c.args.operations.now c.loop-place.place _ _ c.at.ensures);
  long = c.loop-place.invariant.long;
}

pub returns-then-is_some-clause-found : goal.returns-then-is_some-clause-found
returns-then-is_some-clause-found g c =
    let operations = values_of c.args.operations.now in
    let place = c.loop-place.place in
    let at : slice_get operations place ≡ Some c.at.result.1.now = value_at c.args.operations.now place _ _ c.at.ensures in
    let nests : deep_from c.args.fragments.now c.args.levels (operation_set c.at.result.1.now) ≡ None
    = none_at (λ (operation : Positioned OperationDefinition). deep_from c.args.fragments.now c.args.levels (operation_set operation))
    operations place
    c.at.result.1.now c.requires.nests at in
    let here = c.crowded_set-found.ensures.found c.args.levels nests (c.loop-place.invariant.finds.clean refl) in
    (finds_hit c.args.fragments.now c.args.limit
    (λ (operation : Positioned OperationDefinition). crowded_from c.args.fragments.now c.args.limit c.args.levels (operation_set
    operation)) c.args.levels
    c.args.entered.now c.loop-place.entered operations place c.loop-place.invariant.finds c.crowded_set-found.new.entered c.at.result.1.now
    (option_copied c.crowded_set-found.result) c.is_some.result at here (there_copied c.crowded_set-found.result c.is_some.result
    c.is_some.ensures)
    c.if-is_some.true).is

pub returns-then-is_some-clause-bound : goal.returns-then-is_some-clause-bound
returns-then-is_some-clause-bound g c =
    omega (
      arith,
      c.crowded_set-found.ensures.bound,
      c.loop-place.invariant.bound,
      left_more standing_of (values_of c.args.operations.now) c.loop-place.place c.at.result.1.now
          (value_at c.args.operations.now c.loop-place.place _ _ c.at.ensures),
    )

pub loop-place-preserved : goal.loop-place-preserved
loop-place-preserved g c =
    let operations = values_of c.args.operations.now in
    let place = c.loop-place.place in
    let at : slice_get operations place ≡ Some c.at.result.1.now = value_at c.args.operations.now place _ _ c.at.ensures in
    let nests : deep_from c.args.fragments.now c.args.levels (operation_set c.at.result.1.now) ≡ None
    = none_at (λ (operation : Positioned OperationDefinition). deep_from c.args.fragments.now c.args.levels (operation_set operation))
    operations place
    c.at.result.1.now c.requires.nests at in
    let here = c.crowded_set-found.ensures.found c.args.levels nests (c.loop-place.invariant.finds.clean refl) in
    record {
      finds =
          finds_next c.args.fragments.now c.args.limit
          (λ (operation : Positioned OperationDefinition). crowded_from c.args.fragments.now c.args.limit c.args.levels (operation_set
          operation)) c.args.levels
          c.args.entered.now c.loop-place.entered operations place c.loop-place.invariant.finds c.crowded_set-found.new.entered
          c.at.result.1.now
          (option_copied c.crowded_set-found.result) c.is_some.result at here
          (there_copied c.crowded_set-found.result c.is_some.result c.is_some.ensures) c.if-is_some.false;
      long = omega (arith, c.crowded_set-found.auto.entered, c.loop-place.invariant.long);
      bound = omega (
        arith,
        c.crowded_set-found.ensures.bound,
        c.loop-place.invariant.bound,
        left_more standing_of operations place
            c.at.result.1.now at,
      );
    }

pub returns-clause-found : goal.returns-clause-found
returns-clause-found g c =
    (finds_all c.args.fragments.now c.args.limit
    (λ (operation : Positioned OperationDefinition). crowded_from c.args.fragments.now c.args.limit c.args.levels (operation_set
    operation)) c.args.levels
    c.args.entered.now c.loop-place.entered (values_of c.args.operations.now) c.loop-place.place c.loop-place.invariant.finds
    (omega (arith, length-map c.args.operations.now (λ (p : List ℕ × Positioned OperationDefinition). p.1)))).is
