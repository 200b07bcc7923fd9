use Rattle.std.proofs.Common.{◌≡◌, arith, false, length, replicate}
use Rattle.gql_base.specs.Pairs.{values_of}
use Rattle.gql_select.specs.Standing.{is_marked}
use Rattle.gql_select.proofs.StandingLemmas.{unless_most}
use Rattle.gql_admit.proofs.CountedLemmas.{standing_many, standing_single}
use Rattle.gql_admit.proofs.CrowdedLemmas.{clean_none}
use Rattle.gql_admit.proofs.directives.first_crowded.Goals as goal

pub returns-in-Single-clause-bound : goal.returns-in-Single-clause-bound
returns-in-Single-clause-bound g c =
    omega (
      arith,
      c.crowded_set.ensures.bound,
      standing_single c.args.doc.now.operations c.in-Single.operation c.in-Single.is,
      unless_most (values_of c.args.doc.now.fragments) (is_marked c.as_mut_slice.result.now),
    )

pub crowded_operations-requires-clause-clean : goal.crowded_operations-requires-clause-clean
crowded_operations-requires-clause-clean g c =
    let count = length c.args.doc.now.fragments in
    let blank : c.as_mut_slice-in-Multiple.result.now ≡ replicate count false
    = cc (c.as_mut_slice-in-Multiple.ensures.value, c.in_ok-entered.ensures) in
    clean_none c.args.doc.now.fragments c.args.limit c.args.levels count _ blank

pub returns-clause-bound : goal.returns-clause-bound
returns-clause-bound g c =
    omega (
      arith,
      c.crowded_operations.ensures.bound,
      standing_many c.args.doc.now.operations c.in-Multiple.operations c.in-Multiple.is,
      unless_most (values_of c.args.doc.now.fragments) (is_marked c.as_mut_slice-in-Multiple.result.now),
    )
