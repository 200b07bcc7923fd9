use Rattle.std.proofs.Common.{◌+◌, refl, arith}
use Rattle.gql_select.specs.Standing.{standing_by, standing_in}
use Rattle.gql_admit.proofs.CountedLemmas.{whole_counted}
use Rattle.gql_admit.proofs.DepthLemmas.{depth_passes, depth_refused, within_depth}
use Rattle.gql_admit.proofs.depth.check_depth_counted.Goals as goal

pub returns-in-None-clause-checked : goal.returns-in-None-clause-checked
returns-in-None-clause-checked g c =
    depth_passes c.args.doc.now c.args.limit (c.args.limit + 1) refl (rw c.in-None.is at c.in_ok-first_deep.ensures.found)

pub returns-in-None-clause-within : goal.returns-in-None-clause-within
returns-in-None-clause-within g c =
    within_depth c.args.doc.now c.args.limit (c.args.limit + 1) refl (omega arith) (rw c.in-None.is at c.in_ok-first_deep.ensures.found)

pub returns-in_ok-depth_error-in-Some-clause-checked :
    goal.returns-in_ok-depth_error-in-Some-clause-checked
returns-in_ok-depth_error-in-Some-clause-checked g c =
    depth_refused c.args.doc.now c.args.limit (c.args.limit + 1) refl c.in-Some.place _
    (rw c.in-Some.is at c.in_ok-first_deep.ensures.found)
    c.in_ok-depth_error-in-Some.ensures

pub returns-in_err-first_deep-clause-bound : goal.returns-in_err-first_deep-clause-bound
returns-in_err-first_deep-clause-bound g c =
    omega (
      arith,
      c.first_deep.ensures.bound,
      whole_counted (standing_by c.args.doc.now.operations) (standing_in c.args.doc.now.fragments)
          c.args.limit (c.args.limit + 1) refl,
    )

pub returns-in-None-clause-bound : goal.returns-in-None-clause-bound
returns-in-None-clause-bound g c =
    omega (
      arith,
      c.first_deep.ensures.bound,
      whole_counted (standing_by c.args.doc.now.operations) (standing_in c.args.doc.now.fragments)
          c.args.limit (c.args.limit + 1) refl,
    )

pub returns-in_err-depth_error-in-Some-clause-bound : goal.returns-in_err-depth_error-in-Some-clause-bound
returns-in_err-depth_error-in-Some-clause-bound g c =
    omega (
      arith,
      c.first_deep.ensures.bound,
      whole_counted (standing_by c.args.doc.now.operations) (standing_in c.args.doc.now.fragments)
          c.args.limit (c.args.limit + 1) refl,
    )

pub returns-in_ok-depth_error-in-Some-clause-bound : goal.returns-in_ok-depth_error-in-Some-clause-bound
returns-in_ok-depth_error-in-Some-clause-bound g c =
    omega (
      arith,
      c.first_deep.ensures.bound,
      whole_counted (standing_by c.args.doc.now.operations) (standing_in c.args.doc.now.fragments)
          c.args.limit (c.args.limit + 1) refl,
    )
