use Rattle.std.proofs.Common.{arith}
use Rattle.gql_base.specs.Pairs.{values_of}
use Rattle.gql_admit.proofs.CountedLemmas.{budget_most, standing_many, standing_single}
use Rattle.gql_admit.proofs.depth.first_deep.Goals as goal

pub returns-in-Single-clause-bound : goal.returns-in-Single-clause-bound
returns-in-Single-clause-bound g c =
    omega (
      arith,
      c.deep_set.ensures.bound,
      standing_single c.args.doc.now.operations c.in-Single.operation c.in-Single.is,
      budget_most (values_of c.args.doc.now.fragments) c.as_mut_slice.result.now c.args.levels,
    )

pub returns-clause-bound : goal.returns-clause-bound
returns-clause-bound g c =
    omega (
      arith,
      c.deep_operations.ensures.bound,
      standing_many c.args.doc.now.operations c.in-Multiple.operations c.in-Multiple.is,
      budget_most (values_of c.args.doc.now.fragments) c.as_mut_slice-in-Multiple.result.now c.args.levels,
    )
