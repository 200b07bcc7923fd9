use Rattle.gql_conflicts.proofs.FittingLemmas.{operation_is}
use Rattle.gql_conflicts.proofs.coarse.operation_fits.Goals as goal

pub returns-in-Some : goal.returns-in-Some
returns-in-Some c =
    operation_is c.args.fragments.now c.args.proposal.now c.in-Some.class c.all_fit.result c.args.operation.now c.as_slice-selections.result.now c.as_slice-selections.ensures c.all_fit.ensures
