use Rattle.gql_conflicts.proofs.FittingLemmas.{only_fits}
use Rattle.gql_conflicts.proofs.coarse.operations_fit.Goals as goal

pub returns-in-Single : goal.returns-in-Single
returns-in-Single c =
    only_fits c.args.doc.now.fragments c.args.proposal.now c.args.doc.now.operations c.in-Single.operation c.operation_fits.result c.in-Single.is c.operation_fits.ensures
