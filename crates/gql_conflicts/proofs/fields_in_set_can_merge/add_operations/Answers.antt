use Rattle.gql_conflicts.proofs.WalkedLemmas.{walks_several, walks_single}
use Rattle.gql_conflicts.proofs.fields_in_set_can_merge.add_operations.Goals as goal

pub returns-in-Single : goal.returns-in-Single
returns-in-Single c =
    walks_single c.args.reader.now c.add_operation.result c.args.operations.now c.in-Single.operation c.args.walked.now c.add_operation.new.walked
    c.in-Single.is c.add_operation.ensures

pub returns-in-Multiple : goal.returns-in-Multiple
returns-in-Multiple c =
    walks_several c.args.reader.now c.add_several.result c.args.operations.now c.in-Multiple.operations c.args.walked.now c.add_several.new.walked
    c.in-Multiple.is c.add_several.ensures
