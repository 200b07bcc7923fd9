use Rattle.std.proofs.Common.{refl}
use Rattle.gql_conflicts.proofs.WalkedLemmas.{walk_lists}
use Rattle.gql_conflicts.proofs.fields_in_set_can_merge.walk_document.Goals as goal

pub returns : goal.returns
returns c =
    walk_lists _ c.args.doc.now _ c.nothing_walked-walked.result c.add_operations.new.walked c.in_ok-add_operations.ensures refl c.requires
    c.nothing_walked-walked.ensures.found c.nothing_walked-walked.ensures.seen c.nothing_walked-walked.ensures.pairs
