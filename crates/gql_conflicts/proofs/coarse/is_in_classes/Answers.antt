use Rattle.std.proofs.Common.{IsTrue, subst}
use Rattle.gql_conflicts.specs.Classes.{HasKeysOnce}
use Rattle.gql_conflicts.proofs.FittingLemmas.{all_in}
use Rattle.gql_conflicts.proofs.coarse.is_in_classes.Goals as goal

pub returns : goal.returns
returns c =
    let once : IsTrue c.has_keys_once.result = cc in
    let fit : IsTrue c.in_ok-fragments_fit.field-0 = cc in
    all_in c.args.doc.now c.args.proposal.now c.operations_fit.result (subst HasKeysOnce c.as_slice.ensures.value (c.has_keys_once.ensures once)) (c.in_ok-fragments_fit.ensures fit)
    c.operations_fit.ensures
