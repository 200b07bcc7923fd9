use Rattle.std.proofs.Common.{sym, ◌∙◌}
use Rattle.gql_conflicts.proofs.FittingLemmas.{fragment_is}
use Rattle.gql_conflicts.proofs.coarse.fragment_fits.Goals as goal

pub returns-in-Some : goal.returns-in-Some
returns-in-Some c =
    fragment_is c.args.fragments.now c.args.proposal.now c.in-Some.class c.all_fit.result c.args.place c.at.result.0.now c.at.result.1.now c.as_slice-selections.result.now
    (sym c.class_of.ensures ∙ c.in-Some.is) c.at.ensures c.as_slice-selections.ensures c.all_fit.ensures
