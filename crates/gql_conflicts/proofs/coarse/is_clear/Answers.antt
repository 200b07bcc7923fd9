use Rattle.std.proofs.Common.{IsTrue}
use Rattle.gql_conflicts.specs.DocumentConflicts.{IsClear}
use Rattle.gql_conflicts.specs.Proposals.{is_in_classes}
use Rattle.gql_conflicts.proofs.ClassLemmas.{none_in_classes}
use Rattle.gql_conflicts.proofs.FittingLemmas.{if_made}
use Rattle.gql_conflicts.proofs.coarse.is_clear.Goals as goal

pub returns : goal.returns
returns c =
    let doc = c.args.doc.now in
    let proposal = c.in-Some.proposal in
    if_made c.is_in_classes.result (λ clear. IsTrue clear → is_in_classes doc proposal) (λ clear. IsTrue clear → IsClear doc)
    (λ clear is so rooted levels. none_in_classes doc proposal.classes.items proposal.entries.items (is so) rooted levels) c.is_in_classes.ensures
