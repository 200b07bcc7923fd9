use Rattle.gql_resolve.proofs.StepLemmas.{inline_entered}
use Rattle.gql_resolve.proofs.walking.enter.Goals as goal

pub returns : goal.returns
returns c =
    inline_entered c.args.opened.env.now c.args.opened.left c.args.first.now c.args.rest.now c.requires.nests
    c.behind.result c.behind.ensures.env c.behind.ensures.left c.behind.ensures.selections c.args.fragment.now c.deeper-inner.result c.requires.is
    c.deeper-inner.ensures.env c.deeper-inner.ensures.left c.deeper-inner.ensures.selections
