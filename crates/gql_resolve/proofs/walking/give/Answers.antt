use Rattle.gql_resolve.proofs.NestingLemmas.{given_nests}
use Rattle.gql_resolve.proofs.walking.give.Goals as goal

pub new-found-requires : goal.new-found-requires
new-found-requires c =
    given_nests c.args.opened.env.now c.args.opened.left c.args.first.now c.args.rest.now c.args.field.now c.requires.nests c.args.opened.inside c.requires.is
