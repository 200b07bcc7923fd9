use Rattle.gql_admit.specs.KnownVariables.{known_by}
use Rattle.gql_admit.proofs.WholeLemmas.{whole_set}
use Rattle.gql_admit.proofs.keeping.keep_known.Goals as goal

pub returns-then-is_set_whole : goal.returns-then-is_set_whole
returns-then-is_set_whole c = whole_set (known_by c.args.known.now) c.args.set (c.is_set_whole.ensures c.if-is_set_whole.true)
