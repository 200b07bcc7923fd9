use Rattle.gql_admit.specs.KnownVariables.{known_by}
use Rattle.gql_admit.proofs.KeepLemmas.{set_left}
use Rattle.gql_admit.proofs.keeping.+keep.Goals as goal

pub keep_set-returns : goal.keep_set-returns
keep_set-returns t c = set_left (known_by c.args.known.now) c.args.set.pos c.args.set.node c.in_ok-items.items c.in_ok-items.ensures
