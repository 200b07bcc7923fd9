use Rattle.gql_serve.proofs.WorldLemmas.{leads_to_one}
use Rattle.gql_serve.proofs.laws.one_world_of_a_journal.Goals as goal

pub returns : goal.returns
returns g c = leads_to_one g.R.ResolverSet
