use Rattle.gql_select.proofs.NestLemmas.{collected_nest}
use Rattle.gql_engine.proofs.laws.collected_sets_nest.Goals as goal

pub returns : goal.returns
returns c = λ setting object levels left set nests. collected_nest setting object levels left set nests
