use Rattle.gql_engine.proofs.ApartLemmas.{apart_is_merged}
use Rattle.gql_engine.proofs.laws.agreeing_apart_is_merged.Goals as goal

pub returns : goal.returns
returns g c = λ scene answer n agree. apart_is_merged scene answer n agree
