use Rattle.gql_engine.proofs.ApartLemmas.{serial_apart_is_merged}
use Rattle.gql_engine.proofs.laws.agreeing_mutation_apart_is_merged.Goals as goal

pub returns : goal.returns
returns g c = λ scene answer effect world n agree. serial_apart_is_merged scene answer effect world n agree
