use Rattle.gql_engine.proofs.KeyCountLemmas.{serial_count_is}
use Rattle.gql_engine.proofs.GroupedLemmas.{serial_by_key, serial_by_key_whole, serial_each}
use Rattle.gql_engine.proofs.laws.mutations_are_grouped.Goals as goal

pub returns : goal.returns
returns g c = λ scene answer effect world n. record {
  by_key = serial_by_key scene answer effect world n;
  by_key_whole = serial_by_key_whole scene answer effect world n;
  each = serial_each scene answer effect world n;
  asked = serial_count_is scene answer effect world n;
}
