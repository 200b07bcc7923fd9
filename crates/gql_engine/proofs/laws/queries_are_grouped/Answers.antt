use Rattle.gql_engine.proofs.TaskCountLemmas.{merged_count_is}
use Rattle.gql_engine.proofs.GroupedLemmas.{by_key_is_merged, by_key_whole_is_merged, each_is_apart}
use Rattle.gql_engine.proofs.laws.queries_are_grouped.Goals as goal

pub returns : goal.returns
returns g c = λ scene answer n. record {
  by_key = by_key_is_merged scene answer n;
  by_key_whole = by_key_whole_is_merged scene answer n;
  each = each_is_apart scene answer n;
  asked = merged_count_is scene answer n;
}
