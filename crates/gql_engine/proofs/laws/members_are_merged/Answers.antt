use Rattle.gql_objects.proofs.SelectionSetLemmas.{members_alone}
use Rattle.gql_engine.proofs.laws.members_are_merged.Goals as goal

pub returns : goal.returns
returns g c = λ basis answer n spot selections. members_alone basis answer n spot selections
