use Rattle.gql_objects.proofs.SelectionSetLemmas.{tree_merged}
use Rattle.gql_engine.proofs.laws.trees_are_merged.Goals as goal

pub returns : goal.returns
returns g c = λ basis answer n pos field comes path. tree_merged basis answer n pos field comes path
