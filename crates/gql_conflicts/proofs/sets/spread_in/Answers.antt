use Rattle.gql_conflicts.proofs.MergedLemmas.{opened}
use Rattle.gql_conflicts.proofs.sets.spread_in.Goals as goal

pub returns-in-FragmentSpread : goal.returns-in-FragmentSpread
returns-in-FragmentSpread c = opened c.args.selection.now.node c.in-FragmentSpread.spread c.in-FragmentSpread.is
