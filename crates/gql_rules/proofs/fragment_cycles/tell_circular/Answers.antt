use Rattle.gql_rules.proofs.CycleLemmas.{told_for}
use Rattle.gql_rules.proofs.fragment_cycles.tell_circular.Goals as goal

pub tell_each-requires : goal.tell_each-requires
tell_each-requires c =
    told_for c.args.fragments.now c.in_ok-graph.graph c.as_slice.result.now c.in_ok-circular.circular.items c.as_slice-2.result.now
    c.in_ok-graph.ensures.graph c.as_slice.ensures c.as_slice-2.ensures.value c.in_ok-circular.ensures
