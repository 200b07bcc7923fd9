use Rattle.gql_lists.proofs.AllLemmas.{all_more}
use Rattle.gql_select.specs.Given.{pair_same}
use Rattle.gql_select.proofs.alike.names_same.Goals as goal

pub loop-place-preserved : goal.loop-place-preserved
loop-place-preserved c =
    all_more (pair_same c.args.one.now c.args.other.now) c.args.index.now c.loop-place.place (c.at.result.0.now, c.at.result.1.now) c.same_under.result
    c.loop-place.invariant c.at.ensures c.same_under.ensures c.if-not-same_under.false
