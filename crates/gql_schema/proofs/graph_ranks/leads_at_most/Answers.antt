use Rattle.std.proofs.Common.{◌≡◌, ap, ◌∙◌}
use Rattle.gql_schema.specs.GraphRanks.{all_at_most, led_to}
use Rattle.gql_schema.proofs.GraphRankLemmas.{led_is}
use Rattle.gql_schema.proofs.graph_ranks.leads_at_most.Goals as goal

pub returns : goal.returns
returns c =
    let graph = c.args.graph.now in
    let read : c.as_slice.result.now ≡ c.index-graph-place.result = cc in
    let led : c.as_slice.result.now ≡ led_to graph c.args.place
    = led_is graph c.args.place c.index-graph-place.result c.as_slice.result.now c.requires c.index-graph-place.is read in
    c.are_at_most.ensures ∙ ap (all_at_most c.args.ranks.now c.args.most) led
