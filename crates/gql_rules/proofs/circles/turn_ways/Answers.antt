use Rattle.std.proofs.Common.{arith, ◌≡◌, ◌<◌, true, get_or, length, ap, sym, ◌∙◌}
use Rattle.std.proofs.lemmas.Option.{slice_get-get_or}
use Rattle.std.specs.Prelude.{◌==◌}
use Rattle.gql_lists.proofs.SetLemmas.{among-take}
use Rattle.gql_rules.specs.Reaching.{is_in, led_to}
use Rattle.gql_rules.proofs.CircleLemmas.{turned_more}
use Rattle.gql_rules.proofs.MarkLemmas.{led_is}
use Rattle.gql_rules.proofs.ReachLemmas.{same_number}
use Rattle.gql_rules.proofs.circles.turn_ways.Goals as goal

pub turn_way-requires : goal.turn_way-requires
turn_way-requires c =
    let graph = c.args.graph.now in
    let places = c.as_slice-to-items.result.now in
    let index = c.loop-to.to-index in
    let led : places ≡ led_to graph c.args.from
    = led_is graph c.args.from c.index-graph-from.result places c.requires.inside c.index-graph-from.is c.as_slice-to-items.ensures in
    let among : is_in (get_or places index 0) places ≡ true
    = among-take ◌==◌ same_number places index (get_or places index 0) (slice_get-get_or places index 0 (omega arith)) in
    let inside : get_or places index 0 < length graph
    = c.requires.within.within c.args.from (get_or places index 0) (ap (is_in (get_or places index 0)) (sym led) ∙ among) in
    omega (arith, inside, c.loop-to.invariant.long)

pub loop-to-preserved : goal.loop-to-preserved
loop-to-preserved c =
    let graph = c.args.graph.now in
    let places = c.as_slice-to-items.result.now in
    let index = c.loop-to.to-index in
    let led : places ≡ led_to graph c.args.from
    = led_is graph c.args.from c.index-graph-from.result places c.requires.inside c.index-graph-from.is c.as_slice-to-items.ensures in
    let among : is_in (get_or places index 0) places ≡ true
    = among-take ◌==◌ same_number places index (get_or places index 0) (slice_get-get_or places index 0 (omega arith)) in
    turned_more graph c.loop-to.turned c.turn_way.new.turned (length graph) c.args.from (get_or places index 0) c.loop-to.invariant
    (ap (is_in (get_or places index 0)) (sym led) ∙ among) c.in_ok-turn_way.ensures
