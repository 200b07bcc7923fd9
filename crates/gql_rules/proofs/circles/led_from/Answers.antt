use Rattle.std.proofs.Common.{rules, arith, ◌≡◌, ◌<◌, ◌++◌, Some, get_or, length, slice_get, ap, ◌∙◌}
use Rattle.std.proofs.lemmas.Option.{slice_get-get_or}
use Rattle.std.specs.Prelude.{◌==◌}
use Rattle.gql_lists.proofs.SetLemmas.{among-take}
use Rattle.gql_rules.specs.Reaching.{led_to}
use Rattle.gql_rules.proofs.CircleLemmas.{led_next}
use Rattle.gql_rules.proofs.MarkLemmas.{led_is}
use Rattle.gql_rules.proofs.ReachLemmas.{same_number}
use Rattle.gql_rules.proofs.circles.led_from.Goals as goal

pub offset_bounds-graph-place : goal.offset_bounds-graph-place
offset_bounds-graph-place c =
    let places = c.args.places.now in
    let index = c.loop-place.place-index in
    let inside : get_or places index 0 < length c.args.graph.now
    = c.requires.below (get_or places index 0) (among-take ◌==◌ same_number places index (get_or places index 0) (slice_get-get_or places
    index 0 (omega arith))) in
    search rules

pub bounds-graph-place : goal.bounds-graph-place
bounds-graph-place c =
    let places = c.args.places.now in
    let index = c.loop-place.place-index in
    c.requires.below (get_or places index 0) (among-take ◌==◌ same_number places index (get_or places index 0) (slice_get-get_or places
    index 0 (omega arith)))

pub loop-place-preserved : goal.loop-place-preserved
loop-place-preserved c =
    let graph = c.args.graph.now in
    let places = c.args.places.now in
    let index = c.loop-place.place-index in
    let place = get_or places index 0 in
    let at : slice_get places index ≡ Some place = slice_get-get_or places index 0 (omega arith) in
    let inside : place < length graph = c.requires.below place (among-take ◌==◌ same_number places index place at) in
    let led : c.as_slice.result.now ≡ led_to graph place
    = led_is graph place c.index-graph-place.result c.as_slice.result.now inside c.index-graph-place.is c.as_slice.ensures in
    led_next (led_to graph) places index place c.loop-place.led c.append.new.self at c.loop-place.invariant
    (c.in_ok-append.ensures.ok ∙ ap (λ ns. c.loop-place.led ++ ns) (c.in_ok-more.ensures ∙ led))
