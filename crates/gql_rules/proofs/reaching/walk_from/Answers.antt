use Rattle.std.proofs.Common.{rules, ◌≡◌, ◌<◌, Some, get_or, length, slice_get, ap, sym, ◌∙◌, arith}
use Rattle.std.specs.Prelude.{◌==◌}
use Rattle.gql_lists.proofs.SetLemmas.{among-take}
use Rattle.gql_rules.specs.Reaching.{is_in, led_to, with_numbers}
use Rattle.gql_rules.proofs.MarkLemmas.{led_is, place_read, reached_within}
use Rattle.gql_rules.proofs.ReachLemmas.{same_number, walk_ends, walk_goes, walk_starts, walk_tells}
use Rattle.gql_rules.proofs.reaching.walk_from.Goals as goal

pub add_all-requires-clause-within : goal.add_all-requires-clause-within
add_all-requires-clause-within c = λ k among.
    let below : k < length c.args.graph.now = c.requires.starts.below k among in
    omega (arith, below, c.requires.long)

pub walk-init : goal.walk-init
walk-init c = (
  walk_starts c.args.graph.now c.args.starts.now c.add_all.new.reached
      (c.in_ok-add_all.ensures.reached ∙ ap (λ ns. with_numbers ns c.args.starts.now) c.new-reached.ensures),
  c.in_ok-add_all.ensures.marks,
)

pub offset_bounds-graph-place : goal.offset_bounds-graph-place
offset_bounds-graph-place c =
    let graph = c.args.graph.now in
    let list : c.as_slice.result.now ≡ c.walk.reached = cc in
    let next : c.walk.next < length c.walk.reached = omega arith in
    let place = get_or c.as_slice.result.now c.walk.next 0 in
    let at : slice_get c.walk.reached c.walk.next ≡ Some place = place_read c.as_slice.result.now c.walk.reached c.walk.next list next in
    let inside : place < length graph = reached_within graph c.args.starts.now place c.requires.within c.requires.starts (c.walk.invariant.0.sound place (among-take ◌==◌ same_number c.walk.reached c.walk.next place at)) in
    search rules

pub bounds-graph-place : goal.bounds-graph-place
bounds-graph-place c =
    let graph = c.args.graph.now in
    let list : c.as_slice.result.now ≡ c.walk.reached = cc in
    let next : c.walk.next < length c.walk.reached = omega arith in
    let place = get_or c.as_slice.result.now c.walk.next 0 in
    let at : slice_get c.walk.reached c.walk.next ≡ Some place = place_read c.as_slice.result.now c.walk.reached c.walk.next list next in
    let inside : place < length graph = reached_within graph c.args.starts.now place c.requires.within c.requires.starts (c.walk.invariant.0.sound place (among-take ◌==◌ same_number c.walk.reached c.walk.next place at)) in
    inside

pub add_all-requires-in-walk-clause-within : goal.add_all-requires-in-walk-clause-within
add_all-requires-in-walk-clause-within c =
    let graph = c.args.graph.now in
    let list : c.as_slice.result.now ≡ c.walk.reached = cc in
    let next : c.walk.next < length c.walk.reached = omega arith in
    let place = get_or c.as_slice.result.now c.walk.next 0 in
    let at : slice_get c.walk.reached c.walk.next ≡ Some place = place_read c.as_slice.result.now c.walk.reached c.walk.next list next in
    let inside : place < length graph = reached_within graph c.args.starts.now place c.requires.within c.requires.starts (c.walk.invariant.0.sound place (among-take ◌==◌ same_number c.walk.reached c.walk.next place at)) in
    let read : c.as_slice-in-walk.result.now ≡ c.index-graph-place.result = cc in
    let led : c.as_slice-in-walk.result.now ≡ led_to graph place = led_is graph place c.index-graph-place.result c.as_slice-in-walk.result.now inside c.index-graph-place.is read in
    λ k among.
    let within : k < length graph = c.requires.within.within place k (ap (is_in k) (sym led) ∙ among) in
    omega (arith, within, c.requires.long)

pub walk-smaller : goal.walk-smaller
walk-smaller c =
    let graph = c.args.graph.now in
    let list : c.as_slice.result.now ≡ c.walk.reached = cc in
    let next : c.walk.next < length c.walk.reached = omega arith in
    let place = get_or c.as_slice.result.now c.walk.next 0 in
    let at : slice_get c.walk.reached c.walk.next ≡ Some place = place_read c.as_slice.result.now c.walk.reached c.walk.next list next in
    let inside : place < length graph = reached_within graph c.args.starts.now place c.requires.within c.requires.starts (c.walk.invariant.0.sound place (among-take ◌==◌ same_number c.walk.reached c.walk.next place at)) in
    let read : c.as_slice-in-walk.result.now ≡ c.index-graph-place.result = cc in
    let led : c.as_slice-in-walk.result.now ≡ led_to graph place = led_is graph place c.index-graph-place.result c.as_slice-in-walk.result.now inside c.index-graph-place.is read in
    walk_ends graph c.walk.reached c.add_all-in-walk.new.reached c.walk.next place
    (c.in_ok-add_all-2.ensures.reached ∙ ap (with_numbers c.walk.reached) led) next

pub walk-preserved : goal.walk-preserved
walk-preserved c =
    let graph = c.args.graph.now in
    let list : c.as_slice.result.now ≡ c.walk.reached = cc in
    let next : c.walk.next < length c.walk.reached = omega arith in
    let place = get_or c.as_slice.result.now c.walk.next 0 in
    let at : slice_get c.walk.reached c.walk.next ≡ Some place = place_read c.as_slice.result.now c.walk.reached c.walk.next list next in
    let inside : place < length graph = reached_within graph c.args.starts.now place c.requires.within c.requires.starts (c.walk.invariant.0.sound place (among-take ◌==◌ same_number c.walk.reached c.walk.next place at)) in
    let read : c.as_slice-in-walk.result.now ≡ c.index-graph-place.result = cc in
    let led : c.as_slice-in-walk.result.now ≡ led_to graph place = led_is graph place c.index-graph-place.result c.as_slice-in-walk.result.now inside c.index-graph-place.is read in (
      walk_goes graph c.args.starts.now c.walk.reached c.add_all-in-walk.new.reached c.walk.next place c.walk.invariant.0 at
          (c.in_ok-add_all-2.ensures.reached ∙ ap (with_numbers c.walk.reached) led) next,
      c.in_ok-add_all-2.ensures.marks,
    )

pub returns-clause-reached : goal.returns-clause-reached
returns-clause-reached c = walk_tells c.args.graph.now c.args.starts.now c.walk.reached c.walk.next c.walk.invariant.0 (omega arith)
