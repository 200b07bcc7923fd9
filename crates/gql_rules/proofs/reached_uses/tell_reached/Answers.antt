use Rattle.std.proofs.Common.{rules, arith, ◌≡◌, ◌<◌, ◌++◌, List, Some, get_or, length, map, slice_get, refl, ap, sym, ◌∙◌}
use Rattle.std.proofs.lemmas.Option.{slice_get-get_or, slice_get_read}
use Rattle.gql_fields.specs.Places.{Place}
use Rattle.gql_fields.specs.Walk.{terms_in}
use Rattle.gql_fields.proofs.ToldLemmas.{flat_step}
use Rattle.gql_fields.specs.UsePlaceViews.{shown}
use Rattle.gql_rules.specs.ReachedUses.{uses_told_in}
use Rattle.gql_rules.specs.VariableUses.{uses_told}
use Rattle.gql_rules.proofs.UseLemmas.{below_at, list_is}
use Rattle.gql_rules.proofs.reached_uses.tell_reached.Goals as goal

pub offset_bounds-places-at : goal.offset_bounds-places-at
offset_bounds-places-at c =
    let reached = c.args.reached.now in
    let index = c.loop-at.at-index in
    let inside : get_or reached index 0 < length c.args.places.now
    = below_at (length c.args.places.now) reached index (get_or reached index 0) c.requires (slice_get-get_or reached index 0 (omega arith)) in
    search rules

pub bounds-places-at : goal.bounds-places-at
bounds-places-at c =
    let reached = c.args.reached.now in
    let index = c.loop-at.at-index in
    below_at (length c.args.places.now) reached index (get_or reached index 0) c.requires (slice_get-get_or reached index 0 (omega arith))

pub loop-at-preserved : goal.loop-at-preserved
loop-at-preserved c =
    let built = c.args.against.now.built.now in
    let terms = terms_in c.args.against.now in
    let definitions = c.args.defined.now in
    let reached = c.args.reached.now in
    let index = c.loop-at.at-index in
    let lists = c.args.places.now in
    let list = c.index-places-at.result in
    let number = get_or reached index 0 in
    let at : slice_get reached index ≡ Some number = slice_get-get_or reached index 0 (omega arith) in
    let inside : number < length lists = below_at (length lists) reached index number c.requires at in
    let stands : slice_get lists number ≡ Some list = slice_get_read lists (length lists) number list refl inside c.index-places-at.is in
    flat_step (uses_told_in built terms definitions (map shown lists)) reached index number c.args.found.now c.loop-at.found c.tell_uses.new.found at
    c.loop-at.invariant
    (c.in_ok-tell_uses.ensures
    ∙ ap (λ (places : List Place). c.loop-at.found ++ uses_told built terms definitions places)
    (ap shown c.as_slice-places.ensures ∙ sym (list_is shown lists number list stands)))
