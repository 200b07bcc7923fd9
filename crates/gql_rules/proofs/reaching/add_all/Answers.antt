use Rattle.std.proofs.Common.{◌≡◌, ◌<◌, Some, get_or, length, slice_get, ap, sym, ◌∙◌, arith}
use Rattle.std.proofs.lemmas.Option.{slice_get-get_or}
use Rattle.std.specs.Prelude.{◌==◌}
use Rattle.gql_rules.specs.Reaching.{with_number}
use Rattle.gql_rules.proofs.MarkLemmas.{numbers_more}
use Rattle.gql_lists.proofs.SetLemmas.{among-take}
use Rattle.gql_rules.proofs.ReachLemmas.{same_number}
use Rattle.gql_rules.proofs.reaching.add_all.Goals as goal

pub add_one-requires-clause-within : goal.add_one-requires-clause-within
add_one-requires-clause-within c =
    let places = c.args.places.now in
    let index = c.loop-place.place-index in
    let at : slice_get places index ≡ Some (get_or places index 0) = slice_get-get_or places index 0 (omega arith) in
    let within : get_or places index 0 < length c.args.marks.now = c.requires.within (get_or places index 0) (among-take ◌==◌ same_number places index (get_or places index 0) at) in
    omega (arith, within)

pub loop-place-preserved : goal.loop-place-preserved
loop-place-preserved c =
    let places = c.args.places.now in
    let index = c.loop-place.place-index in
    let at : slice_get places index ≡ Some (get_or places index 0) = slice_get-get_or places index 0 (omega arith) in (
      c.in_ok-add_one.ensures.reached ∙ ap (λ ns. with_number ns (get_or places index 0)) c.loop-place.invariant.0
          ∙ sym (numbers_more c.args.reached.now places index (get_or places index 0) at),
      c.in_ok-add_one.ensures.marks,
    )
