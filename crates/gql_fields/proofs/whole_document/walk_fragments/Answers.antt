use Rattle.std.proofs.Common.{[], ◌∷◌, map, ap, ◌∙◌}
use Rattle.std.proofs.lemmas.List.{map-append}
use Rattle.gql_base.specs.Pairs.{values_of}
use Rattle.gql_fields.specs.Places.{fragment_places}
use Rattle.gql_fields.specs.UsePlaceViews.{shown}
use Rattle.gql_fields.specs.UsePlaces.{kept}
use Rattle.gql_fields.specs.Walk.{terms_in}
use Rattle.gql_fields.proofs.KeptLemmas.{map_step}
use Rattle.gql_fields.proofs.PairLemmas.{value_at}
use Rattle.gql_fields.proofs.ToldLemmas.{told_step}
use Rattle.gql_fields.proofs.whole_document.walk_fragments.Goals as goal

pub loop-place-preserved : goal.loop-place-preserved
loop-place-preserved c =
    let against = c.args.against.now in
    let listed = c.in_ok-walk_fragment.field-0 in
    record {
      found =
          told_step against.built.now (terms_in against) against.fragments.now (fragment_places (terms_in against))
          (values_of c.args.fragments.now) c.loop-place.place c.at.result.1.now c.args.found.now c.loop-place.found
          c.walk_fragment.new.found (value_at c.args.fragments.now c.loop-place.place _ _ c.at.ensures)
          c.loop-place.invariant.found c.in_ok-walk_fragment.ensures.found;
      lists =
          map_step (λ fragment. kept (fragment_places (terms_in against) fragment)) (values_of c.args.fragments.now)
          c.loop-place.place c.at.result.1.now (map shown c.loop-place.lists) (map shown c.push.new.self) (shown listed)
          (value_at c.args.fragments.now c.loop-place.place _ _ c.at.ensures) c.loop-place.invariant.lists
          c.in_ok-walk_fragment.ensures.listed
          (ap (map shown) c.in_ok-push.ensures.ok ∙ map-append shown c.loop-place.lists (listed ∷ []));
    }
