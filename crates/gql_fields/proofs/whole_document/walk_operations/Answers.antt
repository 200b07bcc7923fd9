use Rattle.std.proofs.Common.{[], ◌∷◌, map, ap, ◌∙◌}
use Rattle.std.proofs.lemmas.List.{map-append}
use Rattle.gql_base.specs.Pairs.{values_of}
use Rattle.gql_fields.specs.Places.{operation_places}
use Rattle.gql_fields.specs.UsePlaceViews.{listed_behind, listed_of}
use Rattle.gql_fields.specs.Walk.{terms_in}
use Rattle.gql_fields.proofs.KeptLemmas.{map_step}
use Rattle.gql_fields.proofs.PairLemmas.{value_at}
use Rattle.gql_fields.proofs.ToldLemmas.{told_step}
use Rattle.gql_fields.proofs.whole_document.walk_operations.Goals as goal

pub loop-place-preserved : goal.loop-place-preserved
loop-place-preserved c =
    let against = c.args.against.now in
    let listed = c.in_ok-walk_operation.field-0 in
    record {
      found =
          told_step against.built.now (terms_in against) against.fragments.now (operation_places (terms_in against))
          (values_of c.args.operations.now) c.loop-place.place c.at.result.1.now c.args.found.now c.loop-place.found
          c.walk_operation.new.found (value_at c.args.operations.now c.loop-place.place _ _ c.at.ensures)
          c.loop-place.invariant.found c.in_ok-walk_operation.ensures.found;
      listed =
          map_step (listed_of (terms_in against)) (values_of c.args.operations.now) c.loop-place.place c.at.result.1.now
          (map listed_behind c.loop-place.listed) (map listed_behind c.push.new.self) (listed_behind listed)
          (value_at c.args.operations.now c.loop-place.place _ _ c.at.ensures) c.loop-place.invariant.listed
          c.in_ok-walk_operation.ensures.listed
          (ap (map listed_behind) c.in_ok-push.ensures.ok ∙ map-append listed_behind c.loop-place.listed (listed ∷ []));
    }
