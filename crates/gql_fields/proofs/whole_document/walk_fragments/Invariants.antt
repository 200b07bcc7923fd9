use Rattle.std.proofs.Common.{◌≡◌, ◌++◌, map, take}
use Rattle.std.specs.List.{flat_map}
use Rattle.gql_base.specs.Pairs.{values_of}
use Rattle.gql_fields.specs.Places.{fragment_places}
use Rattle.gql_fields.specs.UsePlaceViews.{shown}
use Rattle.gql_fields.specs.UsePlaces.{kept}
use Rattle.gql_fields.specs.Walk.{tells, terms_in}
use Rattle.gql_fields.proofs.whole_document.walk_fragments.Given as goal

abbrev pub invariant-loop-place : goal.invariant-loop-place
invariant-loop-place l = record {
  found :
      l.found
      ≡ l.initial.found
      ++ tells l.against (flat_map (fragment_places (terms_in l.against)) (take l.place (values_of l.fragments)));
  lists : map shown l.lists ≡ map (λ fragment. kept (fragment_places (terms_in l.against) fragment)) (take l.place (values_of l.fragments));
}
