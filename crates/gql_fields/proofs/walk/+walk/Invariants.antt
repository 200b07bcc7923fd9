use Rattle.std.proofs.Common.{◌≡◌, ◌++◌, take}
use Rattle.std.specs.List.{flat_map}
use Rattle.gql_fields.specs.Places.{selection_places}
use Rattle.gql_fields.specs.UsePlaceViews.{shown}
use Rattle.gql_fields.specs.UsePlaces.{kept}
use Rattle.gql_fields.specs.Walk.{tells, terms_in}
use Rattle.gql_fields.proofs.walk.+walk.Given as goal

abbrev pub invariant-walk_selections-loop-selection : goal.invariant-walk_selections-loop-selection
invariant-walk_selections-loop-selection l = record {
  found :
      l.found
      ≡ l.initial.found
      ++ tells l.against
      (flat_map (λ selection. selection_places (terms_in l.against) selection.node l.ty) (take l.selection-index l.selections));
  places :
      shown l.places
      ≡ shown l.initial.places
      ++ kept (flat_map (λ selection. selection_places (terms_in l.against) selection.node l.ty) (take l.selection-index l.selections));
}
