use Rattle.std.proofs.Common.{◌≡◌, ◌++◌, true, take}
use Rattle.gql_fields.specs.Places.{directive_places}
use Rattle.gql_fields.specs.UsePlaceViews.{shown}
use Rattle.gql_fields.specs.UsePlaces.{kept}
use Rattle.gql_fields.proofs.listing.list_directives.Given as goal

abbrev pub invariant-loop-directive : goal.invariant-loop-directive
invariant-loop-directive l = shown l.places ≡ shown l.initial.places ++ kept (directive_places true (take l.directive-index l.directives))
