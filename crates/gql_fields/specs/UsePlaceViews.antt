-- What the places that are listed show of a document.
use Rattle.std.specs.Prelude.{true, List, map}
use Rattle.gql_doc.specs.declared.document.OperationDefinition.{OperationDefinition}
use Rattle.gql_doc.specs.declared.document.Positioned.{Positioned}
use Rattle.gql_fields.specs.Places.{OnDirective, OnField, OnSpread, Place, operation_places}
use Rattle.gql_fields.specs.Terms.{Terms}
use Rattle.gql_fields.specs.UsePlaces.{kept}
use Rattle.gql_fields.specs.Walk.{field_place}
use Rattle.gql_fields.specs.declared.listed.OperationPlaces.{OperationPlaces}
use Rattle.gql_fields.specs.declared.use_place.UsePlace.{UsePlace}
use Rattle.gql_fields.specs.declared.use_place.UsePlace.TheVariants as places

-- a place that is listed, in the document
abbrev pub place_behind : UsePlace → Place
place_behind (places.Field ty field) = OnField (field_place ty.now field.now)
place_behind (places.Directive directive) = OnDirective true directive.now
place_behind (places.Spread spread) =
    OnSpread spread.now.pos spread.now.node.fragment_name.node

-- the places of a list
abbrev pub shown : List UsePlace → List Place
shown places = map place_behind places

-- an operation that is listed
abbrev pub operation_behind : OperationPlaces → Positioned OperationDefinition
operation_behind listed = listed.operation.now

-- the same with its places
abbrev pub listed_behind : OperationPlaces → Positioned OperationDefinition × List Place
listed_behind listed = (listed.operation.now, shown listed.places)

-- what is listed of an operation: its places that matter
abbrev pub listed_of : Terms → Positioned OperationDefinition
    → Positioned OperationDefinition × List Place
listed_of terms operation = (operation, kept (operation_places terms operation))
