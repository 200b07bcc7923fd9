use Rattle.std.proofs.Common.{◌≡◌, ◌++◌, map, take}
use Rattle.std.specs.List.{flat_map}
use Rattle.gql_base.specs.Pairs.{values_of}
use Rattle.gql_fields.specs.Places.{operation_places}
use Rattle.gql_fields.specs.UsePlaceViews.{listed_behind, listed_of}
use Rattle.gql_fields.specs.Walk.{tells, terms_in}
use Rattle.gql_fields.proofs.whole_document.walk_operations.Given as goal

abbrev pub invariant-loop-place : goal.invariant-loop-place
invariant-loop-place l = record {
  found :
      l.found
      ≡ l.initial.found
      ++ tells l.against (flat_map (operation_places (terms_in l.against)) (take l.place (values_of l.operations)));
  listed : map listed_behind l.listed ≡ map (listed_of (terms_in l.against)) (take l.place (values_of l.operations));
}
