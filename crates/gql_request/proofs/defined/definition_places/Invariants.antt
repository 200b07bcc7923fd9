use Rattle.std.proofs.Common.{◌≡◌, take}
use Rattle.gql_request.specs.Defined.{definition_places}
use Rattle.gql_request.proofs.defined.definition_places.Given as goal

abbrev pub invariant-loop-place : goal.invariant-loop-place
invariant-loop-place l = l.places ≡ definition_places (take l.place l.definitions)
