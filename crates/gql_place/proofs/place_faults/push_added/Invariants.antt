use Rattle.std.proofs.Common.{◌≡◌, ◌++◌, take, map}
use Rattle.gql_place.specs.Faults.{located}
use Rattle.gql_place.specs.Steps.{path_of}
use Rattle.gql_place.proofs.place_faults.push_added.Given as goal

abbrev pub invariant-loop-error : goal.invariant-loop-error
invariant-loop-error l = l.errors ≡ l.initial.errors ++ map (located l.pos (path_of l.path)) (take l.error-index l.added)
