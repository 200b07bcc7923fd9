use Rattle.std.proofs.Common.{◌≡◌, take}
use Rattle.gql_place.specs.Steps.{path_of}
use Rattle.gql_place.proofs.place_faults.copied_path.Given as goal

abbrev pub invariant-loop-step : goal.invariant-loop-step
invariant-loop-step l = l.copy ≡ path_of (take l.step-index l.path)
