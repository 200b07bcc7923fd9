use Rattle.std.proofs.Common.{◌≡◌, ◌++◌, string_bytes, length}
use Rattle.gql_form.specs.Place.{steps_text}
use Rattle.gql_form.proofs.place.push_steps.Given as goal

abbrev pub invariant-loop-step : goal.invariant-loop-step
invariant-loop-step l =
    string_bytes l.out ++ steps_text l.place ≡ string_bytes l.initial.out ++ steps_text l.initial.place

abbrev pub decreases-loop-step : goal.decreases-loop-step
decreases-loop-step l = length l.place
