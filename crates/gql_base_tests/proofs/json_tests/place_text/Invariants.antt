use Rattle.std.proofs.Common.{length}
use Rattle.gql_base_tests.proofs.json_tests.place_text.Given as goal

abbrev pub decreases-loop-step : goal.decreases-loop-step
decreases-loop-step l = length l.place
