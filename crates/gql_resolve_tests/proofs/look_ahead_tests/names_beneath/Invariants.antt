use Rattle.std.specs.Prelude.{length}
use Rattle.gql_resolve.specs.SelectionFields.{fields_left}
use Rattle.gql_resolve_tests.proofs.look_ahead_tests.names_beneath.Given as goal

abbrev pub decreases-loop-beneath : goal.decreases-loop-beneath
decreases-loop-beneath l = length (fields_left l.beneath)
