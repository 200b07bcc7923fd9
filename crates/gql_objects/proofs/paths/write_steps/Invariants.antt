use Rattle.gql_objects.proofs.PathLemmas.{IsWritten}
use Rattle.gql_objects.proofs.paths.write_steps.Given as goal

abbrev pub invariant-loop-place : goal.invariant-loop-place
invariant-loop-place l = IsWritten l.steps l.place l.initial.path.items l.path.items
