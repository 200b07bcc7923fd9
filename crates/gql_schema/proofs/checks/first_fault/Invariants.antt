use Rattle.gql_schema.specs.Sound.{AreFaultFree}
use Rattle.gql_schema.specs.Table.{types_of}
use Rattle.gql_schema.proofs.checks.first_fault.Given as goal

abbrev pub invariant-loop-place : goal.invariant-loop-place
invariant-loop-place l = AreFaultFree (types_of l.types) l.place
