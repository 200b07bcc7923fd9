use Rattle.std.proofs.Common.{◌≡◌, take}
use Rattle.gql_resolve.specs.Variables.{known_in}
use Rattle.gql_select.specs.Constants.{constants}
use Rattle.gql_collect.specs.CoerceArguments.{declared_of}
use Rattle.gql_collect.proofs.coerce_arguments.argument_values.Given as goal

abbrev pub invariant-loop-place : goal.invariant-loop-place
invariant-loop-place l = l.values ≡ constants (known_in l.env) (declared_of (take l.place l.declared)) l.written
