use Rattle.std.proofs.Common.{◌≡◌, true, take}
use Rattle.gql_fields.specs.UsePlaces.{are_constant}
use Rattle.gql_fields.proofs.constants.are_constant.Given as goal

abbrev pub invariant-loop-argument : goal.invariant-loop-argument
invariant-loop-argument l = are_constant (take l.argument-index l.arguments) ≡ true
