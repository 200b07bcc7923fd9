use Rattle.std.proofs.Common.{take}
use Rattle.gql_select.specs.Given.{IsIndex}
use Rattle.gql_select.proofs.given.index_of.Given as goal

abbrev pub invariant-loop-argument : goal.invariant-loop-argument
invariant-loop-argument l = IsIndex (take l.argument-index l.arguments) l.index
