use Rattle.std.proofs.Common.{◌≡◌, true, take}
use Rattle.std.specs.List.{list_all}
use Rattle.gql_select.specs.Given.{argument_same}
use Rattle.gql_select.proofs.alike.written_same.Given as goal

abbrev pub invariant-loop-argument : goal.invariant-loop-argument
invariant-loop-argument l = list_all (argument_same l.one l.other) (take l.argument-index l.some) ≡ true
