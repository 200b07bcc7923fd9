use Rattle.std.specs.Prelude.{◌≡◌, ◌++◌, drop}
use Rattle.gql_resolve.specs.SelectionField.{arguments_in, ok_map}
use Rattle.gql_resolve.proofs.constants.arguments_of.Given as goal

abbrev pub invariant-loop-argument : goal.invariant-loop-argument
invariant-loop-argument l = ok_map (λ rest. l.all ++ rest) (arguments_in l.env (drop l.argument-index l.written)) ≡ arguments_in l.env l.written
