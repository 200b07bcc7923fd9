use Rattle.std.specs.Prelude.{◌≡◌, ◌++◌, drop}
use Rattle.gql_resolve.specs.SelectionField.{directives_in, ok_map}
use Rattle.gql_resolve.proofs.constants.directives_of.Given as goal

abbrev pub invariant-loop-directive : goal.invariant-loop-directive
invariant-loop-directive l = ok_map (λ rest. l.all ++ rest) (directives_in l.env (drop l.directive-index l.written)) ≡ directives_in l.env l.written
