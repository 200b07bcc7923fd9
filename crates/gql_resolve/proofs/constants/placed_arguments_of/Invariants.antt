use Rattle.std.specs.Prelude.{◌≡◌, ◌++◌, drop}
use Rattle.gql_resolve.specs.SelectionField.{ok_map, placed_arguments}
use Rattle.gql_resolve.proofs.constants.placed_arguments_of.Given as goal

abbrev pub invariant-loop-argument : goal.invariant-loop-argument
invariant-loop-argument l = ok_map (λ rest. l.all ++ rest) (placed_arguments l.env (drop l.argument-index l.written)) ≡ placed_arguments l.env l.written
