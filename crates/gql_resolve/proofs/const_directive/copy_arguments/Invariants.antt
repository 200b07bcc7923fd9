use Rattle.std.specs.Prelude.{◌≡◌, ◌++◌, drop}
use Rattle.gql_resolve.proofs.const_directive.copy_arguments.Given as goal

abbrev pub invariant-loop-item : goal.invariant-loop-item
invariant-loop-item l = l.copies ++ drop l.item-index l.arguments ≡ l.arguments
