use Rattle.gql_collect.specs.Basis.{execution_of}
use Rattle.gql_collect.specs.DeclaredFields.{AreDeclared}
use Rattle.gql_collect.proofs.declared_fields.are_declared.Given as goal

abbrev pub invariant-loop-place : goal.invariant-loop-place
invariant-loop-place l = AreDeclared (execution_of l.basis) l.object l.fields l.place
