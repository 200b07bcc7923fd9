use Rattle.std.proofs.Common.{◌≡◌, ℕ, List, true, take}
use Rattle.std.specs.List.{list_all}
use Rattle.gql_base.specs.Pairs.{under}
use Rattle.gql_schema.specs.Faults.{has_same_type}
use Rattle.gql_schema.specs.declared.input_value.InputValue.{InputValue}
use Rattle.gql_schema.proofs.promises.has_promised.Given as goal

abbrev pub invariant-loop-place : goal.invariant-loop-place
invariant-loop-place l = list_all (λ (p : List ℕ × InputValue). has_same_type p.1 (under p.0 l.arguments)) (take l.place l.promised) ≡ true
