use Rattle.std.proofs.Common.{◌≡◌, take}
use Rattle.gql_rules.specs.Reaching.{Marks, with_numbers}
use Rattle.gql_rules.proofs.reaching.add_all.Given as goal

abbrev pub invariant-loop-place : goal.invariant-loop-place
invariant-loop-place l = (l.reached ≡ with_numbers l.initial.reached (take l.place-index l.places)) × Marks l.marks l.reached
