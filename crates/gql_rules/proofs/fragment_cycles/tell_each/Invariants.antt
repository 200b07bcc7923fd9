use Rattle.gql_rules.specs.Adds.{Adds}
use Rattle.gql_rules.proofs.CycleLemmas.{IsBefore}
use Rattle.gql_rules.proofs.fragment_cycles.tell_each.Given as goal

abbrev pub invariant-loop-place : goal.invariant-loop-place
invariant-loop-place l = Adds (IsBefore l.fragments l.place) l.initial.found l.found
