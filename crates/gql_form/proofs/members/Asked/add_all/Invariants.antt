use Rattle.std.proofs.Common.{◌≡◌, map, drop}
use Rattle.gql_form.specs.Asked.{asked_after}
use Rattle.gql_form.proofs.members.Asked.add_all.Given as goal

abbrev pub invariant-loop-name : goal.invariant-loop-name
invariant-loop-name l =
    asked_after l.initial.self (map (λ n. n.now) l.names) ≡ asked_after l.self (map (λ n. n.now) (drop l.name-index l.names))
