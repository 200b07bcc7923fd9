use Rattle.std.proofs.Common.{◌≡◌, ◌++◌, take}
use Rattle.std.specs.List.{flat_map}
use Rattle.gql_fields.specs.Walk.{terms_in}
use Rattle.gql_fields.specs.UsePlaceViews.{place_behind}
use Rattle.gql_rules.specs.VariableUses.{uses_told_at}
use Rattle.gql_rules.proofs.variable_uses.tell_uses.Given as goal

abbrev pub invariant-loop-place : goal.invariant-loop-place
invariant-loop-place l =
    l.found
    ≡ l.initial.found ++ flat_map (λ p. uses_told_at l.against.built.now (terms_in l.against) l.defined (place_behind p)) (take l.place-index l.places)
