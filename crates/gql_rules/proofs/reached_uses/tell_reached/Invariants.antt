use Rattle.std.proofs.Common.{◌≡◌, ◌++◌, map, take}
use Rattle.std.specs.List.{flat_map}
use Rattle.gql_fields.specs.Walk.{terms_in}
use Rattle.gql_fields.specs.UsePlaceViews.{shown}
use Rattle.gql_rules.specs.ReachedUses.{uses_told_in}
use Rattle.gql_rules.proofs.reached_uses.tell_reached.Given as goal

abbrev pub invariant-loop-at : goal.invariant-loop-at
invariant-loop-at l =
    l.found
    ≡ l.initial.found
    ++ flat_map (uses_told_in l.against.built.now (terms_in l.against) l.defined (map shown l.places)) (take l.at-index l.reached)
