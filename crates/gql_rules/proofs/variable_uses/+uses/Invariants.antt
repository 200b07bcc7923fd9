use Rattle.std.proofs.Common.{◌≡◌, ◌++◌, take}
use Rattle.std.specs.List.{flat_map}
use Rattle.std.specs.Option.{option_map}
use Rattle.gql_fields.specs.Walk.{terms_in}
use Rattle.gql_rules.specs.ValuePlace.{value_place_behind}
use Rattle.gql_rules.specs.VariableUses.{member_place, told_in_value}
use Rattle.gql_rules.proofs.variable_uses.+uses.Given as goal

abbrev pub invariant-tell_in_items-loop-value : goal.invariant-tell_in_items-loop-value
invariant-tell_in_items-loop-value l =
    l.found
    ≡ l.initial.found
    ++ flat_map (λ value. told_in_value (terms_in l.inside.against.now).table l.inside.defined.now l.inside.argument.now value (option_map value_place_behind l.place))
    (take l.value-index l.items)

abbrev pub invariant-tell_in_members-loop-at : goal.invariant-tell_in_members-loop-at
invariant-tell_in_members-loop-at l =
    l.found
    ≡ l.initial.found
    ++ flat_map
    (λ member. told_in_value (terms_in l.inside.against.now).table l.inside.defined.now l.inside.argument.now member.1
    (member_place (terms_in l.inside.against.now).table member.0 (option_map value_place_behind l.place)))
    (take l.at l.members)
