use Rattle.std.proofs.Common.{arith, List, ℕ, ap, sym, ◌++◌, ◌∙◌}
use Rattle.std.proofs.lemmas.List.{take_all}
use Rattle.std.specs.List.{flat_map}
use Rattle.std.specs.Option.{option_map}
use Rattle.gql_doc.specs.declared.document.DocValue.{DocValue}
use Rattle.gql_fields.specs.Walk.{terms_in}
use Rattle.gql_fields.specs.declared.breach.Breach.{Breach}
use Rattle.gql_fields.proofs.ToldLemmas.{flat_of_map, flat_step}
use Rattle.gql_rules.specs.ValuePlace.{value_place_behind}
use Rattle.gql_rules.specs.VariableUses.{TellsIn, member_place, told_in_member, told_in_value}
use Rattle.gql_rules.proofs.variable_uses.+uses.Goals as goal

pub tell_in_items-returns : goal.tell_in_items-returns
tell_in_items-returns t c =
    let tells = told_in_value (terms_in c.args.inside.now.against.now).table c.args.inside.now.defined.now c.args.inside.now.argument.now in
    let place = option_map value_place_behind c.args.place in
    c.loop-value.invariant
    ∙ ap (λ (vs : List DocValue). c.args.found.now ++ flat_map (λ (value : DocValue). tells value place) vs)
    (take_all c.loop-value.value-index c.args.items.now (omega arith))
    ∙ ap (λ (told : List Breach). c.args.found.now ++ told) (sym (flat_of_map (λ (inner : TellsIn). inner place) tells c.args.items.now))

pub tell_in_members-loop-at-preserved : goal.tell_in_members-loop-at-preserved
tell_in_members-loop-at-preserved t c =
    let table = (terms_in c.args.inside.now.against.now).table in
    let definitions = c.args.inside.now.defined.now in
    let argument = c.args.inside.now.argument.now in
    let place = option_map value_place_behind c.args.place in
    let name = c.at.result.0.now in
    let value = c.at.result.1.now in
    flat_step (λ (member : List ℕ × DocValue). told_in_value table definitions argument member.1 (member_place table member.0 place))
    c.args.members.now c.loop-at.at (name, value) c.args.found.now c.loop-at.found c.tell_in_value.new.found c.at.ensures c.loop-at.invariant
    (c.in_ok-tell_in_value.ensures ∙ ap (λ p. c.loop-at.found ++ told_in_value table definitions argument value p) c.member_place-inner.ensures)

pub tell_in_members-returns : goal.tell_in_members-returns
tell_in_members-returns t c =
    let table = (terms_in c.args.inside.now.against.now).table in
    let definitions = c.args.inside.now.defined.now in
    let argument = c.args.inside.now.argument.now in
    let place = option_map value_place_behind c.args.place in
    c.loop-at.invariant
    ∙ ap (λ (ms : List (List ℕ × DocValue)). c.args.found.now
    ++ flat_map (λ (member : List ℕ × DocValue). told_in_value table definitions argument member.1 (member_place table member.0 place)) ms)
    (take_all c.loop-at.at c.args.members.now (omega arith))
    ∙ ap (λ (told : List Breach). c.args.found.now ++ told)
    (sym (flat_of_map (λ (member : List ℕ × TellsIn). member.1 (member_place table member.0 place)) (told_in_member table definitions argument) c.args.members.now))
