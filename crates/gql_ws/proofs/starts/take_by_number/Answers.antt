use Rattle.std.proofs.Common.{rules, sym, ap, ◌∙◌}
use Rattle.std.specs.Prelude.{None}
use Rattle.std.proofs.lemmas.Map.Text.{btree_map_updates_text}
use Rattle.gql_ws.specs.Found.{has_number, place_in}
use Rattle.gql_ws.proofs.FoundLemmas.{taken_found, taken_rest}
use Rattle.gql_ws.proofs.NumberLemmas.{numbers_found, numbers_kept, single_taken}
use Rattle.gql_ws.proofs.starts.take_by_number.Goals as goal

pub returns-in-None-clause-numbers : goal.returns-in-None-clause-numbers
returns-in-None-clause-numbers c =
    let live = c.args.list.now.items in
    let test = has_number c.args.number in
    let at = c.place_of_number-place.ensures ∙ ap (place_in test) c.as_slice.ensures.value in
    numbers_kept c.args.numbers.now test live _ c.requires.numbers
    (sym (taken_found test live _ _ at c.take_at.ensures.taken) ∙ c.in-None.is)
    (taken_rest test live _ _ at c.take_at.ensures.rest)

pub returns-in-None-clause-single : goal.returns-in-None-clause-single
returns-in-None-clause-single c =
    let live = c.args.list.now.items in
    let test = has_number c.args.number in
    let at = c.place_of_number-place.ensures ∙ ap (place_in test) c.as_slice.ensures.value in
    single_taken test live _ c.requires.single (taken_rest test live _ _ at c.take_at.ensures.rest)

pub returns-in-Some-clause-numbers : goal.returns-in-Some-clause-numbers
returns-in-Some-clause-numbers c =
    let live = c.args.list.now.items in
    let test = has_number c.args.number in
    let at = c.place_of_number-place.ensures ∙ ap (place_in test) c.as_slice.ensures.value in
    let removed = c.remove-number.ensures.updates in
    numbers_found c.args.numbers.now c.remove-number.new.self test live _ c.in-Some.start c.requires.numbers c.requires.single
    (sym (taken_found test live _ _ at c.take_at.ensures.taken) ∙ c.in-Some.is)
    (btree_map_updates_text c.in-Some.start.id c.args.numbers.now c.remove-number.new.self None (Prim.search (rules, removed)))
    (taken_rest test live _ _ at c.take_at.ensures.rest)

pub returns-in-Some-clause-single : goal.returns-in-Some-clause-single
returns-in-Some-clause-single c =
    let live = c.args.list.now.items in
    let test = has_number c.args.number in
    let at = c.place_of_number-place.ensures ∙ ap (place_in test) c.as_slice.ensures.value in
    single_taken test live _ c.requires.single (taken_rest test live _ _ at c.take_at.ensures.rest)
