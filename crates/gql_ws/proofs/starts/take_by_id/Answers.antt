use Rattle.std.proofs.Common.{rules, ap, ◌∙◌}
use Rattle.std.specs.Prelude.{None}
use Rattle.std.proofs.lemmas.Map.Text.{btree_map_updates_text}
use Rattle.gql_ws.specs.Found.{has_id, place_in}
use Rattle.gql_ws.proofs.FoundLemmas.{taken_rest}
use Rattle.gql_ws.proofs.NumberLemmas.{numbers_without, single_taken}
use Rattle.gql_ws.proofs.starts.take_by_id.Goals as goal

pub returns-clause-numbers : goal.returns-clause-numbers
returns-clause-numbers c =
    let live = c.args.list.now.items in
    let id = c.args.id.now in
    let at = c.place_of_id-place.ensures ∙ ap (place_in (has_id id)) c.as_slice.ensures.value in
    let removed = c.remove-number.ensures.updates in
    numbers_without c.args.numbers.now c.remove-number.new.self live _ id c.requires.numbers c.requires.single
    (btree_map_updates_text id c.args.numbers.now c.remove-number.new.self None (Prim.search (rules, removed)))
    (taken_rest (has_id id) live _ _ at c.take_at-start.ensures.rest)

pub returns-clause-single : goal.returns-clause-single
returns-clause-single c =
    let live = c.args.list.now.items in
    let test = has_id c.args.id.now in
    let at = c.place_of_id-place.ensures ∙ ap (place_in test) c.as_slice.ensures.value in
    single_taken test live _ c.requires.single (taken_rest test live _ _ at c.take_at-start.ensures.rest)
