use Rattle.std.proofs.Common.{rules, sym, ap, ◌∙◌, subst}
use Rattle.std.specs.Prelude.{Some}
use Rattle.std.proofs.lemmas.Map.Text.{btree_map_updates_text}
use Rattle.gql_ws.specs.Found.{has_id, placed}
use Rattle.gql_ws.specs.Lives.{IsSingle}
use Rattle.gql_ws.proofs.NumberLemmas.{numbers_placed, single_placed}
use Rattle.gql_ws.proofs.starts.place_start.Goals as goal

pub returns-in-Ok-clause-numbers : goal.returns-in-Ok-clause-numbers
returns-in-Ok-clause-numbers c =
    numbers_placed c.args.numbers.now c.insert.new.self c.args.list.now.items _ c.args.id c.args.number c.requires.numbers
    (btree_map_updates_text c.args.id c.args.numbers.now c.insert.new.self (Some c.args.number)
    (Prim.search (rules, c.in-Ok.ensures.updates)))
    (c.put_start.ensures ∙ ap (placed c.args.id c.args.number) c.reserve.ensures.items)

pub returns-in-Ok-clause-single : goal.returns-in-Ok-clause-single
returns-in-Ok-clause-single c =
    single_placed c.args.list.now.items _ c.args.id c.args.number c.requires.single
    (c.put_start.ensures ∙ ap (placed c.args.id c.args.number) c.reserve.ensures.items)

pub returns-in_err-reserve-clause-single : goal.returns-in_err-reserve-clause-single
returns-in_err-reserve-clause-single c = λ i. subst (IsSingle (has_id i)) (sym c.reserve.ensures.items) (c.requires.single i)

pub returns-in-Err-clause-single : goal.returns-in-Err-clause-single
returns-in-Err-clause-single c = λ i. subst (IsSingle (has_id i)) (sym c.reserve.ensures.items) (c.requires.single i)
