use Rattle.std.proofs.Common.{length, slice_set, deque_len, refl, sym, ◌∙◌, ap, arith}
use Rattle.std.proofs.lemmas.List.{length-set}
use Rattle.std.proofs.lemmas.Option.{slice_get_read}
use Rattle.gql_tasks.specs.Waiting.{all_in}
use Rattle.gql_tasks.proofs.BlockLemmas.{remove-spot, drop-first, no-items, is-zero}
use Rattle.gql_tasks.proofs.waiting.take_out.Goals as goal

pub take_from-requires : goal.take_from-requires
take_from-requires c =
    let bs = c.args.blocks.now.items in
    let block = c.index_mut.result.now in
    c.requires.within block (slice_get_read bs (length bs) c.args.spot.block block refl c.requires.there c.index_mut.ensures.value)

pub returns-else-is_empty : goal.returns-else-is_empty
returns-else-is_empty c =
    let bs = c.args.blocks.now.items in
    let block = c.index_mut.result.now in
    let is = slice_get_read bs (length bs) c.args.spot.block block refl c.requires.there c.index_mut.ensures.value in
    remove-spot bs c.args.place c.args.spot.block c.args.spot.index block c.take_from.new.block is c.requires c.take_from.ensures

pub returns-then-is_empty : goal.returns-then-is_empty
returns-then-is_empty c =
    let bs = c.args.blocks.now.items in
    let block = c.index_mut.result.now in
    let is = slice_get_read bs (length bs) c.args.spot.block block refl c.requires.there c.index_mut.ensures.value in
    let others = slice_set bs c.args.spot.block c.take_from.new.block in
    let first = c.index.result.now in
    let none = no-items first.items (sym first.ok.0 ∙ is-zero (deque_len first) c.if-is_empty.ensures) in
    let stands = slice_get_read others (length others) 0 first refl (omega (arith, c.requires.there, length-set bs c.args.spot.block c.take_from.new.block)) c.index.ensures in
    ap all_in c.pop_front.ensures.rest ∙ drop-first others first stands none
    ∙ remove-spot bs c.args.place c.args.spot.block c.args.spot.index block c.take_from.new.block is c.requires c.take_from.ensures
