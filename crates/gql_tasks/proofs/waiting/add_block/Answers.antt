use Rattle.std.proofs.Common.{◌≡◌, ◌<◌, ◌-◌, [], ℕ, List, suc, length, deque_len, refl, sym, ◌∙◌, arith, append-nil}
use Rattle.std.proofs.lemmas.Option.{slice_get_read}
use Rattle.std.proofs.lemmas.Result.{err_from_is_err_and}
use Rattle.gql_tasks.specs.Waiting.{all_in, numbers_between}
use Rattle.gql_tasks.proofs.BlockLemmas.{last-grows}
use Rattle.gql_tasks.proofs.waiting.add_block.Goals as goal

pub returns-in_err-fill-in-Some-clause-same : goal.returns-in_err-fill-in-Some-clause-same
returns-in_err-fill-in-Some-clause-same c =
    let bs = c.args.blocks.now.items in
    let last = deque_len c.args.blocks.now - 1 in
    let block = c.in-Some.block.now in
    let some : 0 < deque_len c.args.blocks.now = c.in-Some.ensures.variant.0 refl in
    let size : length bs ≡ suc last = omega (arith, some, c.args.blocks.now.ok.0) in
    let is = slice_get_read bs (length bs) last block refl (omega (arith, size)) c.in-Some.ensures.value in
    let p = err_from_is_err_and c.from_residual.result c.from_residual.ensures.1 in
    rw p.1 (last-grows bs last block c.fill.new.block [] size is (◌∙◌ {A = List ℕ} c.in_err-fill-in-Some.ensures.same (sym (append-nil block.items))) ∙ append-nil (all_in bs))

pub returns-in_ok-fill-in-Some-clause-added : goal.returns-in_ok-fill-in-Some-clause-added
returns-in_ok-fill-in-Some-clause-added c =
    let bs = c.args.blocks.now.items in
    let last = deque_len c.args.blocks.now - 1 in
    let block = c.in-Some.block.now in
    let some : 0 < deque_len c.args.blocks.now = c.in-Some.ensures.variant.0 refl in
    let size : length bs ≡ suc last = omega (arith, some, c.args.blocks.now.ok.0) in
    let is = slice_get_read bs (length bs) last block refl (omega (arith, size)) c.in-Some.ensures.value in
    last-grows bs last block c.fill.new.block (numbers_between c.args.next c.stop_of-stop.result) size is c.in_ok-fill-in-Some.ensures.added
