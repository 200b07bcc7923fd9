use Rattle.std.proofs.Common.{◌≡◌, ◌-◌, refl, ◌∙◌}
use Rattle.std.specs.Vec.{vec_items}
use Rattle.std.proofs.lemmas.Iterator.{items_from_collect, YieldsList-from_range}
use Rattle.std.proofs.lemmas.Result.{IfOk-at_ok}
use Rattle.gql_tasks.specs.Waiting.{numbers_between}
use Rattle.gql_tasks.proofs.waiting.block_of.Goals as goal

pub returns : goal.returns
returns c =
    let next = c.args.next in
    let stop = c.args.stop in
    c.from_vec.ensures.items
    ∙ IfOk-at_ok (λ v. vec_items v ≡ numbers_between next stop) c.in_ok-numbers.was
    (items_from_collect c.collect.result c.collect.ensures.ran (YieldsList-from_range next stop (stop - next) refl refl))
