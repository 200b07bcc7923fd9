use Rattle.std.proofs.Common.{ℕ, List, length, refl, ap, ◌∙◌, arith}
use Rattle.std.proofs.lemmas.Option.{slice_get_read}
use Rattle.gql_ws.specs.Found.{placed}
use Rattle.gql_ws.proofs.NumberLemmas.{placed_next}
use Rattle.gql_ws.proofs.lives.copy_lives.Goals as goal

pub loop-start-preserved : goal.loop-start-preserved
loop-start-preserved c =
    let live = c.args.list.now in
    let start = c.start-item.result in
    let at = slice_get_read live (length live) c.loop-start.start-index start refl (omega arith) c.start-item.is in
    c.in_ok-place.ensures.ok
    ∙ (ap (λ (id : List ℕ). placed id start.number c.loop-start.copy) c.in_ok-try_clone.ensures
    ∙ (ap (placed start.id start.number) c.loop-start.invariant ∙ placed_next live c.loop-start.start-index start c.requires at))
