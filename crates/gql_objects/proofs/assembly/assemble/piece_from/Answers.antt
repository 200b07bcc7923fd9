use Rattle.std.proofs.lemmas.Result.{IfOk-weaker}
use Rattle.gql_place.proofs.PieceLemmas.{place_same, same_trans}
use Rattle.gql_objects.proofs.assembly.assemble.piece_from.Goals as goal

pub returns : goal.returns
returns g c =
    let filled = c.args.filled in
    IfOk-weaker c.new.result _ _
    (λ piece same apart. same_trans filled.whole _ _ _ same
    (place_same filled.whole filled.pos filled.non_null filled.added filled.headers c.in_ok-tree.tree _ (c.in_ok-tree.ensures apart)))
    c.new.ensures
