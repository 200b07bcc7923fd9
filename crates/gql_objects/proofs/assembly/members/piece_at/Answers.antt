use Rattle.std.proofs.Common.{map, subst, sym, ◌∙◌}
use Rattle.std.proofs.lemmas.Result.{IfOk-weaker}
use Rattle.gql_place.specs.Alike.{Same}
use Rattle.gql_place.specs.Pieces.{place_in}
use Rattle.gql_place.proofs.PieceLemmas.{same_of}
use Rattle.gql_select.specs.Behind.{all_behind}
use Rattle.gql_objects.specs.Members.{place_of}
use Rattle.gql_objects.specs.PlaceStore.{present}
use Rattle.gql_collect.proofs.LevelLemmas.{pos_with_others}
use Rattle.gql_objects.proofs.assembly.members.piece_at.Goals as goal

pub returns-in_ok-place_name-in-Typename-clause-piece : goal.returns-in_ok-place_name-in-Typename-clause-piece
returns-in_ok-place_name-in-Typename-clause-piece c =
    let pos = pos_with_others c.args.node.now.group.first.now (all_behind c.args.node.now.group.more.items) in
    let own = map place_in (present c.args.places.now.items) in
    IfOk-weaker c.new.result _ _
    (λ piece. subst (Same c.args.whole (place_in piece))
    (c.in_ok-place_name-in-Typename.ensures ∙ (λ i. place_of c.args.object.now (sym pos i) (sym c.in-Typename.is i) own))) c.new.ensures

pub returns-in-Nothing-clause-piece : goal.returns-in-Nothing-clause-piece
returns-in-Nothing-clause-piece c =
    let pos = pos_with_others c.args.node.now.group.first.now (all_behind c.args.node.now.group.more.items) in
    let own = map place_in (present c.args.places.now.items) in
    IfOk-weaker c.new-in-Nothing.result _ _
    (λ piece. subst (Same c.args.whole (place_in piece))
    (c.place_nothing.ensures ∙ (λ i. place_of c.args.object.now (sym pos i) (sym c.in-Nothing.is i) own))) c.new-in-Nothing.ensures

pub returns-in-Call-clause-piece : goal.returns-in-Call-clause-piece
returns-in-Call-clause-piece c =
    let pos = pos_with_others c.args.node.now.group.first.now (all_behind c.args.node.now.group.more.items) in
    let own = map place_in (present c.args.places.now.items) in
    IfOk-weaker c.next_piece.result _ _
    (λ piece is. same_of c.args.whole (place_in piece) _ (is ∙ (λ i. place_of c.args.object.now (sym pos i) (sym c.in-Call.is i) own)))
    c.next_piece.ensures.first
