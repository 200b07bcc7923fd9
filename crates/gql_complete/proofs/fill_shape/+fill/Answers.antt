use Rattle.std.proofs.Common.{ap, map, subst, sym, ◌∙◌}
use Rattle.std.proofs.lemmas.Result.{IfOk-weaker}
use Rattle.std.specs.Vec.Iter.{into_iter_items}
use Rattle.gql_place.specs.Alike.{SameTree}
use Rattle.gql_place.specs.Pieces.{members_in, place_in, places_in}
use Rattle.gql_complete.specs.FillShape.{left_after, tree_with}
use Rattle.gql_complete.proofs.FillLemmas.{filled_more, left_list, left_more, list_made, on_ok}
use Rattle.gql_complete.proofs.fill_shape.+fill.Goals as goal

pub fill-returns-in_ok-items-in-List-clause-tree : goal.fill-returns-in_ok-items-in-List-clause-tree
fill-returns-in_ok-items-in-List-clause-tree t c =
    let members = map members_in c.args.members.now.items in
    IfOk-weaker c.into_list.result _ _
    (λ made listed. subst (λ s. SameTree c.args.whole made (tree_with c.args.pos s members)) (sym c.in-List.is)
    (list_made c.args.pos c.in-List.non_null c.args.whole c.in-List.items members (places_in c.in_ok-items-in-List.items) made listed c.in_ok-items-in-List.ensures.places))
    c.into_list.ensures

pub fill-returns-in_ok-items-in-List-clause-left : goal.fill-returns-in_ok-items-in-List-clause-left
fill-returns-in_ok-items-in-List-clause-left t c =
    on_ok c.into_list.result _
    (c.in_ok-items-in-List.ensures.left
    ∙ left_list c.args.pos c.in-List.non_null c.in-List.items (map members_in c.args.members.now.items)
    ∙ ap (λ s. left_after c.args.pos s (map members_in c.args.members.now.items)) (sym c.in-List.is))

pub fill_items-loop-item-preserved : goal.fill_items-loop-item-preserved
fill_items-loop-item-preserved t c =
    let before = map members_in c.loop-item.members.items in
    let behind = map members_in c.fill.new.members.items in
    let its = into_iter_items c.loop-item.item-iterator in
    let rest = into_iter_items c.next.new.self in record {
      places = filled_more c.args.pos c.args.non_null c.args.whole (places_in c.loop-item.pieces) (places_in c.push.new.self) _ its rest c.in-Some.item before behind c.in_ok-tree.tree
          (place_in c.in_ok-item_piece.field-0) c.in-Some.ensures.steps.0 c.in_ok-tree.ensures.tree c.in_ok-tree.ensures.left c.in_ok-item_piece.ensures
          c.in_ok-push.ensures.ok c.loop-item.invariant.places;
      left = left_more c.args.pos _ its rest c.in-Some.item before behind c.in-Some.ensures.steps.0 c.in_ok-tree.ensures.left c.loop-item.invariant.left;
    }
