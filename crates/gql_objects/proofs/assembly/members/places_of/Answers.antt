use Rattle.std.proofs.Common.{◌≡◌, ◌++◌, ap, map, refl, subst}
use Rattle.gql_place.specs.Alike.{Same}
use Rattle.gql_place.specs.Pieces.{place_in, places_in}
use Rattle.gql_place.proofs.PieceLemmas.{items_of}
use Rattle.gql_objects.specs.Members.{place_of, places_behind, places_with}
use Rattle.gql_collect.specs.Groups.{united}
use Rattle.gql_collect.specs.Levels.{asked_behind}
use Rattle.gql_objects.specs.PlaceStore.{present}
use Rattle.gql_collect.specs.declared.level.Node.{Node}
use Rattle.gql_objects.proofs.GatheredLemmas.{left_more, places_more}
use Rattle.gql_objects.proofs.assembly.members.places_of.Goals as goal

pub loop-node-init : goal.loop-node-init
loop-node-init c =
    let all = places_with c.args.object.now (map asked_behind c.args.nodes.now) (map place_in (present c.args.places.now.items)) in record {
      own = items_of c.args.whole (places_in c.in_ok-own.own ++ all) all (ap (λ ps. ps ++ all) c.in_ok-own.ensures);
      left = refl;
    }

pub loop-node-preserved : goal.loop-node-preserved
loop-node-preserved c =
    let own = map place_in (present c.loop-node.places.items) in
    let own' = map place_in (present c.piece_at.new.places.items) in
    let node = c.node-item.result in
    let is : c.as_ref.result.now ≡ node.value = c.as_ref.ensures in record {
      own = places_more c.args.whole c.args.object.now c.args.nodes.now c.loop-node.node-index node (places_in c.loop-node.own)
          (places_in c.push.new.self) _ own own'
          (place_in c.in_ok-piece.piece) c.loop-node-test.true c.node-item.is c.in_ok-push.ensures.ok
          (subst (λ (n : Node). Same c.args.whole (place_in c.in_ok-piece.piece)
          (place_of c.args.object.now (united n.group).pos n.asks own)) is c.in_ok-piece.ensures.piece)
          (subst (λ (n : Node). own' ≡ places_behind n.asks own) is c.in_ok-piece.ensures.left) c.loop-node.invariant.own;
      left = left_more c.args.nodes.now c.loop-node.node-index node _ own own' c.loop-node-test.true c.node-item.is
          (subst (λ (n : Node). own' ≡ places_behind n.asks own) is c.in_ok-piece.ensures.left) c.loop-node.invariant.left;
    }
