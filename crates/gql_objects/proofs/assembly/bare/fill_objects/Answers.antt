use Rattle.std.proofs.Common.{◌≡◌, ◌+◌, [], arith, map, refl, suc}
use Rattle.gql_place.specs.Pieces.{place_in, places_in}
use Rattle.gql_objects.specs.Assembly.{members_each}
use Rattle.gql_objects.specs.Parents.{standing_behind}
use Rattle.gql_objects.specs.PlaceStore.{present}
use Rattle.gql_objects.proofs.BareLemmas.{going_first, going_on}
use Rattle.gql_complete.proofs.FillLemmas.{filled_all}
use Rattle.gql_objects.proofs.assembly.bare.fill_objects.Goals as goal

pub loop-object-init : goal.loop-object-init
loop-object-init g c = λ left is apart.
    let whole : left ≡ c.args.list.count = omega (arith, is) in
    going_first c.args.list.pos c.args.list.non_null c.args.list.whole left c.args.list.count (places_in c.in_ok-pieces.pieces)
    (map standing_behind c.args.parents.now.items)
    (map place_in (present c.args.own.now.items)) whole c.in_ok-pieces.ensures apart

pub loop-object-preserved : goal.loop-object-preserved
loop-object-preserved g c = λ left is apart.
    let more : c.loop-object._object + suc left ≡ c.args.list.count = omega (arith, is) in
    going_on c.args.list.pos c.args.list.non_null c.args.list.whole left (places_in c.loop-object.pieces) (places_in c.push.new.self) _
    (map standing_behind c.loop-object.parents.items) (map standing_behind c.next_object.new.parents.items)
    (map place_in (present c.loop-object.own.items)) (map place_in (present c.next_object.new.own.items)) c.in_ok-tree.tree
    (place_in c.in_ok-piece.piece) c.in_ok-tree.ensures.tree c.in_ok-tree.ensures.left c.next_object.ensures.apart c.in_ok-piece.ensures
    c.in_ok-push.ensures.ok (c.loop-object.invariant (suc left) more apart)

pub returns : goal.returns
returns g c = λ apart.
    let all : c.loop-object._object + 0 ≡ c.args.list.count = omega (arith, c.loop-object-test.false, c.loop-object.auto._object-end) in
    filled_all c.args.list.pos c.args.list.non_null c.args.list.whole (places_in c.loop-object.pieces) _ []
    (members_each (map standing_behind c.loop-object.parents.items) (map place_in (present c.loop-object.own.items)))
    refl (c.loop-object.invariant 0 all apart).places_are
