use Rattle.std.proofs.Common.{◌≡◌, ap, arith, drop, false, map, refl, subst, ◌∙◌}
use Rattle.std.proofs.lemmas.List.{drop_all}
use Rattle.gql_base.specs.Pairs.{HasDistinctNames}
use Rattle.gql_place.specs.Alike.{SameMembers}
use Rattle.gql_place.specs.Pieces.{members_in, place_in}
use Rattle.gql_objects.specs.Members.{members_with, places_behind_all}
use Rattle.gql_collect.specs.Levels.{asked_behind, members_of}
use Rattle.gql_objects.specs.Parents.{standing_behind}
use Rattle.gql_objects.specs.PlaceStore.{present}
use Rattle.gql_collect.specs.declared.level.Level.{Level}
use Rattle.gql_objects.specs.declared.parent.Parent.{Parent}
use Rattle.gql_objects.proofs.GatheredLemmas.{added_members, members_more, members_none, members_whole}
use Rattle.gql_objects.proofs.assembly.bare.all_members.Goals as goal

pub loop-parent-init : goal.loop-parent-init
loop-parent-init g c = λ apart.
    let own = map place_in (present c.args.own.now.items) in
    members_none c.args.whole (map standing_behind c.args.parents.now) (map members_in c.in_ok-members.members.items) _ own own
    (ap (map members_in) c.in_ok-members.ensures.items) refl refl

pub loop-parent-preserved : goal.loop-parent-preserved
loop-parent-preserved g c =
    let level : c.as_ref.result.now ≡ c.parent-item.result.value.level.value
    = c.as_ref.ensures ∙ ap (λ (p : Parent g.row.V.Denot). p.level.value) c.deref.ensures in
    let own = map place_in (present c.loop-parent.own.items) in
    let own' = map place_in (present c.members_at.new.places.items) in
    let m = members_in c.in_ok-members_at.field-0 in
    members_more c.args.whole c.args.parents.now c.loop-parent.parent-index c.parent-item.result
    (map members_in c.loop-parent.members.items) (map members_in c.push_back.new.self.items) _
    m own own' c.loop-parent-test.true c.parent-item.is
    (added_members c.loop-parent.members.items c.push_back.new.self.items c.in_ok-members_at.field-0 c.in_ok-push_back.ensures.items)
    (subst (λ (l : Level). (c.args.whole ≡ false → HasDistinctNames (members_of l))
    → SameMembers c.args.whole m (members_with l.object (members_of l) own)) level
    c.in_ok-members_at.ensures.members)
    (subst (λ (l : Level). own' ≡ places_behind_all (map asked_behind l.nodes.items) own) level c.in_ok-members_at.ensures.left)
    c.loop-parent.invariant

pub returns : goal.returns
returns g c = λ apart.
    members_whole c.args.whole (map standing_behind (drop c.loop-parent.parent-index c.args.parents.now))
    (map members_in c.loop-parent.members.items) _
    (map place_in (present c.loop-parent.own.items))
    (ap (map standing_behind) (drop_all c.loop-parent.parent-index c.args.parents.now (let t = c.loop-parent-test.false in omega arith)))
    (c.loop-parent.invariant apart)
