use Rattle.std.proofs.Common.{◌≡◌, ap, false, map, subst, sym, ◌∙◌}
use Rattle.std.proofs.lemmas.Result.{IfOk-weaker}
use Rattle.gql_base.specs.Pairs.{HasDistinctNames}
use Rattle.gql_complete.proofs.FillLemmas.{on_ok}
use Rattle.gql_place.specs.Alike.{SameMembers}
use Rattle.gql_place.specs.Pieces.{members_in, place_in}
use Rattle.gql_place.proofs.PieceLemmas.{object_same, tree_trans}
use Rattle.gql_objects.specs.Members.{members_with, places_behind_all}
use Rattle.gql_collect.specs.Levels.{asked_behind, members_of}
use Rattle.gql_objects.specs.PlaceStore.{present}
use Rattle.gql_collect.specs.declared.level.Level.{Level}
use Rattle.gql_objects.specs.declared.parent.Parent.{Parent}
use Rattle.gql_collect.proofs.LevelLemmas.{members_values}
use Rattle.gql_place.specs.declared.place.Tree.TheVariants as tree
use Rattle.gql_objects.proofs.assembly.bare.object_of.Goals as goal

pub returns-clause-tree : goal.returns-clause-tree
returns-clause-tree g c = λ distinct.
    let level : c.as_ref.result.now ≡ c.args.parent.value.level.value
    = c.as_ref.ensures ∙ ap (λ (p : Parent g.row.V.Denot). p.level.value) c.deref.ensures in
    let own = map place_in (present c.args.own.now.items) in
    let made = members_in c.in_ok-members.field-0 in
    let here = c.args.parent.value.level.value in
    let due = members_with here.object (members_of here) own in
    let same = subst (λ (l : Level). (c.args.whole ≡ false → HasDistinctNames (members_of l))
    → SameMembers c.args.whole made (members_with l.object (members_of l) own)) level
    c.in_ok-members.ensures.members distinct in
    IfOk-weaker c.into_object.result _ _ (λ one is. tree_trans c.args.whole one (tree.Object made) (tree.Object due) is
    (object_same c.args.whole made due same)) c.into_object.ensures

pub returns-clause-left : goal.returns-clause-left
returns-clause-left g c =
    let level : c.as_ref.result.now ≡ c.args.parent.value.level.value
    = c.as_ref.ensures ∙ ap (λ (p : Parent g.row.V.Denot). p.level.value) c.deref.ensures in
    let own = map place_in (present c.args.own.now.items) in
    on_ok c.into_object.result _
    (c.in_ok-members.ensures.left
    ∙ ap (λ (l : Level). places_behind_all (map asked_behind l.nodes.items) own) level
    ∙ ap (λ fs. places_behind_all fs own) (sym (members_values c.args.parent.value.level.value)))
