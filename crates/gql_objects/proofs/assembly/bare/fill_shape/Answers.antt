use Rattle.std.proofs.Common.{map, subst}
use Rattle.std.proofs.lemmas.Result.{IfOk-weaker}
use Rattle.gql_place.specs.Alike.{Paired, SameMembers}
use Rattle.gql_place.specs.Pieces.{members_in, place_in}
use Rattle.gql_place.proofs.PieceLemmas.{tree_trans}
use Rattle.gql_objects.specs.Assembly.{AreApart, members_each}
use Rattle.gql_complete.specs.FillShape.{tree_with}
use Rattle.gql_objects.specs.Parents.{standing_behind}
use Rattle.gql_objects.specs.PlaceStore.{present}
use Rattle.gql_objects.proofs.SeenLemmas.{tree_with_same}
use Rattle.gql_objects.proofs.assembly.bare.fill_shape.Goals as goal

pub returns : goal.returns
returns g c = λ apart.
    let whole = c.args.whole in
    let own = map place_in (present c.args.own.now.items) in
    let made = map members_in c.in_ok-members.members.items in
    let due = members_each (map standing_behind c.args.parents.items) own in
    let each = subst (λ ps. AreApart whole (map standing_behind ps)
    → Paired (SameMembers whole) made (members_each (map standing_behind ps) own))
    c.as_slice.ensures.value c.in_ok-members.ensures apart in
    IfOk-weaker c.fill.result _ _
    (λ tree same. tree_trans whole tree (tree_with c.args.pos c.args.shape made) (tree_with c.args.pos c.args.shape due) same
    (tree_with_same whole c.args.pos c.args.shape made due each))
    c.fill.ensures.tree
