use Rattle.std.proofs.Common.{◌≡◌, ap, false, map, subst, ◌∙◌}
use Rattle.std.proofs.lemmas.Result.{IfOk-weaker}
use Rattle.gql_base.specs.Pairs.{HasDistinctNames}
use Rattle.gql_place.specs.Alike.{SameMembers}
use Rattle.gql_place.specs.Pieces.{members_in, place_in}
use Rattle.gql_place.proofs.PieceLemmas.{same_trans}
use Rattle.gql_objects.specs.Members.{members_with}
use Rattle.gql_collect.specs.Levels.{members_of}
use Rattle.gql_objects.specs.PlaceStore.{present}
use Rattle.gql_collect.specs.declared.level.Level.{Level}
use Rattle.gql_objects.specs.declared.parent.Parent.{Parent}
use Rattle.gql_engine.proofs.QueryLemmas.{root_same}
use Rattle.gql_engine.proofs.execute_query.root_piece.Goals as goal

pub returns : goal.returns
returns g c = λ apart.
    let level : c.as_ref.result.now ≡ c.args.root.now.value.level.value
    = c.as_ref.ensures ∙ ap (λ (p : Parent g.row.V.Denot). p.level.value) c.deref.ensures in
    let own = map place_in (present c.args.own.now.items) in
    let made = members_in c.in_ok-members.members in
    let same = subst (λ (l : Level). (c.args.whole ≡ false → HasDistinctNames (members_of l)) → SameMembers c.args.whole made (members_with l.object (members_of l) own)) level
    c.in_ok-members.ensures.members apart.0 in
    IfOk-weaker c.root_with.result _ _ (λ piece is. same_trans c.args.whole (place_in piece) _ _ is (root_same c.args.whole c.args.pos _ _ same)) c.root_with.ensures
