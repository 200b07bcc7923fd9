use Rattle.std.proofs.Common.{length, ap, map, subst, ◌∙◌}
use Rattle.std.proofs.lemmas.Result.{IfOk-weaker}
use Rattle.gql_place.specs.Alike.{SameItems}
use Rattle.gql_place.specs.Pieces.{members_in, place_in, places_in}
use Rattle.gql_objects.specs.Members.{places_with}
use Rattle.gql_collect.specs.Levels.{asked_behind}
use Rattle.gql_objects.specs.PlaceStore.{present}
use Rattle.gql_objects.proofs.MembersLemmas.{nodes_long, places_long}
use Rattle.gql_objects.proofs.GatheredLemmas.{level_same, same_long}
use Rattle.gql_objects.proofs.assembly.members.members_at.Goals as goal

pub members_under-requires : goal.members_under-requires
members_under-requires c =
    same_long c.args.whole _ _ c.in_ok-own.ensures.own ∙ places_long _ _ _ ∙ nodes_long _ ∙ ap length c.as_slice.ensures.value
    ∙ c.args.level.now.paired

pub returns-clause-members : goal.returns-clause-members
returns-clause-members c = λ distinct.
    let level = c.args.level.now in
    let own = map place_in (present c.args.places.now.items) in
    let same : SameItems c.args.whole (places_in c.in_ok-own.own) (places_with level.object (map asked_behind level.nodes.items) own)
    = subst (λ ns. SameItems c.args.whole (places_in c.in_ok-own.own) (places_with level.object (map asked_behind ns) own))
    c.as_slice.ensures.value
    (subst (λ o. SameItems c.args.whole (places_in c.in_ok-own.own) (places_with o (map asked_behind c.as_slice.result.now) own))
    c.as_str.ensures c.in_ok-own.ensures.own) in
    IfOk-weaker c.members_under.result _ _ (λ members is. level_same c.args.whole level (places_in c.in_ok-own.own) own
    (members_in members) distinct is same)
    c.members_under.ensures
