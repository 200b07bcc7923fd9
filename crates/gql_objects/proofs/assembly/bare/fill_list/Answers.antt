use Rattle.std.proofs.Common.{map, subst}
use Rattle.std.proofs.lemmas.Result.{IfOk-weaker}
use Rattle.gql_place.specs.Alike.{SameItems}
use Rattle.gql_place.specs.Pieces.{place_in, places_in}
use Rattle.gql_objects.specs.Assembly.{AreApart, members_each}
use Rattle.gql_complete.specs.FillShape.{all_trees}
use Rattle.gql_objects.specs.Parents.{standing_behind}
use Rattle.gql_objects.specs.PlaceStore.{present}
use Rattle.gql_objects.proofs.BareLemmas.{some_objects}
use Rattle.gql_complete.proofs.FillLemmas.{list_made}
use Rattle.gql_objects.proofs.assembly.bare.fill_list.Goals as goal

pub returns : goal.returns
returns g c = λ apart.
    let whole = c.args.list.whole in
    let own = map place_in (present c.args.own.now.items) in
    let places = places_in c.in_ok-pieces.pieces in
    let filled = subst (λ ps. AreApart whole (map standing_behind ps)
    → SameItems whole places (all_trees c.args.list.pos c.args.list.non_null (some_objects c.args.list.count)
    (members_each (map standing_behind ps) own)))
    c.from_vec-parents.ensures.items c.in_ok-pieces.ensures apart in
    IfOk-weaker c.into_list.result _ _
    (λ made listed. list_made c.args.list.pos c.args.list.non_null whole (some_objects c.args.list.count)
    (members_each (map standing_behind c.args.parents.items) own) places made listed
    filled)
    c.into_list.ensures
