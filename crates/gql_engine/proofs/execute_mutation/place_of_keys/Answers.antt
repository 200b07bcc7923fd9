use Rattle.std.proofs.Common.{map, subst}
use Rattle.gql_meaning.specs.Responses.{root_place}
use Rattle.gql_place.specs.Alike.{Same}
use Rattle.gql_place.specs.Pieces.{place_in}
use Rattle.gql_objects.specs.Members.{members_with}
use Rattle.gql_objects.specs.Parents.{standing_behind}
use Rattle.gql_objects.specs.PlaceStore.{present}
use Rattle.gql_engine.proofs.execute_mutation.place_of_keys.Goals as goal

pub returns-in-Ok-clause-place : goal.returns-in-Ok-clause-place
returns-in-Ok-clause-place g c = λ apart.
    let s = standing_behind c.args.root.now in
    subst (λ os. Same c.args.whole (place_in c.in-Ok.piece) (root_place c.args.pos (members_with s.spot.object s.members (map place_in (present os)))))
    c.from_vec-own.ensures.items (c.in-Ok.ensures apart)
