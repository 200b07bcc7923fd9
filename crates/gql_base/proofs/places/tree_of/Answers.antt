use Rattle.std.proofs.Common.{subst, rules}
use Rattle.gql_base.specs.Places.{SetsPlace}
use Rattle.gql_base.proofs.PlacesLemmas.{has_places_more}
use Rattle.gql_base.proofs.places.tree_of.Goals as goal

pub loop-place-preserved : goal.loop-place-preserved
loop-place-preserved c =
    let sets = subst (λ name. SetsPlace c.loop-place.tree c.insert.new.tree name c.loop-place.place) c.as_str.ensures c.in_ok-insert.ensures.ok in
    has_places_more c.loop-place.tree c.insert.new.tree c.args.names.now c.index-names-place.result c.loop-place.place c.requires (search rules)
    c.index-names-place.is c.loop-place.invariant sets
