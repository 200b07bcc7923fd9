use Rattle.std.proofs.Common.{subst}
use Rattle.gql_base.specs.Places.{IsIndex}
use Rattle.gql_base.proofs.PlacesLemmas.{tree_more}
use Rattle.gql_base.proofs.places.Places.add.Goals as goal

pub returns-in-Ordered-clause-ok : goal.returns-in-Ordered-clause-ok
returns-in-Ordered-clause-ok c =
    tree_more c.insert.result c.in-Ordered.tree c.insert.new.tree c.args.names.now c.args.name.now c.requires.fresh
    (subst (λ places. IsIndex places c.args.names.now) c.in-Ordered.is c.in_ok-make_room.ensures) c.insert.ensures.ok
