use Rattle.std.proofs.Common.{List, ℕ, map, subst, sym}
use Rattle.gql_base.specs.declared.value.Value.{Value}
use Rattle.gql_place.specs.Alike.{SameTree}
use Rattle.gql_place.specs.Pieces.{data_place}
use Rattle.gql_place.specs.declared.place.Place.{Place}
use Rattle.gql_place.specs.declared.place.Tree.TheVariants as tree
use Rattle.gql_place.proofs.PieceLemmas.{data_object_made, data_object_same}
use Rattle.gql_place.proofs.pieces.object_of.Goals as goal

pub returns-in_ok-places : goal.returns-in_ok-places
returns-in_ok-places c =
    data_object_made c.args.whole c.args.values _ _ c.in_ok-places.places.items c.from_parts.result c.into_parts-names.ensures.names
    c.into_parts-names.ensures.values c.in_ok-places.ensures c.from_parts.ensures

pub returns-in_ok-object : goal.returns-in_ok-object
returns-in_ok-object c =
    let members = map {B = List ℕ × Place} (λ (m : List ℕ × Value). (m.0, data_place m.1)) c.args.values in
    subst (λ v. SameTree c.args.whole (tree.Leaf v) (tree.Object members)) (sym c.in_ok-object.ensures)
    (data_object_same c.args.whole c.args.values c.if-whole.false)
