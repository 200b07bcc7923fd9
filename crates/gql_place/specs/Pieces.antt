-- What is kept of places: their data alone, or the whole of them.
use Rattle.std.specs.Prelude.{ℕ, false, List, map, []}
use Rattle.gql_base.specs.declared.value.Value.{Value}
use Rattle.gql_place.specs.declared.piece.Piece.{Piece}
use Rattle.gql_place.specs.declared.piece.Piece.TheVariants as piece
use Rattle.gql_place.specs.declared.pieces.MemberPieces.{MemberPieces}
use Rattle.gql_place.specs.declared.pieces.MemberPieces.TheVariants as member_pieces
use Rattle.gql_place.specs.declared.pieces.Pieces.{Pieces}
use Rattle.gql_place.specs.declared.pieces.Pieces.TheVariants as pieces
use Rattle.gql_place.specs.declared.place.Place.{Place}
use Rattle.gql_place.specs.declared.place.Tree.TheVariants as tree

-- a place of which data is all that it tells
abbrev pub data_place : Value → Place
data_place value =
    record {
      pos = record { line = 0; column = 0 };
      non_null = false;
      added = [];
      headers = [];
      tree = tree.Leaf value;
    }

-- a place that tells what is kept
abbrev pub place_in : Piece → Place
place_in (piece.Data value) = data_place value
place_in (piece.Whole place) = place

-- places in a row
abbrev pub places_in : Pieces → List Place
places_in (pieces.Data values) = map data_place values.items
places_in (pieces.Whole places) = places.items

-- the members of an object
abbrev pub members_in : MemberPieces → List (List ℕ × Place)
members_in (member_pieces.Data values) = map (λ m. (m.0, data_place m.1)) values
members_in (member_pieces.Whole places) = places
