-- What is kept of places in merged and in apart execution, on examples.
use Rattle.std.proofs.Common.{rules, ◌≡◌, ℕ, pos, true, false, List, [], ◌∷◌, map, refl, ap, ◌∙◌}
use Rattle.std.specs.Prelude.{codes}
use Rattle.gql_base.specs.declared.value.Value.TheVariants as value
use Rattle.gql_place.specs.declared.piece.Piece.TheVariants as piece
use Rattle.gql_place.specs.declared.place.Place.{Place}
use Rattle.gql_place.specs.declared.place.Tree.TheVariants as tree
use Rattle.gql_place.specs.declared.shape.Shape.{the_lemmas}
use Rattle.gql_place.specs.declared.shape.Shape.TheVariants as shape
use Rattle.gql_place.proofs.PieceLemmas.{leaf_same}
use Rattle.gql_objects.specs.Assembly.{AreApart, IsMadeAlone, members_each, place_made}
use Rattle.gql_complete.specs.FillShape.{tree_with}
use Rattle.gql_collect.specs.GroupFields.{keeps_whole}
use Rattle.gql_collect.specs.Levels.{Asked}
use Rattle.gql_objects.specs.Parents.{Standing, standing_behind}
use Rattle.gql_complete.specs.FoundObjects.{Bare, Spot}
use Rattle.gql_collect.specs.declared.basis.Grouping.TheVariants as grouping
use Rattle.gql_objects.specs.declared.assembly.kept.Filled.{Filled}

-- one task for each key: data alone, unless the place itself is wanted
merged_keeps_data : keeps_whole grouping.ByKey ≡ false
merged_keeps_data = refl

merged_keeps_all : keeps_whole grouping.ByKeyWhole ≡ true
merged_keeps_all = refl

-- a task for each occurrence: their places are joined, so they are whole
apart_keeps_all : keeps_whole grouping.Each ≡ true
apart_keeps_all = refl

module _ (spot : Spot ℕ) (asked : Asked) where
  abbrev id_twice : Standing ℕ
  id_twice = record { spot = spot; members = (codes "id", asked) ∷ (codes "id", asked) ∷ [] }

  -- a key may stand twice where places are whole
  may_stand_twice : AreApart true (id_twice ∷ [])
  may_stand_twice = (λ part. absurd (cc), tt)

  -- and nowhere else
  stands_once : AreApart false (id_twice ∷ []) → ⊥
  stands_once apart = let d = (apart.0 refl).0 in cc

-- a task that came to a leaf with nothing beside it: its data is all that is kept
module _ (filled : Filled ℕ) (part : filled.whole ≡ false) (quiet : filled.added ≡ []) (still : filled.headers ≡ [])
    (leaf : filled.shape ≡ shape.Leaf (value.Number (pos 1))) where
  leaf_tree : (members : List (List (List ℕ × Place))) → tree_with filled.pos (shape.Leaf (value.Number (pos 1))) members ≡ tree.Leaf (value.Number (pos 1))
  leaf_tree members = search (rules, the_lemmas)

  data_is_made : IsMadeAlone filled (piece.Data (value.Number (pos 1)))
  data_is_made apart =
      let members : List (List (List ℕ × Place)) = members_each (map standing_behind filled.parents.items) [] in
      leaf_same filled.whole (value.Number (pos 1)) (place_made filled []) part quiet still
      (ap (λ (bare : Bare). tree_with filled.pos bare members) leaf ∙ leaf_tree members)
