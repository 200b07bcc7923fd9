-- A tree of places: what it has once it is changed.
use Rattle.std.proofs.Common.{◌≡◌, ℕ, ◌+◌, ◌<◌, Bool, true, false, cond, List, [], ◌∷◌, ◌++◌, length, take, Some, None, slice_get, Result, Ok, Err, OnOk}
use Rattle.std.proofs.Common.{slice_index_or, String, string_bytes, Global, refl, ap, sym, ◌∙◌}
use Rattle.std.specs.Str.{bytes_eq}
use Rattle.std.specs.String.{string_cmp}
use Rattle.std.specs.Cmp.Lexicographic.{bytes_decides, nat_list_eq_equiv}
use Rattle.std.specs.BTreeMap as tree
use Rattle.std.proofs.lemmas.Map.Text.{btree_map_updates_text}
use Rattle.std.proofs.lemmas.Option.{slice_get_read}
use Rattle.gql_base.specs.Names.{place_of, AreDistinct}
use Rattle.gql_base.specs.Places.{HasPlaces, PlaceTree, SamePlaces, SetsPlace}
use Rattle.gql_base.proofs.NamesLemmas.{or_at, or_at_none, place_pushed, place_front, names_taken, length_taken}

-- a tree once the next place is in it
pub tree_set : (m n : PlaceTree) (name : List ℕ) (key : String Global) (place : ℕ) → string_bytes key ≡ name
    → tree.Updates string_cmp m n key (Some place) → SetsPlace m n name place
tree_set m n name key place named updates other =
    btree_map_updates_text (string_bytes key) m n (Some place) updates other
    ∙ ap (λ k. cond (bytes_eq k other) (Some place) (tree.get_by_text m other)) named

-- what a tree has once the next name is in it
pub has_places_pushed : (old new : PlaceTree) (names : List (List ℕ)) (name : List ℕ) (place : ℕ) → place ≡ length names
    → place_of name names ≡ None
    → HasPlaces old names → SetsPlace old new name place → HasPlaces new (names ++ name ∷ [])
has_places_pushed old new names name place at none has sets other =
    let P : Bool → Type 0 = λ b. (b ≡ true → name ≡ other) → bytes_eq other name ≡ b
    → cond b (Some place) (tree.get_by_text old other) ≡ or_at (place_of other names) (bytes_eq other name) (length names) in
    sets other
    ∙ (elim (bytes_eq name other) as P [
      | true ↦ λ same here. (let gone : place_of other names ≡ None = ap (λ k. place_of k names) (sym (same refl)) ∙ none in rw (gone, here, at) refl)
      | false ↦ λ same here. rw here (has other ∙ sym (or_at_none (place_of other names) (length names)))
    ]) (bytes_decides name other).0 (nat_list_eq_equiv.symm other name)
    ∙ sym (place_pushed other name names)

-- a tree of the first names once the next name is in it
pub has_places_more : (old new : PlaceTree) (names : List (List ℕ)) (name : List ℕ) (place : ℕ) → AreDistinct names → place < length names
    → name ≡ slice_index_or names place name → HasPlaces old (take place names) → SetsPlace old new name place → HasPlaces new (take (place + 1) names)
has_places_more old new names name place distinct within read has sets =
    let at : slice_get names place ≡ Some name = slice_get_read names (length names) place name refl within read in
    rw (names_taken names place name at)
    (has_places_pushed old new (take place names) name place (length_taken names place name at) (place_front names place name distinct at) has sets)

-- a tree that has the same places
pub has_places_kept : (old new : PlaceTree) (names : List (List ℕ)) → HasPlaces old names → SamePlaces old new → HasPlaces new names
has_places_kept old new names has same name = same name ∙ has name

-- the answer of adding a name to a tree
pub tree_more : {X E : Type 0} (r : Result X E) (old new : PlaceTree) (names : List (List ℕ)) (name : List ℕ) → place_of name names ≡ None
    → HasPlaces old names → OnOk r (SetsPlace old new name (length names)) → OnOk r (HasPlaces new (names ++ name ∷ []))
tree_more (Ok x) old new names name none has sets = has_places_pushed old new names name (length names) refl none has sets
tree_more (Err e) old new names name none has sets = tt
