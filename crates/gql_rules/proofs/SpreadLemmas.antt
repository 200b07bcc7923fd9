-- What is spread in a set is what is spread in its selections.
use Rattle.std.proofs.Common.{rules, ◌≡◌, ℕ, zero, suc, ◌+◌, List, [], ◌∷◌, ◌++◌, map, take, Some, slice_get, refl, ap, sym, ◌∙◌, add-one}
use Rattle.std.specs.List.{flat_map}
use Rattle.gql_doc.specs.declared.document.Selection.{the_lemmas}
use Rattle.gql_doc.specs.declared.document.SelectionSet.{SelectionSet, out-SelectionSet}
use Rattle.gql_rules.specs.FragmentSpreads.{selection_spreads, set_spreads}

flat_of_map : {A B C : Type 0} (f : B → List C) (g : A → B) (xs : List A) → flat_map f (map g xs) ≡ flat_map (λ x. f (g x)) xs
flat_of_map f g [] = refl
flat_of_map f g (x ∷ xs) = ap (λ cs. f (g x) ++ cs) (flat_of_map f g xs)

map_more : {A B : Type 0} (f : A → B) (xs : List A) (i : ℕ) (x : A) → slice_get xs i ≡ Some x → map f (take (suc i) xs) ≡ map f (take i xs) ++ f x ∷ []
map_more f [] i x at = cc
map_more f (y ∷ ys) zero x at =
    let same : y ≡ x = cc in
    ap (λ z. f z ∷ []) same
map_more f (y ∷ ys) (suc i) x at = ap (λ bs. f y ∷ bs) (map_more f ys i x at)

pub spread_in_items : (names : List (List ℕ)) (set : SelectionSet)
    → set_spreads names set ≡ flat_map (λ selection. selection_spreads names selection.node) (out-SelectionSet set).items
spread_in_items names set = search (rules, the_lemmas, flat_of_map)

-- one more of a list that is changed item by item
pub map_step : {A B : Type 0} (f : A → B) (xs : List A) (i : ℕ) (x : A) (now more : List B) (b : B) → slice_get xs i ≡ Some x → now ≡ map f (take i xs) → b ≡ f x
    → more ≡ now ++ b ∷ [] → more ≡ map f (take (i + 1) xs)
map_step f xs i x now more b at before told added =
    added ∙ (λ j. before j ++ told j ∷ []) ∙ sym (map_more f xs i x at) ∙ ap (λ n. map f (take n xs)) (sym (add-one i))
