-- What is told of some places is told of one after another.
use Rattle.std.proofs.Common.{rules, ◌≡◌, ℕ, zero, suc, ◌+◌, List, [], ◌∷◌, ◌++◌, map, take, Some, Result, Ok, Err, OnOk, slice_get, refl, ap, sym, ◌∙◌, append_assoc, append-nil, add-one}
use Rattle.std.specs.List.{flat_map}
use Rattle.std.proofs.lemmas.Grind.{flat_map-append}
use Rattle.gql_doc.specs.Depth.{Fragments}
use Rattle.gql_doc.specs.declared.document.Selection.{the_lemmas}
use Rattle.gql_doc.specs.declared.document.SelectionSet.{SelectionSet, out-SelectionSet}
use Rattle.gql_schema.specs.declared.schema_type.SchemaType.{SchemaType}
use Rattle.gql_fields.specs.Breaches.{told}
use Rattle.gql_fields.specs.Places.{Place, selection_places, set_places}
use Rattle.gql_fields.specs.Terms.{Terms}
use Rattle.gql_fields.specs.declared.breach.Breach.{Breach}
use Rattle.gql_fields.specs.declared.built_in_arguments.BuiltIn.{BuiltIn}

module _ {A B : Type 0} (f : A → List B) where
  pub flat_more : (xs : List A) (i : ℕ) (x : A) → slice_get xs i ≡ Some x → flat_map f (take (suc i) xs) ≡ flat_map f (take i xs) ++ f x
  flat_more [] i x at = cc
  flat_more (y ∷ ys) zero x at =
      let same : y ≡ x = cc in
      append-nil (f y) ∙ ap f same
  flat_more (y ∷ ys) (suc i) x at = ap (λ bs. f y ++ bs) (flat_more ys i x at) ∙ sym (append_assoc (f y) (flat_map f (take i ys)) (f x))

-- what each of some gives, one after another
pub flat_step : {A B : Type 0} (f : A → List B) (xs : List A) (i : ℕ) (x : A) (start now more : List B) → slice_get xs i ≡ Some x
    → now ≡ start ++ flat_map f (take i xs) → more ≡ now ++ f x → more ≡ start ++ flat_map f (take (i + 1) xs)
flat_step f xs i x start now more at before added =
    added ∙ ap (λ bs. bs ++ f x) before ∙ append_assoc start (flat_map f (take i xs)) (f x)
    ∙ ap (λ bs. start ++ bs) (sym (flat_more f xs i x at)) ∙ ap (λ n. start ++ flat_map f (take n xs)) (sym (add-one i))

pub flat_of_map : {A B C : Type 0} (f : B → List C) (g : A → B) (xs : List A) → flat_map f (map g xs) ≡ flat_map (λ x. f (g x)) xs
flat_of_map f g [] = refl
flat_of_map f g (x ∷ xs) = ap (λ cs. f (g x) ++ cs) (flat_of_map f g xs)

module _ (built : BuiltIn) (terms : Terms) (fragments : Fragments) where
  pub told_both : (one other : List Place)
      → told built terms fragments (one ++ other) ≡ told built terms fragments one ++ told built terms fragments other
  told_both one other = flat_map-append _ one other

  -- the places of one more
  pub told_more : {A : Type 0} (f : A → List Place) (xs : List A) (i : ℕ) (x : A) → slice_get xs i ≡ Some x
      → told built terms fragments (flat_map f (take (suc i) xs)) ≡ told built terms fragments (flat_map f (take i xs))
      ++ told built terms fragments (f x)
  told_more f xs i x at = ap (told built terms fragments) (flat_more f xs i x at) ∙ told_both (flat_map f (take i xs)) (f x)

  -- what was told, and what is told of one more
  pub told_step : {A : Type 0} (f : A → List Place) (xs : List A) (i : ℕ) (x : A) (start now more : List Breach) → slice_get xs i ≡ Some x
      → now ≡ start ++ told built terms fragments (flat_map f (take i xs)) → more ≡ now ++ told built terms fragments (f x)
      → more ≡ start ++ told built terms fragments (flat_map f (take (i + 1) xs))
  told_step f xs i x start now more at before added =
      added ∙ ap (λ bs. bs ++ told built terms fragments (f x)) before
      ∙ append_assoc start (told built terms fragments (flat_map f (take i xs))) (told built terms fragments (f x))
      ∙ ap (λ bs. start ++ bs) (sym (told_more f xs i x at))
      ∙ ap (λ n. start ++ told built terms fragments (flat_map f (take n xs))) (sym (add-one i))

-- a set's places are those of its selections
pub places_in_set : (terms : Terms) (set : SelectionSet) (ty : SchemaType)
    → set_places terms set ty ≡ flat_map (λ selection. selection_places terms selection.node ty) (out-SelectionSet set).items
places_in_set terms set ty = search (rules, the_lemmas, flat_of_map)

-- what follows where a result is Ok
pub on_ok : {A E : Type 0} (r : Result A E) (P Q : Type 0) → (P → Q) → OnOk r P → OnOk r Q
on_ok (Ok a) P Q f h = f h
on_ok (Err e) P Q f h = h
