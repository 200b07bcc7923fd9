-- Which places of a document are kept, since they matter to the uses of variables.
use Rattle.std.proofs.Common.{◌≡◌, false, List, [], ◌∷◌, ◌++◌, refl, ap, sym, ◌∙◌, append_assoc, ℕ, ◌+◌, take, map, Some, slice_get, suc, zero, add-one}
use Rattle.std.specs.List.{flat_map}
use Rattle.std.proofs.lemmas.Grind.{flat_map-append}
use Rattle.std.proofs.lemmas.List.{map-append}
use Rattle.gql_doc.specs.Depth.{fragment_set, operation_set}
use Rattle.gql_doc.specs.declared.document.Directive.{Directive}
use Rattle.gql_doc.specs.declared.document.FragmentDefinition.{FragmentDefinition}
use Rattle.gql_doc.specs.declared.document.OperationDefinition.{OperationDefinition}
use Rattle.gql_doc.specs.declared.document.Positioned.{Positioned}
use Rattle.gql_doc.specs.declared.document.VariableDefinition.{VariableDefinition}
use Rattle.gql_schema.specs.declared.schema_type.SchemaType.{SchemaType}
use Rattle.gql_fields.specs.Places.{Place, directive_places, fragment_places, on_named, rooted_places, set_places, variable_places}
use Rattle.gql_fields.specs.Terms.{Terms}
use Rattle.gql_fields.specs.UsePlaceViews.{place_behind, shown}
use Rattle.gql_fields.specs.UsePlaces.{kept, kept_at}
use Rattle.gql_fields.specs.declared.use_place.UsePlace.{UsePlace}

pub kept_both : (one other : List Place) → kept (one ++ other) ≡ kept one ++ kept other
kept_both one other = flat_map-append kept_at one other

pub shown_more : (places : List UsePlace) (place : UsePlace) → shown (places ++ place ∷ []) ≡ shown places ++ place_behind place ∷ []
shown_more places place = map-append place_behind places (place ∷ [])

-- none of the directives of a definition matters
kept-directives : (ds : List (Positioned Directive)) → kept (directive_places false ds) ≡ []
kept-directives [] = refl
kept-directives (d ∷ ds) = kept-directives ds

kept-variables : (vs : List (Positioned VariableDefinition)) → kept (variable_places vs) ≡ []
kept-variables [] = refl
kept-variables (v ∷ vs) =
    kept_both (directive_places false v.node.directives) (variable_places vs)
    ∙ (λ i. kept-directives v.node.directives i ++ kept-variables vs i)

pub kept_fragment : (terms : Terms) (fragment : Positioned FragmentDefinition)
    → kept (fragment_places terms fragment)
    ≡ kept (on_named terms fragment.node.type_condition.node (set_places terms (fragment_set fragment).node))
kept_fragment terms fragment =
    let inner : List Place = on_named terms fragment.node.type_condition.node (set_places terms (fragment_set fragment).node) in
    kept_both (directive_places false fragment.node.directives) inner
    ∙ (λ i. kept-directives fragment.node.directives i ++ kept inner)

pub kept_rooted : (terms : Terms) (operation : Positioned OperationDefinition) (ty : SchemaType)
    → kept (rooted_places terms operation ty) ≡ kept (set_places terms (operation_set operation).node ty)
kept_rooted terms operation ty =
    let inner : List Place = set_places terms (operation_set operation).node ty in
    kept_both (variable_places operation.node.variable_definitions) (directive_places false operation.node.directives ++ inner)
    ∙ (λ i. kept-variables operation.node.variable_definitions i ++ kept_both (directive_places false operation.node.directives) inner i)
    ∙ (λ i. kept-directives operation.node.directives i ++ kept inner)

map_more : {A B : Type 0} (f : A → B) (xs : List A) (i : ℕ) (x : A) → slice_get xs i ≡ Some x
    → map f (take (suc i) xs) ≡ map f (take i xs) ++ f x ∷ []
map_more f [] i x at = cc
map_more f (y ∷ ys) zero x at =
    let same : y ≡ x = cc in
    ap (λ z. f z ∷ []) same
map_more f (y ∷ ys) (suc i) x at = ap (λ bs. f y ∷ bs) (map_more f ys i x at)

-- one more of a list that is changed item by item
pub map_step : {A B : Type 0} (f : A → B) (xs : List A) (i : ℕ) (x : A) (now more : List B) (b : B)
    → slice_get xs i ≡ Some x → now ≡ map f (take i xs) → b ≡ f x → more ≡ now ++ b ∷ [] → more ≡ map f (take (i + 1) xs)
map_step f xs i x now more b at before told added =
    added ∙ (λ j. before j ++ told j ∷ []) ∙ sym (map_more f xs i x at) ∙ ap (λ n. map f (take n xs)) (sym (add-one i))
