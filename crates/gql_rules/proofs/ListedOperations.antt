-- The operations of a document whose places are listed.
use Rattle.std.proofs.Common.{◌≡◌, ℕ, zero, suc, List, [], ◌∷◌, map, Some, slice_get, refl, ap, sym, subst, ◌∙◌}
use Rattle.gql_doc.specs.declared.document.OperationDefinition.{OperationDefinition}
use Rattle.gql_doc.specs.declared.document.Positioned.{Positioned}
use Rattle.gql_fields.specs.Places.{Place}
use Rattle.gql_fields.specs.Terms.{Terms}
use Rattle.gql_fields.specs.UsePlaceViews.{listed_behind, listed_of, operation_behind}
use Rattle.gql_fields.specs.declared.listed.OperationPlaces.{OperationPlaces}

abbrev Entry : Type 0
Entry = Positioned OperationDefinition × List Place

firsts : (listed : List OperationPlaces) → map (λ (p : Entry). p.0) (map listed_behind listed) ≡ map operation_behind listed
firsts [] = refl
firsts (x ∷ xs) = ap (λ os. operation_behind x ∷ os) (firsts xs)

module _ (terms : Terms) where
  firsts_of : (operations : List (Positioned OperationDefinition))
      → map (λ (p : Entry). p.0) (map (listed_of terms) operations) ≡ operations
  firsts_of [] = refl
  firsts_of (o ∷ os) = ap (λ rest. o ∷ rest) (firsts_of os)

  -- they are those of the document
  pub operations_listed : (listed : List OperationPlaces) (operations : List (Positioned OperationDefinition))
      → map listed_behind listed ≡ map (listed_of terms) operations → map operation_behind listed ≡ operations
  operations_listed listed operations same =
      sym (firsts listed) ∙ ap (map (λ (p : Entry). p.0)) same ∙ firsts_of operations

  -- and with each stand its places
  pub each_listed : (listed : List OperationPlaces) (operations : List (Positioned OperationDefinition))
      → map listed_behind listed ≡ map (listed_of terms) operations
      → map listed_behind listed ≡ map (listed_of terms) (map operation_behind listed)
  each_listed listed operations same = same ∙ ap (map (listed_of terms)) (sym (operations_listed listed operations same))

  pub listed_at : (listed : List OperationPlaces) (i : ℕ) (one : OperationPlaces)
      → map listed_behind listed ≡ map (listed_of terms) (map operation_behind listed) → slice_get listed i ≡ Some one
      → listed_behind one ≡ listed_of terms (operation_behind one)
  listed_at [] i one same at = cc
  listed_at (x ∷ xs) zero one same at =
      let is : x ≡ one = cc in
      let first : listed_behind x ≡ listed_of terms (operation_behind x) = cc in
      subst (λ o. listed_behind o ≡ listed_of terms (operation_behind o)) is first
  listed_at (x ∷ xs) (suc i) one same at =
      let rest : map listed_behind xs ≡ map (listed_of terms) (map operation_behind xs) = cc in
      listed_at xs i one rest at
