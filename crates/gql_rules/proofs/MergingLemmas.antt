-- What is told of conflicts.
use Rattle.std.proofs.Common.{◌≡◌, ℕ, List, [], ◌∷◌, ◌++◌, map, Option, Some, None, refl, sym, subst, inl, inr}
use Rattle.std.specs.List.{Contains}
use Rattle.std.proofs.lemmas.List.Elements.{Contains-append_cases}
use Rattle.gql_doc.specs.Depth.{deep_from, operation_set, operations_in, selections_of}
use Rattle.gql_doc.specs.declared.document.ExecutableDocument.{ExecutableDocument}
use Rattle.gql_doc.specs.declared.document.Positioned.{Positioned}
use Rattle.gql_doc.specs.declared.document.SelectionSet.{SelectionSet}
use Rattle.gql_schema.specs.TableReading.{has_type}
use Rattle.gql_select.proofs.LevelLemmas.{flat_same, nested_conflicts_same}
use Rattle.gql_conflicts.specs.DocumentConflicts.{IsConflict, Lists, conflicts_at, document_conflicts, operation_conflicts, told}
use Rattle.gql_conflicts.specs.Rooted.{Rooted, objects_beneath, root_of}
use Rattle.gql_conflicts.specs.declared.conflict.Conflict.{Conflict}
use Rattle.gql_fields.specs.Terms.{Terms}
use Rattle.gql_fields.specs.declared.breach.Breach.{Breach}
use Rattle.gql_rules.specs.Adds.{Adds}
use Rattle.gql_rules.specs.FieldMerging.{IsConflicting, conflict_breach, rooted_in}
use Rattle.gql_rules.specs.Nesting.{NestsWithin}
use Rattle.gql_rules.proofs.AddingLemmas.{adds_same, adds_told}
use Rattle.gql_rules.proofs.BreachLemmas.{first_in, later_in, none_in, one_in}

module _ {A B : Type 0} (f : A → B) where
  -- the item that gives one of a mapped list
  pub record Image (xs : List A) (b : B) : Type 0 where
    pub item : A
    pub there : Contains xs item
    pub is : b ≡ f item

  pub image_from : (xs : List A) (b : B) → Contains (map f xs) b → Image xs b
  image_from [] b at = none_in b (Image [] b) at
  image_from (x ∷ xs) b at =
      elim (Contains-append_cases (f x ∷ []) (map f xs) b at) [
        | inl here ↦ record { item = x; there = first_in x xs; is = sym (one_in (f x) b here) }
        | inr behind ↦
            let rest = image_from xs b behind in
            record { item = rest.item; there = later_in x rest.item xs rest.there; is = rest.is }
      ]

  pub image_at : (xs : List A) (x : A) → Contains xs x → Contains (map f xs) (f x)
  image_at [] x at = none_in x (Contains (map f []) (f x)) at
  image_at (y ∷ xs) x at =
      elim (Contains-append_cases (y ∷ []) xs x at) [
        | inl here ↦ subst (λ z. Contains (f y ∷ map f xs) (f z)) (one_in y x here) (first_in (f y) (map f xs))
        | inr behind ↦ later_in (f y) (f x) (map f xs) (image_at xs x behind)
      ]

-- in whichever levels the sets of a document nest, it has the same conflicts
module _ (rooted : Rooted) (document : ExecutableDocument) (one other : ℕ) where
  same_at : (root : Option (List ℕ)) (set : Positioned SelectionSet) → deep_from document.fragments one set ≡ None → deep_from document.fragments other set ≡ None
      → conflicts_at rooted document.fragments one root (selections_of set) ≡ conflicts_at rooted document.fragments other root (selections_of set)
  same_at None set nests also = refl
  same_at (Some root) set nests also =
      nested_conflicts_same document.fragments (has_type rooted.table) (objects_beneath rooted) told one other set nests also root

  conflicts_same : NestsWithin document one → NestsWithin document other
      → document_conflicts rooted document one ≡ document_conflicts rooted document other
  conflicts_same nests also =
      flat_same (λ operation. deep_from document.fragments one (operation_set operation))
      (λ operation. deep_from document.fragments other (operation_set operation))
      (operation_conflicts rooted document.fragments one) (operation_conflicts rooted document.fragments other)
      (λ operation here there. same_at (root_of rooted operation.node.ty) (operation_set operation) here there)
      (operations_in document.operations) nests.none also.none

-- the conflicts of a document, all told
pub all_conflicts : (terms : Terms) (document : ExecutableDocument) (rooted : Rooted) (levels : ℕ) (conflicts : List Conflict) (old new : List Breach)
    → rooted ≡ rooted_in terms → NestsWithin document levels → Lists rooted document levels conflicts
    → new ≡ old ++ map conflict_breach conflicts → Adds (IsConflicting terms document) old new
all_conflicts terms document rooted levels conflicts old new roots nests lists is =
    adds_same (Contains (map conflict_breach conflicts)) (IsConflicting terms document) old new to back (adds_told old (map conflict_breach conflicts) new is)
  where
    there : (conflict : Conflict) → IsConflict rooted document levels conflict → IsConflict (rooted_in terms) document levels conflict
    there conflict = subst (λ (r : Rooted). IsConflict r document levels conflict) roots

    here : (conflict : Conflict) (others : ℕ) → NestsWithin document others → IsConflict (rooted_in terms) document others conflict
        → IsConflict rooted document levels conflict
    here conflict others also stands =
        subst (λ (r : Rooted). IsConflict r document levels conflict) (sym roots)
        (subst (λ all. Contains all conflict) (conflicts_same (rooted_in terms) document others levels also nests) stands)

    to : (found : Breach) → Contains (map conflict_breach conflicts) found → IsConflicting terms document found
    to found at =
        let from = image_from conflict_breach conflicts found at in
        record { levels = levels; nests = nests; conflict = from.item; stands = there from.item ((lists.exact from.item).0 from.there); is = from.is }

    back : (found : Breach) → IsConflicting terms document found → Contains (map conflict_breach conflicts) found
    back found meant =
        subst (λ e. Contains (map conflict_breach conflicts) e) (sym meant.is)
        (image_at conflict_breach conflicts meant.conflict
        ((lists.exact meant.conflict).1 (here meant.conflict meant.levels meant.nests meant.stands)))
