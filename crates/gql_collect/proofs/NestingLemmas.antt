-- Sets that nest within levels, field by field, and what holds of the fields of groups.
use Rattle.std.proofs.Common.{◌≡◌, ℕ, zero, suc, Bool, true, false, cond, List, [], ◌∷◌, ◌++◌, Some, None, refl, ap, sym, subst, ◌∙◌, inl, inr, ◌⊎◌}
use Rattle.std.specs.List.{AllByRecursion, Contains}
use Rattle.std.specs.Str.{bytes_eq}
use Rattle.gql_base.specs.Pairs.{unite, unite_all, values_of}
use Rattle.gql_doc.proofs.DepthLaws.{nests_beneath}
use Rattle.gql_doc.specs.Depth.{deep_from, field_set, if_any, selections_of, set_beneath, set_under}
use Rattle.gql_doc.specs.declared.document.Field.{Field}
use Rattle.gql_doc.specs.declared.document.Positioned.{Positioned}
use Rattle.gql_doc.specs.declared.document.Selection.{out-Selection, Selection}
use Rattle.gql_doc.specs.declared.document.Selection.TheOpen.{Selection-F}
use Rattle.gql_doc.specs.declared.document.SelectionSet.{SelectionSet}
use Rattle.gql_select.proofs.DocumentLemmas.{is_reading, set_of_both}
use Rattle.gql_select.specs.Collected.{collect_within, own_selections, Setting}
use Rattle.gql_select.specs.Documents.{both, reading}
use Rattle.gql_select.specs.Reading.{keyed, merged}
use Rattle.gql_collect.specs.GroupFields.{groups_by}
use Rattle.gql_collect.specs.Nesting.{IsWithin}
use Rattle.gql_collect.specs.declared.basis.Grouping.{Grouping}
use Rattle.gql_collect.specs.declared.basis.Grouping.TheVariants as grouping
use Rattle.gql_select.proofs.NestLemmas.{collected_all, every_both}

pub every_map : {X : Type 0} (P Q : X → Type 0) → ((x : X) → P x → Q x) → (xs : List X) → AllByRecursion P xs → AllByRecursion Q xs
every_map P Q f [] h = tt
every_map P Q f (x ∷ xs) h = (f x h.0, every_map P Q f xs h.1)

-- what holds of fields, and of two that are united where it holds of both
module _ (P : Positioned Field → Type 0) (closed : (f g : Positioned Field) → P f → P g → P (both f g)) where
  united_one : (same : Bool) (p : List ℕ × Positioned Field) (ps others : List (List ℕ × Positioned Field)) (f : Positioned Field)
      → AllByRecursion P (values_of (p ∷ ps)) → AllByRecursion P (values_of others) → P f
      → AllByRecursion P (values_of (cond same ((p.0, both p.1 f) ∷ ps) (p ∷ others)))
  united_one true p ps others f h rest here = (closed p.1 f h.0 here, h.1)
  united_one false p ps others f h rest here = (h.0, rest)

  all_united : (ps : List (List ℕ × Positioned Field)) (key : List ℕ) (f : Positioned Field) → AllByRecursion P (values_of ps) → P f
      → AllByRecursion P (values_of (unite both ps key f))
  all_united [] key f h here = (here, tt)
  all_united (p ∷ ps) key f h here = united_one (bytes_eq key p.0) p ps (unite both ps key f) f h (all_united ps key f h.1 here) here

  united_all : (setting : Setting) (ps : List (List ℕ × Positioned Field)) (fs : List (Positioned Field)) → AllByRecursion P (values_of ps) → AllByRecursion P fs
      → AllByRecursion P (values_of (unite_all both ps (keyed (reading setting) fs)))
  united_all setting ps [] h k = h
  united_all setting ps (f ∷ fs) h k =
      united_all setting (unite both ps ((reading setting).key f) f) fs (all_united ps ((reading setting).key f) f h k.0) k.1

  -- holds of the merged fields too
  pub merged_all : (setting : Setting) (fs : List (Positioned Field)) → AllByRecursion P fs → AllByRecursion P (values_of (merged (reading setting) fs))
  merged_all setting fs h = united_all setting [] fs tt h

  keyed_all : (setting : Setting) (fs : List (Positioned Field)) → AllByRecursion P fs → AllByRecursion P (values_of (keyed (reading setting) fs))
  keyed_all setting [] h = tt
  keyed_all setting (f ∷ fs) h = (h.0, keyed_all setting fs h.1)

  -- and of those that stand for groups
  pub groups_all : (by : Grouping) (setting : Setting) (fs : List (Positioned Field)) → AllByRecursion P fs → AllByRecursion P (values_of (groups_by by setting fs))
  groups_all grouping.ByKey setting fs h = merged_all setting fs h
  groups_all grouping.ByKeyWhole setting fs h = merged_all setting fs h
  groups_all grouping.Each setting fs h = keyed_all setting fs h

-- no fields have no groups
pub groups_none : (by : Grouping) (setting : Setting) → groups_by by setting [] ≡ []
groups_none grouping.ByKey setting = refl
groups_none grouping.ByKeyWhole setting = refl
groups_none grouping.Each setting = refl

module _ (setting : Setting) where
  collected_none : (levels : ℕ) (object : List ℕ) → collect_within setting levels object [] ≡ []
  collected_none zero object = refl
  collected_none (suc levels) object = refl

  -- an empty set is within any levels
  pub within_none : (n : ℕ) → IsWithin setting n []
  within_none zero = λ object. collected_none setting.levels object
  within_none (suc n) = λ object. subst (AllByRecursion (λ field. IsWithin setting n (own_selections field))) (sym (collected_none setting.levels object)) tt

  within_append : (n : ℕ) (xs ys : List (Positioned Selection)) → IsWithin setting n xs → IsWithin setting n ys → IsWithin setting n (xs ++ ys)
  within_append zero xs ys h k = λ object. (is_reading setting).fields_of_both object xs ys ∙ (λ i. h object i ++ k object i)
  within_append (suc n) xs ys h k = λ object.
      subst (AllByRecursion (λ field. IsWithin setting n (own_selections field))) (sym ((is_reading setting).fields_of_both object xs ys))
      (every_both (λ field. IsWithin setting n (own_selections field)) _ _ (h object) (k object))

  -- the set of united fields is within the levels of both
  pub both_within : (n : ℕ) (f g : Positioned Field) → IsWithin setting n (own_selections f) → IsWithin setting n (own_selections g)
      → IsWithin setting n (own_selections (both f g))
  both_within n f g h k = subst (IsWithin setting n) (sym (set_of_both f g)) (within_append n (own_selections f) (own_selections g) h k)

  -- a field's set is empty, or nests within so many levels
  abbrev Deeper : ℕ → Positioned Field → Type 0
  Deeper n field = (own_selections field ≡ []) ⊎ (deep_from setting.fragments n (field_set field) ≡ None)

  deeper_here : (n : ℕ) (set : Positioned SelectionSet) (selection : Positioned Selection) (field : Positioned Field)
      → deep_from setting.fragments (suc n) set ≡ None → Contains (selections_of set) selection → out-Selection selection.node ≡ Selection-F.Field field
      → Deeper n field
  deeper_here n set selection field none at is =
      let by : (xs : List (Positioned Selection)) → selections_of (field_set field) ≡ xs → Deeper n field =
      elim [
        | [] ↦ λ empty. inl empty
        | (x ∷ xs) ↦ λ some.
            let leads : set_beneath setting.fragments selection ≡ Some (field_set field)
            = ap (set_under setting.fragments) is ∙ ap (λ ys. if_any ys (field_set field)) some in
            inr (nests_beneath setting.fragments n set selection (field_set field) none at leads)
      ] in
      by _ refl

  -- a set that nests is within its levels, field by field
  pub nests_within : (n : ℕ) (set : Positioned SelectionSet) → deep_from setting.fragments (suc n) set ≡ None → IsWithin setting (suc n) (selections_of set)
  nests_within zero set none = λ object.
      every_map (Deeper zero) (λ field. IsWithin setting zero (own_selections field))
      (λ field. elim [
        | inl empty ↦ subst (IsWithin setting zero) (sym empty) (within_none zero)
        | inr deep ↦ absurd (cc)
      ])
      _ (collected_all setting object 1 (Deeper zero) (λ s x f none at is. deeper_here zero s x f none at is) setting.levels set none)
  nests_within (suc n) set none = λ object.
      every_map (Deeper (suc n)) (λ field. IsWithin setting (suc n) (own_selections field))
      (λ field. elim [
        | inl empty ↦ subst (IsWithin setting (suc n)) (sym empty) (within_none (suc n))
        | inr deep ↦ nests_within n (field_set field) deep
      ])
      _ (collected_all setting object (suc (suc n)) (Deeper (suc n)) (λ s x f none at is. deeper_here (suc n) s x f none at is) setting.levels set none)
