-- What a walk over a document keeps of the fragments that it has walked through, so that none is
-- walked through again for nothing.
use Rattle.std.specs.Prelude.{◌≡◌, ◌⊎◌, ℕ, zero, suc, Bool, true, List, Option, None, Some}
use Rattle.std.specs.Prelude.{length, slice_get}
use Rattle.gql_base.specs.Pairs.{values_of}
use Rattle.gql_doc.specs.Depth.{Fragments, deep_from, fragment_set}
use Rattle.gql_doc.specs.declared.document.Field.{Field}
use Rattle.gql_doc.specs.declared.document.FragmentDefinition.{FragmentDefinition}
use Rattle.gql_doc.specs.declared.document.Positioned.{Positioned}
use Rattle.gql_select.specs.Crowded.{crowded_from}

-- beside each fragment stands a number of levels that suffice for its set, or none
pub record IsFine (fragments : Fragments) (fine : List (Option ℕ)) : Type 0 where
  pub long : length fine ≡ length fragments
  pub nests : (place levels : ℕ) (fragment : Positioned FragmentDefinition)
      → slice_get fine place ≡ Some (Some levels)
      → slice_get (values_of fragments) place ≡ Some fragment
      → deep_from fragments levels (fragment_set fragment) ≡ None

-- the set of a fragment nests within fewer than so many levels
abbrev pub NestsBelow : Fragments → ℕ → Positioned FragmentDefinition → Type 0
NestsBelow fragments zero fragment = ⊥
NestsBelow fragments (suc levels) fragment =
    deep_from fragments levels (fragment_set fragment) ≡ None

-- beside each fragment stands whether it was entered, and of each that was, if its set nests within
-- fewer than so many levels, it is known that it has no field with more directives than the limit:
-- those in which a walk still is nest in no fewer
pub record IsClean (fragments : Fragments) (limit levels : ℕ) (entered : List Bool) : Type 0 where
  pub none : (place left : ℕ) (fragment : Positioned FragmentDefinition)
      → slice_get entered place ≡ Some true
      → slice_get (values_of fragments) place ≡ Some fragment
      → NestsBelow fragments levels fragment
      → deep_from fragments left (fragment_set fragment) ≡ None
      → crowded_from fragments limit left (fragment_set fragment) ≡ None

-- a walk through what nests within so many levels finds the field that is sought; where there is
-- none, what it entered nests in fewer levels and has none
pub record Finds (fragments : Fragments) (limit levels : ℕ) (old new : List Bool)
    (found sought : Option (Positioned Field)) : Type 0 where
  pub is : found ≡ sought
  pub clean : found ≡ None → IsClean fragments limit levels new
  pub entered : found ≡ None → (place : ℕ) (fragment : Positioned FragmentDefinition)
      → slice_get new place ≡ Some true → slice_get (values_of fragments) place ≡ Some fragment
      → (slice_get old place ≡ Some true) ⊎ NestsBelow fragments levels fragment
