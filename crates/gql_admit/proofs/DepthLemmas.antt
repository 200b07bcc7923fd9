-- The walk that looks for sets that lie too deep.
use Rattle.std.proofs.Common.{◌≡◌, ℕ, ◌+◌, ◌^◌, ◌<◌, ◌≤◌, Bool, true, false, List, Option, Some, None, Ok, Err, MatchOption, slice_get, slice_set, refl, ap, sym, ◌∙◌, subst, inl, inr, add-one, leb-true}
use Rattle.std.specs.Prelude.{◌⊎◌, option_and_then}
use Rattle.std.specs.Option.{option_map}
use Rattle.std.proofs.Math.ListN.{length-set}
use Rattle.gql_base.specs.Pairs.{values_of}
use Rattle.gql_base.specs.declared.pos.Pos.{Pos}
use Rattle.gql_base.specs.declared.server_error.ServerError.{ServerError}
use Rattle.gql_doc.specs.Depth.{Fragments, deep, deep_from, fragment_set, operation_set, operations_in}
use Rattle.gql_doc.specs.First.{first_in}
use Rattle.gql_doc.specs.declared.document.ExecutableDocument.{ExecutableDocument}
use Rattle.gql_doc.specs.declared.document.FragmentDefinition.{FragmentDefinition}
use Rattle.gql_doc.specs.declared.document.Positioned.{Positioned}
use Rattle.gql_doc.proofs.DepthLaws.{deep_less}
use Rattle.gql_fields.proofs.PairLemmas.{value_at}
use Rattle.gql_rules.specs.Nesting.{IsWithinDepth}
use Rattle.gql_admit.specs.Counted.{suffices}
use Rattle.gql_admit.specs.Limits.{depth_checked, refused_by}
use Rattle.gql_admit.specs.Refusal.{depth_error}
use Rattle.gql_admit.specs.WalkedFragments.{IsFine}
use Rattle.gql_admit.proofs.WalkLemmas.{written_at}

-- the check of a document, by what the walk finds in so many levels
module _ (document : ExecutableDocument) (limit levels : ℕ) (most : levels ≡ limit + 1) where
  found_deep : (found : Option Pos)
      → found ≡ first_in (λ operation. deep_from document.fragments levels (operation_set operation)) (operations_in document.operations)
      → found ≡ deep document limit
  found_deep found told =
      told
      ∙ ap (λ n. first_in (λ operation. deep_from document.fragments n (operation_set operation)) (operations_in document.operations))
      (most ∙ add-one limit)

  pub depth_passes : None ≡ first_in (λ operation. deep_from document.fragments levels (operation_set operation))
      (operations_in document.operations)
      → Ok tt ≡ depth_checked document limit
  depth_passes told = ap (refused_by (depth_error limit)) (found_deep None told)

  pub within_depth : limit + 1 < 2 ^ 64
      → None ≡ first_in (λ operation. deep_from document.fragments levels (operation_set operation)) (operations_in document.operations)
      → IsWithinDepth document
  within_depth fits told = record { limit = limit; fits = fits; within = sym (found_deep None told) }

  pub depth_refused : (place : Pos) (error : ServerError)
      → Some place ≡ first_in (λ operation. deep_from document.fragments levels (operation_set operation))
      (operations_in document.operations)
      → error ≡ depth_error limit place → Err error ≡ depth_checked document limit
  depth_refused place error told said = ap Err said ∙ ap (refused_by (depth_error limit)) (found_deep (Some place) told)

module _ (fragments : Fragments) where
  known_at : (o : Option (Positioned FragmentDefinition)) (levels left : ℕ)
      → ((fragment : Positioned FragmentDefinition) → o ≡ Some fragment → deep_from fragments levels (fragment_set fragment) ≡ None)
      → levels ≤ left → None ≡ option_and_then (deep_from fragments left) (option_map fragment_set o)
  known_at None levels left each most = refl
  known_at (Some fragment) levels left each most = sym (deep_less fragments levels left (fragment_set fragment) most (each fragment refl))

  -- the fragment at a place, where so many levels are known to suffice
  pub fine_known : (fine : List (Option ℕ)) (place left : ℕ) (known : Option ℕ) (passes : Bool) → IsFine fragments fine
      → slice_get fine place ≡ Some known
      → passes ≡ suffices known left → passes ≡ true
      → None ≡ option_and_then (deep_from fragments left) (option_map fragment_set (slice_get (values_of fragments) place))
  fine_known fine place left None passes kept at test so = absurd (let bad : false ≡ true = sym test ∙ so in cc)
  fine_known fine place left (Some levels) passes kept at test so =
      known_at (slice_get (values_of fragments) place) levels left (λ fragment here. kept.nests place levels fragment at here)
      (leb-true levels left (sym test ∙ so))

  -- of the number that is known and the one that is left the less is taken
  fewest_nests : (place left few : ℕ) (known : Option ℕ) (fragment : Positioned FragmentDefinition)
      → MatchOption known (few ≡ left) (λ levels. (few ≤ levels) × ((few ≡ levels) ⊎ (few ≡ left)))
      → ((levels : ℕ) → known ≡ Some levels → deep_from fragments levels (fragment_set fragment) ≡ None)
      → deep_from fragments left (fragment_set fragment) ≡ None → deep_from fragments few (fragment_set fragment) ≡ None
  fewest_nests place left few None fragment least each none = subst (λ n. deep_from fragments n (fragment_set fragment) ≡ None) (sym least)
      none
  fewest_nests place left few (Some levels) fragment least each none =
      elim least.1 [
        | inl known ↦ subst (λ n. deep_from fragments n (fragment_set fragment) ≡ None) (sym known) (each levels refl)
        | inr own ↦ subst (λ n. deep_from fragments n (fragment_set fragment) ≡ None) (sym own) none
      ]

  -- one more is known
  pub fine_put : (fine : List (Option ℕ)) (place left few : ℕ) (known : Option ℕ) (fragment : Positioned FragmentDefinition)
      → IsFine fragments fine
      → slice_get (values_of fragments) place ≡ Some fragment → None ≡ deep_from fragments left (fragment_set fragment)
      → slice_get fine place ≡ Some known → MatchOption known (few ≡ left) (λ levels. (few ≤ levels) × ((few ≡ levels) ⊎ (few ≡ left)))
      → IsFine fragments (slice_set fine place (Some few))
  fine_put fine place left few known fragment kept here none read least = record {
    long = length-set fine place (Some few) ∙ kept.long;
    nests = λ other levels another at there.
        elim (written_at fine place other (Some few) (Some levels) at) [
          | inl h ↦
              let same : fragment ≡ another = cc in
              let many : few ≡ levels = cc in
              subst (λ n. deep_from fragments n (fragment_set another) ≡ None) many
              (subst (λ f. deep_from fragments few (fragment_set f) ≡ None) same
              (fewest_nests place left few known fragment least (λ l is. kept.nests place l fragment (read ∙ ap Some is) here) (sym none)))
          | inr h ↦ kept.nests other levels another h there
        ];
  }

  -- what is found in the fragment at a place
  pub fragment_found : (left place : ℕ) (name : List ℕ) (fragment : Positioned FragmentDefinition) (found : Option Pos)
      → slice_get fragments place ≡ Some (name, fragment) → found ≡ deep_from fragments left (fragment_set fragment)
      → found ≡ option_and_then (deep_from fragments left) (option_map fragment_set (slice_get (values_of fragments) place))
  fragment_found left place name fragment found at told =
      told ∙ sym (ap (λ o. option_and_then (deep_from fragments left) (option_map fragment_set o)) (value_at fragments place name fragment
      at))
