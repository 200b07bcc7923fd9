-- What is put together of the places of tasks is merged execution.
use Rattle.std.proofs.Common.{◌≡◌, ℕ, suc, false, List, [], ◌∷◌, ◌++◌, map, refl, ap, sym, ◌∙◌}
use Rattle.std.proofs.lemmas.List.{append-nil}
use Rattle.gql_base.specs.declared.path_segment.PathSegment.{PathSegment}
use Rattle.gql_base.specs.declared.pos.Pos.{Pos}
use Rattle.gql_doc.specs.declared.document.Field.{Field}
use Rattle.gql_doc.specs.declared.document.Positioned.{Positioned}
use Rattle.gql_doc.specs.declared.document.Selection.{Selection}
use Rattle.gql_meaning.specs.Completion.{Completed}
use Rattle.gql_place.specs.Filled.{fill}
use Rattle.gql_place.specs.declared.place.Place.{Place}
use Rattle.gql_resolve.specs.Call.{Call}
use Rattle.gql_resolve.specs.declared.answer.Answer.{Answer}
use Rattle.gql_select.specs.Collected.{own_selections}
use Rattle.gql_objects.specs.Members.{members_with}
use Rattle.gql_collect.specs.GroupFields.{groups_in}
use Rattle.gql_complete.specs.FillShape.{Made, tree_with}
use Rattle.gql_objects.specs.Jobs.{jobs_at}
use Rattle.gql_collect.specs.Levels.{asked_in, asked_on}
use Rattle.gql_objects.specs.ExecuteSelectionSet.{beneath_by, members_by, place_by}
use Rattle.gql_objects.specs.ExecuteSelectionSet.{members_of_tasks}
use Rattle.gql_complete.specs.FoundObjects.{bare, Spot, spots}
use Rattle.gql_collect.specs.declared.basis.Basis.{Basis}
use Rattle.gql_objects.proofs.MembersLemmas.{members_are}
use Rattle.gql_complete.proofs.FillLemmas.{filled_is}
use Rattle.gql_objects.proofs.JobLemmas.{jobs_by_is}

module _ {V : Type 0} (basis : Basis) (answer : Call V → Answer V) (n : ℕ) where
  -- the members of an object, of the places of its tasks with one level of sets less
  pub members_merged : (spot : Spot V) (selections : List (Positioned Selection)) (rest : List Place)
      → members_with spot.object (asked_in basis spot.object selections)
      (map (place_by basis answer n) (jobs_at basis selections spot) ++ rest)
      ≡ members_by basis answer (suc n) spot.object spot.parent selections
  members_merged spot selections rest =
      let fields : List (List ℕ × Positioned Field) = groups_in false basis spot.object selections in
      ap (λ js. members_with spot.object (asked_on basis spot.object fields) (map (place_by basis answer n) js ++ rest))
      (sym (jobs_by_is basis spot fields))
      ∙ members_are basis answer spot (λ field. beneath_by basis answer n field) fields rest

  pub members_alone : (spot : Spot V) (selections : List (Positioned Selection))
      → members_of_tasks basis answer n selections spot ≡ members_by basis answer (suc n) spot.object spot.parent selections
  members_alone spot selections =
      ap (λ ps. members_with spot.object (asked_in basis spot.object selections) ps)
      (sym (append-nil (map (place_by basis answer n) (jobs_at basis selections spot))))
      ∙ members_merged spot selections []

  all_merged : (selections : List (Positioned Selection)) (ss : List (Spot V))
      → map (members_of_tasks basis answer n selections) ss
      ≡ map (λ (spot : Spot V). members_by basis answer (suc n) spot.object spot.parent selections) ss
  all_merged selections [] = refl
  all_merged selections (s ∷ ss) = λ i. members_alone s selections i ∷ all_merged selections ss i

  -- the tree of a completed answer, of the places of the tasks under it
  pub tree_merged : (pos : Pos) (field : Positioned Field) (c : Completed V) (path : List PathSegment)
      → tree_with pos (bare c) (map (members_of_tasks basis answer n (own_selections field)) (spots c path))
      ≡ fill pos (beneath_by basis answer (suc n) field) c
  tree_merged pos field c path =
      ap (λ ms. tree_with pos (bare c) ms) (all_merged (own_selections field) (spots c path))
      ∙ ap (λ ms. tree_with pos (bare c) ms) (sym
      (append-nil (map (λ (spot : Spot V). beneath_by basis answer (suc n) field spot.object spot.parent) (spots c path))))
      ∙ ap (λ (m : Made). m.tree) (filled_is pos (beneath_by basis answer (suc n) field) c path [])
