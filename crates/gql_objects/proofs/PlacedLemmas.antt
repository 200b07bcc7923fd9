-- The place of what a task came to is that of merged execution, where those under it are.
use Rattle.std.proofs.Common.{◌≡◌, ℕ, zero, suc, Bool, true, false, List, [], ◌∷◌, ◌++◌, map, refl, ap, sym, subst, ◌∙◌, append_assoc}
use Rattle.std.proofs.lemmas.List.{append-nil, map-append}
use Rattle.std.specs.List.{AllByRecursion, flat_map}
use Rattle.gql_base.specs.Pairs.{HasDistinctNames, unite_all, values_of}
use Rattle.gql_doc.specs.declared.document.Positioned.{Positioned}
use Rattle.gql_doc.specs.declared.document.Selection.{Selection}
use Rattle.gql_meaning.specs.Responses.{placed}
use Rattle.gql_place.specs.Filled.{fill}
use Rattle.gql_place.specs.Alike.{Paired, Same, SameItems, SameMembers}
use Rattle.gql_place.specs.Join.{join}
use Rattle.gql_place.specs.Pieces.{place_in}
use Rattle.gql_place.specs.declared.piece.Piece.{Piece}
use Rattle.gql_place.specs.declared.place.Place.{Place}
use Rattle.gql_place.proofs.PieceLemmas.{items_cons, items_refl, same_trans}
use Rattle.gql_resolve.specs.Call.{Call}
use Rattle.gql_resolve.specs.declared.answer.Answer.{Answer}
use Rattle.gql_resolve.specs.declared.field_value.FieldValue.{FieldValue}
use Rattle.gql_select.specs.Collected.{own_selections, Setting}
use Rattle.gql_select.specs.Reading.{over}
use Rattle.gql_objects.specs.Members.{members_with, place_of_job, places_behind_all}
use Rattle.gql_objects.specs.Assembly.{AreApart, beneath_due, IsFilledDue, IsMade, IsRight, members_each, place_made}
use Rattle.gql_collect.specs.Basis.{execution_of, setting_by}
use Rattle.gql_collect.specs.GroupFields.{groups_by, groups_in, keeps_whole}
use Rattle.gql_complete.specs.FillShape.{Made, tree_with}
use Rattle.gql_objects.specs.KeptTasks.{IsFilled}
use Rattle.gql_objects.specs.Jobs.{completed_by, Job, jobs_at, jobs_beneath}
use Rattle.gql_collect.specs.Levels.{asked_in, asked_in_as}
use Rattle.gql_objects.specs.ExecuteSelectionSet.{beneath_by, members_by, place_by}
use Rattle.gql_objects.specs.Parents.{standing_at, standing_behind}
use Rattle.gql_complete.specs.FoundObjects.{bare, Spot, spots}
use Rattle.gql_collect.specs.Nesting.{IsWithin}
use Rattle.gql_collect.specs.declared.basis.Basis.{Basis}
use Rattle.gql_collect.specs.declared.basis.Grouping.{Grouping}
use Rattle.gql_collect.specs.declared.basis.Grouping.TheVariants as grouping
use Rattle.gql_objects.specs.declared.assembly.kept.Filled.{Filled}
use Rattle.gql_objects.proofs.MembersLemmas.{places_left}
use Rattle.gql_objects.proofs.ObjectLevelLemmas.{below_all, below_at, IsBelow}
use Rattle.gql_complete.proofs.FillLemmas.{filled_is}
use Rattle.gql_objects.proofs.JobLemmas.{level_jobs}
use Rattle.gql_objects.proofs.SelectionSetLemmas.{members_merged}
use Rattle.gql_objects.proofs.SeenLemmas.{distinct_asked, members_with_same, place_made_same}
use Rattle.gql_collect.proofs.CollectedLemmas.{none_collected}
use Rattle.gql_collect.proofs.NestingLemmas.{groups_none}

-- where places aren't kept whole, occurrences are grouped by their keys
by_key : (by : Grouping) → keeps_whole by ≡ false → by ≡ grouping.ByKey
by_key grouping.ByKey data_alone = refl
by_key grouping.ByKeyWhole data_alone = cc
by_key grouping.Each data_alone = cc

-- so no object has a key twice
pub apart_at : (is_root : Bool) (basis : Basis) (object : List ℕ) (selections : List (Positioned Selection))
    → keeps_whole basis.grouping ≡ false
    → HasDistinctNames (asked_in_as is_root basis object selections)
apart_at is_root basis object selections data_alone = distinct_asked is_root basis object selections (by_key basis.grouping data_alone)

apart_spots : {V : Type 0} (basis : Basis) (selections : List (Positioned Selection)) (ss : List (Spot V))
    → AreApart (keeps_whole basis.grouping) (map (standing_at basis selections) ss)
apart_spots basis selections [] = tt
apart_spots basis selections (s ∷ ss) = (apart_at false basis s.object selections, apart_spots basis selections ss)

items_before : (whole : Bool) (ps qs rest : List Place) → SameItems whole ps qs → SameItems whole (ps ++ rest) (qs ++ rest)
items_before true ps qs rest same = ap (λ xs. xs ++ rest) same
items_before false ps qs rest same = by ps qs same
  where
    by : (xs ys : List Place) → SameItems false xs ys → SameItems false (xs ++ rest) (ys ++ rest)
    by [] [] s = items_refl false rest
    by [] (y ∷ ys) s = absurd s
    by (x ∷ xs) [] s = absurd s
    by (x ∷ xs) (y ∷ ys) s = (s.0, by xs ys s.1)

module _ {V : Type 0} (answer : Call V → Answer V) where
  -- right places of tasks that are within so many levels
  pub all_placed : (basis : Basis) (n : ℕ) (jobs : List (Job V)) (places : List Piece) → AllByRecursion (IsBelow basis n) jobs
      → Paired (IsRight answer) jobs places
      → SameItems (keeps_whole basis.grouping) (map place_in places) (map (place_by basis answer n) jobs)
  all_placed basis n [] [] below right = items_refl (keeps_whole basis.grouping) []
  all_placed basis n [] (p ∷ places) below right = absurd right
  all_placed basis n (j ∷ jobs) [] below right = absurd right
  all_placed basis n (j ∷ jobs) (p ∷ places) below right =
      let same = below.0.basis_is in
      items_cons (keeps_whole basis.grouping) (place_in p) (place_by basis answer n j) (map place_in places)
      (map (place_by basis answer n) jobs)
      (subst (λ (b : Basis). Same (keeps_whole b.grouping) (place_in p) (place_by b answer n j)) same
      (right.0 n (subst (λ b. IsWithin (setting_by b) n (own_selections j.field)) (sym same) below.0.within)))
      (all_placed basis n jobs places below.1 right.1)

  module _ (basis : Basis) (n : ℕ) (selections : List (Positioned Selection)) where
    abbrev own_places : Spot V → List Place
    own_places spot = map (place_by basis answer n) (jobs_at basis selections spot)

    -- an object takes the places of its own tasks
    spot_left : (spot : Spot V) (rest : List Place)
        → places_behind_all (values_of (asked_in basis spot.object selections)) (own_places spot ++ rest) ≡ rest
    spot_left spot rest =
        ap (λ js. places_behind_all (values_of (asked_in basis spot.object selections)) (map (place_by basis answer n) js ++ rest))
        (sym (level_jobs basis spot selections))
        ∙ places_left basis spot (place_by basis answer n) (groups_in false basis spot.object selections) rest

    -- objects one after another
    pub each_merged : (ss : List (Spot V)) (rest : List Place)
        → members_each (map (standing_at basis selections) ss)
        (map (place_by basis answer n) (flat_map (jobs_at basis selections) ss) ++ rest)
        ≡ map (λ (spot : Spot V). members_by basis answer (suc n) spot.object spot.parent selections) ss
    each_merged [] rest = refl
    each_merged (s ∷ ss) rest =
        let others = map (place_by basis answer n) (flat_map (jobs_at basis selections) ss) ++ rest in
        let split : map (place_by basis answer n) (flat_map (jobs_at basis selections) (s ∷ ss)) ++ rest ≡ own_places s ++ others
        = ap (λ ps. ps ++ rest) (map-append (place_by basis answer n) (jobs_at basis selections s) (flat_map (jobs_at basis selections) ss))
        ∙ append_assoc (own_places s) (map (place_by basis answer n) (flat_map (jobs_at basis selections) ss)) rest in
        ap (λ ps. members_with s.object (asked_in basis s.object selections) ps
        ∷ members_each (map (standing_at basis selections) ss) (places_behind_all (values_of (asked_in basis s.object selections)) ps))
        split
        ∙ (λ i. members_merged basis answer n s selections others i ∷ members_each (map (standing_at basis selections) ss)
        (spot_left s others i))
        ∙ ap (λ ms. members_by basis answer (suc n) s.object s.parent selections ∷ ms) (each_merged ss rest)

  -- a place of what a task came to, with the members of its objects
  made_merged : (job : Job V) (filled : Filled V) (n : ℕ) (own : List Place) → IsFilled job (answer job.asking.call) filled
      → own ≡ map (place_by job.basis answer n) (jobs_beneath job (answer job.asking.call))
      → place_made filled own ≡ place_by job.basis answer (suc n) job
  made_merged job filled n own fits own_is =
      let a = answer job.asking.call in
      let c = completed_by job a in
      let sels = own_selections job.field in
      let members : members_each (map standing_behind filled.parents.items) own
      ≡ map (λ (spot : Spot V). members_by job.basis answer (suc n) spot.object spot.parent sels) (spots c job.path)
      = (λ i. members_each (fits.parents_are i) ((own_is ∙ sym (append-nil (map (place_by job.basis answer n) (jobs_beneath job a)))) i))
      ∙ each_merged job.basis n sels (spots c job.path) [] in
      let tree : tree_with job.field.pos (bare c)
      (map (λ (spot : Spot V). members_by job.basis answer (suc n) spot.object spot.parent sels) (spots c job.path))
      ≡ fill job.field.pos (beneath_by job.basis answer (suc n) job.field) c
      = ap (λ ms. tree_with job.field.pos (bare c) ms)
      (sym (append-nil (map (λ (spot : Spot V). members_by job.basis answer (suc n) spot.object spot.parent sels) (spots c job.path))))
      ∙ ap (λ (m : Made). m.tree) (filled_is job.field.pos (beneath_by job.basis answer (suc n) job.field) c job.path []) in
      λ i. record {
        pos = fits.pos_is i;
        non_null = fits.non_null_is i;
        added = fits.added_is i;
        headers = fits.headers_is i;
        tree = ((λ k. tree_with (fits.pos_is k) (fits.shape_is k) (members k)) ∙ tree) i;
      }

  -- no levels are as good as one where no object has fields
  none_is_one : (setting : Setting) (selections : List (Positioned Selection)) → IsWithin setting zero selections
      → IsWithin setting (suc zero) selections
  none_is_one setting selections within = λ object. subst (AllByRecursion (λ field. IsWithin setting zero (own_selections field)))
      (sym (within object)) tt

  members_none : (basis : Basis) (selections : List (Positioned Selection)) → IsWithin (setting_by basis) zero selections
      → (object : List ℕ) (parent : FieldValue V)
      → members_by basis answer (suc zero) object parent selections ≡ []
  members_none basis selections within object parent =
      ap (λ fs. unite_all join [] (over (λ f. placed (execution_of basis) false answer object parent f
      (λ inner parent. [])) (groups_by basis.grouping (setting_by basis) fs)))
      (none_collected basis.grouping basis object selections (within object))
      ∙ ap (λ ms. unite_all join [] (over (λ f. placed (execution_of basis) false answer object parent f (λ inner parent. [])) ms))
      (groups_none basis.grouping (setting_by basis))

  -- what is kept of a place, of what is kept of right places of the tasks under it
  made_same : (job : Job V) (filled : Filled V) (own : List Piece) (piece : Piece) (n : ℕ) → IsFilledDue answer job filled
      → IsMade filled own piece
      → SameItems (keeps_whole job.basis.grouping) (map place_in own) (map (place_by job.basis answer n) (beneath_due answer job))
      → Same (keeps_whole job.basis.grouping) (place_in piece) (place_by job.basis answer (suc n) job)
  made_same job filled own piece n fits made same =
      let whole = keeps_whole job.basis.grouping in
      let due : List Place = map (place_by job.basis answer n) (beneath_due answer job) in
      let apart : AreApart whole (map standing_behind filled.parents.items)
      = subst (AreApart whole) (sym fits.parents_are)
      (apart_spots job.basis (own_selections job.field) (spots (completed_by job (answer job.asking.call)) job.path)) in
      same_trans whole (place_in piece) (place_made filled (map place_in own)) (place_by job.basis answer (suc n) job)
      (subst (λ b. AreApart b (map standing_behind filled.parents.items) → Same b (place_in piece) (place_made filled (map place_in own)))
      fits.whole_is made apart)
      (subst (Same whole (place_made filled (map place_in own))) (made_merged job filled n due fits refl)
      (place_made_same whole filled (map place_in own) due apart same))

  -- the place of what a task came to is right, where those under it are
  pub made_right : (job : Job V) (filled : Filled V) (own : List Piece) (piece : Piece) → IsFilledDue answer job filled
      → IsMade filled own piece
      → Paired (IsRight answer) (beneath_due answer job) own → IsRight answer job piece
  made_right job filled own piece fits made right zero within =
      let sels = own_selections job.field in
      subst (Same (keeps_whole job.basis.grouping) (place_in piece))
      (λ i. place_of_job answer (λ object parent. members_none job.basis sels within object parent i) job)
      (made_same job filled own piece zero fits made
      (all_placed job.basis zero (jobs_beneath job (answer job.asking.call)) own
      (below_all job.basis zero sels (spots (completed_by job (answer job.asking.call)) job.path)
      (none_is_one (setting_by job.basis) sels within)) right))
  made_right job filled own piece fits made right (suc n) within =
      made_same job filled own piece n fits made
      (all_placed job.basis n (jobs_beneath job (answer job.asking.call)) own
      (below_all job.basis n (own_selections job.field) (spots (completed_by job (answer job.asking.call)) job.path) within) right)

  -- the first of right places
  pub record Split (jobs : List (Job V)) (places : List Piece) : Type 0 where
    pub front : List Piece
    pub rest : List Piece
    pub is : places ≡ front ++ rest
    pub right : Paired (IsRight answer) jobs front

  pub split_right : (jobs more : List (Job V)) (places : List Piece) → Paired (IsRight answer) (jobs ++ more) places → Split jobs places
  split_right [] more places right = record { front = []; rest = places; is = refl; right = tt }
  split_right (j ∷ jobs) more [] right = absurd right
  split_right (j ∷ jobs) more (p ∷ places) right =
      let next = split_right jobs more places right.1 in
      record { front = p ∷ next.front; rest = next.rest; is = ap (λ ps. p ∷ ps) next.is; right = (right.0, next.right) }

  -- the members of the root, of the places of its tasks
  pub root_right : (basis : Basis) (n : ℕ) (selections : List (Positioned Selection)) (spot : Spot V) (more : List (Job V))
      (places : List Piece)
      → IsWithin (setting_by basis) (suc n) selections → Paired (IsRight answer) (jobs_at basis selections spot ++ more) places
      → SameMembers (keeps_whole basis.grouping) (members_with spot.object (asked_in basis spot.object selections) (map place_in places))
      (members_by basis answer (suc n) spot.object spot.parent selections)
  root_right basis n selections spot more places within right =
      let parts = split_right (jobs_at basis selections spot) more places right in
      let whole = keeps_whole basis.grouping in
      let asked = asked_in basis spot.object selections in
      let due : List Place = map (place_by basis answer n) (jobs_at basis selections spot) in
      let rest : List Place = map place_in parts.rest in
      let split : map place_in places ≡ map place_in parts.front ++ rest = ap (map place_in) parts.is
      ∙ map-append place_in parts.front parts.rest in
      subst (λ ps. SameMembers whole (members_with spot.object asked ps)
      (members_by basis answer (suc n) spot.object spot.parent selections)) (sym split)
      (subst (SameMembers whole (members_with spot.object asked (map place_in parts.front ++ rest)))
      (members_merged basis answer n spot selections rest)
      (members_with_same whole spot.object asked (map place_in parts.front ++ rest) (due ++ rest)
      (apart_at false basis spot.object selections)
      (items_before whole (map place_in parts.front) due rest
      (all_placed basis n (jobs_at basis selections spot) parts.front (below_at basis n selections spot within) parts.right))))
