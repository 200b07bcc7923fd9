-- What the exact walk changes, step by step.
use Rattle.std.proofs.Common.{◌≡◌, ◌↔◌, inl, inr, ℕ, zero, suc, ◌+◌, ◌<◌, ◌≤◌, Bool, true, false, ◌&&◌, List, [], ◌∷◌, ◌++◌, take, length, get_or, Some, None, Result, Ok, Err, IfOk, slice_get, slice_index_or, refl, ap, sym, subst, ◌∙◌, add-one, append-nil, arith}
use Rattle.std.proofs.lemmas.List.{take_all}
use Rattle.std.proofs.lemmas.List.Elements.{Contains-append_cases, Contains-append_left, Contains-append_right}
use Rattle.std.specs.List.{Contains, flat_map}
use Rattle.gql_doc.specs.declared.document.Field.{Field}
use Rattle.gql_doc.specs.declared.document.Positioned.{Positioned}
use Rattle.gql_doc.specs.declared.document.Selection.{Selection}
use Rattle.gql_base.specs.Pairs.{values_of}
use Rattle.gql_doc.specs.Depth.{operation_set, operations_in, selections_of}
use Rattle.gql_doc.specs.declared.document.DocumentOperations.{DocumentOperations}
use Rattle.gql_doc.specs.declared.document.DocumentOperations.TheVariants.{Multiple, Single}
use Rattle.gql_doc.specs.declared.document.ExecutableDocument.{ExecutableDocument}
use Rattle.gql_doc.specs.declared.document.OperationDefinition.{OperationDefinition}
use Rattle.gql_select.specs.Alike.{name_of}
use Rattle.gql_select.specs.Collected.{own_selections}
use Rattle.gql_conflicts.specs.DocumentConflicts.{Lists, conflicts_at, document_conflicts, operation_conflicts}
use Rattle.gql_conflicts.specs.Merged.{merged_tells}
use Rattle.gql_conflicts.specs.Nested.{AreNested}
use Rattle.gql_conflicts.specs.Nesting.{FieldsNest, Nests, OperationNests, OperationsNest}
use Rattle.gql_conflicts.specs.Rooted.{root_of, rooted_of, type_beneath}
use Rattle.gql_conflicts.specs.Seen.{HasSeen, IsVisit, OnlyAdds}
use Rattle.gql_conflicts.specs.Walk.{among_tells, beneath_tells, collected, operation_tells, set_tells, type_tells}
use Rattle.gql_conflicts.specs.CleanPairs.{DoAgree, HasAllPairs}
use Rattle.gql_conflicts.specs.Walked.{AreTold, IsSound, Keeps, PairsUp, Walks, is_nothing}
use Rattle.gql_conflicts.specs.declared.clean_pair.CleanPair.{CleanPair}
use Rattle.gql_conflicts.proofs.CleanLemmas.{known_tell, nothing_is, pairs_agree}
use Rattle.gql_conflicts.specs.declared.conflict.Conflict.{Conflict}
use Rattle.gql_conflicts.specs.declared.merged.Merged.{Merged}
use Rattle.gql_conflicts.specs.declared.reader.Reader.{Reader}
use Rattle.gql_conflicts.specs.declared.visit.Visit.{Visit}
use Rattle.gql_conflicts.specs.declared.walked.Walked.{Walked}
use Rattle.gql_conflicts.proofs.MergedLemmas.{beneath_by_type, tells_like}
use Rattle.gql_conflicts.proofs.NestedLemmas.{collected_nest, document_nests, level_told}
use Rattle.gql_conflicts.proofs.WalkLemmas.{flat_more}

-- nothing has no item
pub no_item : {A : Type 0} (x : A) → Contains [] x → ⊥
no_item x (k, within, is) = omega (arith, within)

-- nothing is told by two parts where neither tells anything
nothing_both : (xs ys : List Conflict) → is_nothing (xs ++ ys) ≡ (is_nothing xs && is_nothing ys)
nothing_both [] ys = refl
nothing_both (x ∷ xs) ys = refl

-- what is told stays told where more is found
told_on : (tells : List Conflict) (old new : Walked) → ((found : Conflict) → Contains old.found found → Contains new.found found) → AreTold tells old → AreTold tells new
told_on tells old new kept told = λ found there. kept found (told found there)

module _ (reader : Reader) where
  -- nothing is told
  pub walks_none : (walked : Walked) → Walks reader [] true walked walked
  walks_none walked = record {
    kept = λ found there. there;
    only = λ found there. inl there;
    has = λ sound found there. absurd (no_item found there);
    clean_is = λ sound. refl;
    sound = λ sound. sound;
  }

  -- two steps, one after the other
  pub walks_then : (first second : List Conflict) (one other : Bool) (old now new : Walked) → Walks reader first one old now → Walks reader second other now new
      → Walks reader (first ++ second) (one && other) old new
  walks_then first second one other old now new before after = record {
    kept = λ found there. after.kept found (before.kept found there);
    only = λ found there.
        elim (after.only found there) [
          | inl between ↦ elim (before.only found between) [ inl h ↦ inl h | inr h ↦ inr (Contains-append_left first second found h) ]
          | inr h ↦ inr (Contains-append_right first second found h)
        ];
    has = λ sound found there.
        elim (Contains-append_cases first second found there) [
          | inl h ↦ after.kept found (before.has sound found h)
          | inr h ↦ after.has (before.sound sound) found h
        ];
    clean_is = λ sound. both_are (before.clean_is sound) (after.clean_is (before.sound sound)) ∙ sym (nothing_both first second);
    sound = λ sound. after.sound (before.sound sound);
  }
    where
      both_are : one ≡ is_nothing first → other ≡ is_nothing second → (one && other) ≡ (is_nothing first && is_nothing second)
      both_are p q = λ i. p i && q i

  -- what is told, in other words
  pub walks_same : (tells same : List Conflict) (clean : Bool) (old new : Walked) → tells ≡ same → Walks reader tells clean old new → Walks reader same clean old new
  walks_same tells same clean old new is walks = subst (λ list. Walks reader list clean old new) is walks

  -- what is put after the others is told
  pub walks_told : (tells : List Conflict) (old new : Walked) → new.found ≡ old.found ++ tells → new.seen ≡ old.seen → new.pairs ≡ old.pairs
      → Walks reader tells (is_nothing tells) old new
  walks_told tells old new is stays pairs_stay =
      let kept : (found : Conflict) → Contains old.found found → Contains new.found found
      = λ found there. subst (λ list. Contains list found) (sym is) (Contains-append_left old.found tells found there) in
      record {
        kept = kept;
        only = λ found there. Contains-append_cases old.found tells found (subst (λ list. Contains list found) is there);
        has = λ sound found there. subst (λ list. Contains list found) (sym is) (Contains-append_right old.found tells found there);
        clean_is = λ sound. refl;
        sound = λ sound. record {
          told = λ visit there. told_on (merged_tells reader visit.merged) old new kept (sound.told visit (subst (λ seen. Contains seen.visits.items visit) stays there));
          clean = λ visit there. sound.clean visit (subst (λ seen. Contains seen.visits.items visit) stays there);
          agree = λ pair there. sound.agree pair (subst (λ pairs. Contains pairs.pairs.items pair) pairs_stay there);
        };
      }

  -- what was walked through is told
  pub walks_seen : (walked : Walked) (merged : Merged) (clean : Bool) → HasSeen walked.seen.visits.items merged clean
      → Walks reader (merged_tells reader merged) clean walked walked
  walks_seen walked merged clean (visit, there, is) =
      let same : merged_tells reader visit.merged ≡ merged_tells reader merged = tells_like reader visit.merged merged is.like in
      record {
        kept = λ found h. h;
        only = λ found h. inl h;
        has = λ sound found h. sound.told visit there found (subst (λ list. Contains list found) (sym same) h);
        clean_is = λ sound. sym is.clean_is ∙ sound.clean visit there ∙ ap is_nothing same;
        sound = λ sound. sound;
      }

  -- a merged set of which each two sets are known to agree tells nothing
  pub walks_known : (walked : Walked) (merged : Merged) → HasAllPairs walked.pairs.pairs.items merged → Walks reader (merged_tells reader merged) true walked walked
  walks_known walked merged has =
      let none : IsSound reader walked → merged_tells reader merged ≡ [] = λ sound. known_tell reader merged walked.pairs.pairs.items sound.agree has in
      record {
        kept = λ found h. h;
        only = λ found h. inl h;
        has = λ sound found h. absurd (no_item found (subst (λ list. Contains list found) (none sound) h));
        clean_is = λ sound. ap is_nothing (sym (none sound));
        sound = λ sound. sound;
      }

  -- pairs that were kept agree
  still_agree : (merged : Merged) (clean : Bool) (old now : Walked) → PairsUp merged clean old now → clean ≡ is_nothing (merged_tells reader merged)
      → IsSound reader old → (pair : CleanPair) → Contains now.pairs.pairs.items pair → DoAgree reader pair
  still_agree merged true old now up is sound pair there =
      pairs_agree reader merged old.pairs.pairs.items now.pairs.pairs.items (nothing_is (merged_tells reader merged) is) (up.clean_adds refl) sound.agree pair there
  still_agree merged false old now up is sound pair there = sound.agree pair (subst (λ pairs. Contains pairs.pairs.items pair) (up.others_stay refl) there)

  -- what a visit tells is told where it is one of the old ones, or that of what is told now
  pub keeps_added : (merged : Merged) (clean : Bool) (old now new : Walked) → PairsUp merged clean old now → new.found ≡ now.found → new.pairs ≡ now.pairs
      → OnlyAdds merged clean now.seen.visits.items new.seen.visits.items → Keeps reader merged clean old new
  keeps_added merged clean old now new up found_stay pairs_stay adds =
      let same : new.found ≡ old.found = found_stay ∙ up.found_are in
      let seen_is = up.seen_is in
      record {
        found_are = same;
        sound = λ clean_is told sound. record {
          told = λ visit there found h.
              subst (λ list. Contains list found) (sym same)
              (elim (adds visit there) [
                | inl before ↦ sound.told visit (subst (λ seen. Contains seen.visits.items visit) seen_is before) found h
                | inr is ↦ told found (subst (λ list. Contains list found) (tells_like reader visit.merged merged is.like) h)
              ]);
          clean = λ visit there.
              elim (adds visit there) [
                | inl before ↦ sound.clean visit (subst (λ seen. Contains seen.visits.items visit) seen_is before)
                | inr is ↦ is.clean_is ∙ clean_is ∙ ap is_nothing (sym (tells_like reader visit.merged merged is.like))
              ];
          agree = λ pair there.
              still_agree merged clean old now up clean_is sound pair (subst (λ pairs. Contains pairs.pairs.items pair) pairs_stay there);
        };
      }

  -- what is told now is remembered
  pub walks_kept : (merged : Merged) (clean : Bool) (old now new : Walked) → Walks reader (merged_tells reader merged) clean old now
      → Keeps reader merged clean now new → Walks reader (merged_tells reader merged) clean old new
  walks_kept merged clean old now new walks keeps = record {
    kept = λ found there. subst (λ list. Contains list found) (sym keeps.found_are) (walks.kept found there);
    only = λ found there. walks.only found (subst (λ list. Contains list found) keeps.found_are there);
    has = λ sound found there. subst (λ list. Contains list found) (sym keeps.found_are) (walks.has sound found there);
    clean_is = walks.clean_is;
    sound = λ sound. keeps.sound (walks.clean_is sound) (walks.has sound) (walks.sound sound);
  }

  -- what each of some tells, one after another
  pub walks_step : {A : Type 0} (f : A → List Conflict) (xs : List A) (i : ℕ) (x : A) (one other : Bool) (old now new : Walked) → slice_get xs i ≡ Some x
      → Walks reader (flat_map f (take i xs)) one old now → Walks reader (f x) other now new → Walks reader (flat_map f (take (i + 1) xs)) (one && other) old new
  walks_step f xs i x one other old now new at before step =
      walks_same (flat_map f (take i xs) ++ f x) (flat_map f (take (i + 1) xs)) (one && other) old new
      (sym (flat_more f xs i x at) ∙ ap (λ n. flat_map f (take n xs)) (sym (add-one i)))
      (walks_then (flat_map f (take i xs)) (f x) one other old now new before step)

  -- what none of some tells, and what all of them tell
  pub walks_begin : {A : Type 0} (f : A → List Conflict) (xs : List A) (walked : Walked) → Walks reader (flat_map f (take 0 xs)) true walked walked
  walks_begin f [] walked = walks_none walked
  walks_begin f (x ∷ xs) walked = walks_none walked

  pub walks_end : {A : Type 0} (f : A → List Conflict) (xs : List A) (i : ℕ) (clean : Bool) (old new : Walked) → length xs ≤ i
      → Walks reader (flat_map f (take i xs)) clean old new → Walks reader (flat_map f xs) clean old new
  walks_end f xs i clean old new over = walks_same (flat_map f (take i xs)) (flat_map f xs) clean old new (ap (flat_map f) (take_all i xs over))

  -- what is told under a field of an object
  pub beneath_told : (left : ℕ) (object : List ℕ) (field : Positioned Field) (ty name : List ℕ) → name ≡ name_of field
      → type_beneath (rooted_of reader.rooted.now) object name ≡ Some ty → type_tells reader left ty (own_selections field) ≡ beneath_tells reader left object field
  beneath_told left object field ty name named is =
      sym (beneath_by_type reader left object field (Some ty) (ap (type_beneath (rooted_of reader.rooted.now) object) (sym named) ∙ is))

  pub unknown_told : (left : ℕ) (object : List ℕ) (field : Positioned Field) (name : List ℕ) → name ≡ name_of field
      → type_beneath (rooted_of reader.rooted.now) object name ≡ None → [] ≡ beneath_tells reader left object field
  unknown_told left object field name named is =
      sym (beneath_by_type reader left object field None (ap (type_beneath (rooted_of reader.rooted.now) object) (sym named) ∙ is))

  module _ {E : Type 0} where
    -- what a part tells is what another does, where the sets of both nest
    pub walks_for : (r : Result Bool E) (P Q : Type 0) (tells same : List Conflict) (old new : Walked) → (Q → P) → (Q → tells ≡ same)
        → IfOk r (λ clean. P → Walks reader tells clean old new) → IfOk r (λ clean. Q → Walks reader same clean old new)
    walks_for (Ok clean) P Q tells same old new so is walks = λ nest. walks_same tells same clean old new (is nest) (walks (so nest))
    walks_for (Err e) P Q tells same old new so is walks = tt

    -- what a part tells is told in a type for which it was made
    pub walks_at : (r : Result Bool E) (IsFor : List ℕ → Type 0) (P : Type 0) (tells : List ℕ → List Conflict) (ty : List ℕ) (old new : Walked) → IsFor ty
        → IfOk r (λ clean. (t : List ℕ) → IsFor t → P → Walks reader (tells t) clean old new) → IfOk r (λ clean. P → Walks reader (tells ty) clean old new)
    walks_at (Ok clean) IsFor P tells ty old new is walks = λ nest. walks ty is nest
    walks_at (Err e) IsFor P tells ty old new is walks = tt

    -- what is told in one more level
    pub walks_set : (r : Result Bool E) (left rest : ℕ) (selections : List (Positioned Selection)) (object : List ℕ) (fields : List (Positioned Field)) (old new : Walked)
        → left ≡ suc rest → fields ≡ collected reader object selections
        → IfOk r (λ clean. FieldsNest reader fields → Walks reader (among_tells reader rest object fields) clean old new)
        → IfOk r (λ clean. Nests reader selections → Walks reader (set_tells reader left selections object) clean old new)
    walks_set r left rest selections object fields old new one is =
        walks_for r (FieldsNest reader fields) (Nests reader selections) (among_tells reader rest object fields) (set_tells reader left selections object) old new
        (collected_nest reader object selections fields is)
        (λ nest. ap (among_tells reader rest object) is ∙ level_told reader rest object selections nest ∙ ap (λ n. set_tells reader n selections object) (sym one))

    -- an operation with a root tells what its set tells there
    pub walks_root : (r : Result Bool E) (operation : Positioned OperationDefinition) (root : List ℕ) (selections : List (Positioned Selection)) (old new : Walked)
        → root_of (rooted_of reader.rooted.now) operation.node.ty ≡ Some root → selections ≡ selections_of (operation_set operation)
        → IfOk r (λ clean. Nests reader selections → Walks reader (set_tells reader reader.levels selections root) clean old new)
        → IfOk r (λ clean. OperationNests reader operation → Walks reader (operation_tells reader operation) clean old new)
    walks_root r operation root selections old new there are =
        walks_for r (Nests reader selections) (OperationNests reader operation) (set_tells reader reader.levels selections root) (operation_tells reader operation) old new
        (subst (Nests reader) (sym are))
        (λ nest. ap (λ xs. set_tells reader reader.levels xs root) are
        ∙ ap (λ found. conflicts_at (rooted_of reader.rooted.now) reader.fragments.now reader.levels found (selections_of (operation_set operation))) (sym there))

    -- one operation alone, and operations in a list
    pub walks_single : (r : Result Bool E) (operations : DocumentOperations) (operation : Positioned OperationDefinition) (old new : Walked)
        → operations ≡ Single operation → IfOk r (λ clean. OperationNests reader operation → Walks reader (operation_tells reader operation) clean old new)
        → IfOk r (λ clean. OperationsNest reader (operations_in operations) → Walks reader (flat_map (operation_tells reader) (operations_in operations)) clean old new)
    walks_single r operations operation old new is =
        walks_for r (OperationNests reader operation) (OperationsNest reader (operations_in operations)) (operation_tells reader operation)
        (flat_map (operation_tells reader) (operations_in operations)) old new
        (λ nest. nest 0 operation (ap (λ ops. slice_get (operations_in ops) 0) is))
        (λ nest. sym (append-nil (operation_tells reader operation)) ∙ ap (λ ops. flat_map (operation_tells reader) (operations_in ops)) (sym is))

    pub walks_several : (r : Result Bool E) (operations : DocumentOperations) (several : List (List ℕ × Positioned OperationDefinition)) (old new : Walked)
        → operations ≡ Multiple several
        → IfOk r (λ clean. OperationsNest reader (values_of several) → Walks reader (flat_map (operation_tells reader) (values_of several)) clean old new)
        → IfOk r (λ clean. OperationsNest reader (operations_in operations) → Walks reader (flat_map (operation_tells reader) (operations_in operations)) clean old new)
    walks_several r operations several old new is =
        walks_for r (OperationsNest reader (values_of several)) (OperationsNest reader (operations_in operations)) (flat_map (operation_tells reader) (values_of several))
        (flat_map (operation_tells reader) (operations_in operations)) old new
        (subst (λ ops. OperationsNest reader (operations_in ops)) is)
        (λ nest. ap (λ ops. flat_map (operation_tells reader) (operations_in ops)) (sym is))

  -- and one without a root tells nothing
  pub walks_rootless : (operation : Positioned OperationDefinition) (walked : Walked) → root_of (rooted_of reader.rooted.now) operation.node.ty ≡ None
      → Walks reader (operation_tells reader operation) true walked walked
  walks_rootless operation walked none =
      walks_same [] (operation_tells reader operation) true walked walked
      (ap (λ found. conflicts_at (rooted_of reader.rooted.now) reader.fragments.now reader.levels found (selections_of (operation_set operation))) (sym none))
      (walks_none walked)

  -- nothing stands in a set without levels
  pub walks_ended : (left : ℕ) (selections : List (Positioned Selection)) (object : List ℕ) (walked : Walked) → left ≡ 0
      → Walks reader (set_tells reader left selections object) true walked walked
  walks_ended left selections object walked none =
      walks_same [] (set_tells reader left selections object) true walked walked (ap (λ n. set_tells reader n selections object) (sym none)) (walks_none walked)

-- where nothing was walked through, all of it is told
pub nothing_told : (reader : Reader) (walked : Walked) → walked.seen.visits.items ≡ [] → walked.pairs.pairs.items ≡ [] → IsSound reader walked
nothing_told reader walked none no_pairs =
    let no_visit : (visit : Visit) → Contains walked.seen.visits.items visit → ⊥ = λ visit there. no_item visit (subst (λ list. Contains list visit) none there) in
    record {
      told = λ visit there. absurd (no_visit visit there);
      clean = λ visit there. absurd (no_visit visit there);
      agree = λ pair there. absurd (no_item pair (subst (λ list. Contains list pair) no_pairs there));
    }

-- what a walk from nothing tells
pub walked_out : (reader : Reader) (tells : List Conflict) (clean : Bool) (old new : Walked) → old.found ≡ [] → old.seen.visits.items ≡ []
    → old.pairs.pairs.items ≡ [] → Walks reader tells clean old new → (found : Conflict) → Contains new.found found ↔ Contains tells found
walked_out reader tells clean old new none unseen no_pairs walks found = (
  λ there.
      elim (walks.only found there) [ inl before ↦ absurd (no_item found (subst (λ list. Contains list found) none before)) | inr h ↦ h ],
  λ there. walks.has (nothing_told reader old unseen no_pairs) found there,
)

-- what the walk through a document from nothing lists
pub walk_lists : (reader : Reader) (document : ExecutableDocument) (clean : Bool) (old new : Walked)
    → (OperationsNest reader (operations_in document.operations)
    → Walks reader (flat_map (operation_tells reader) (operations_in document.operations)) clean old new)
    → reader.fragments.now ≡ document.fragments → (reader.once ≡ true → AreNested document reader.levels)
    → old.found ≡ [] → old.seen.visits.items ≡ [] → old.pairs.pairs.items ≡ []
    → Lists (rooted_of reader.rooted.now) document reader.levels new.found
walk_lists reader document clean old new walks are nest none unseen no_pairs = record {
  exact = λ found.
      subst (λ tells. Contains new.found found ↔ Contains tells found) same
      (walked_out reader (flat_map (operation_tells reader) (operations_in document.operations)) clean old new none unseen no_pairs
      (walks (document_nests reader document are nest)) found);
}
  where
    same : flat_map (operation_tells reader) (operations_in document.operations) ≡ document_conflicts (rooted_of reader.rooted.now) document reader.levels
    same = ap (λ fragments. flat_map (operation_conflicts (rooted_of reader.rooted.now) fragments reader.levels) (operations_in document.operations)) are

-- the visit at a place
pub seen_at : (visits : List Visit) (place : ℕ) (visit : Visit) (merged : Merged) (clean : Bool) → place < length visits
    → visit ≡ get_or visits place visit → IsVisit merged clean visit → HasSeen visits merged clean
seen_at visits place visit merged clean within read is = (visit, (place, within, sym read), is)

-- one visit more is the only one that was added
pub only_adds : (merged : Merged) (clean : Bool) (old new : List Visit) (visit : Visit) → new ≡ old ++ visit ∷ [] → IsVisit merged clean visit
    → OnlyAdds merged clean old new
only_adds merged clean old new visit added is = λ other there.
    elim (Contains-append_cases old (visit ∷ []) other (subst (λ list. Contains list other) added there)) [
      | inl before ↦ inl before
      | inr (k, within, at) ↦ inr (subst (IsVisit merged clean) (only_one visit other k within at) is)
    ]
  where
    only_one : (visit other : Visit) (k : ℕ) → k < 1 → slice_index_or (visit ∷ []) k other ≡ other → visit ≡ other
    only_one visit other zero within at = at
    only_one visit other (suc k) within at = absurd (omega (arith, within))
