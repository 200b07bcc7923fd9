-- The tasks of an execution are as many as the answers that it asks.
use Rattle.std.proofs.Common.{rules, ◌≡◌, ◌+◌, ℕ, zero, suc, Bool, true, false, cond, List, [], ◌∷◌, ◌++◌, map, length, Option, refl, ap, sym, subst, ◌∙◌, arith}
use Rattle.std.proofs.lemmas.List.{map-append}
use Rattle.std.specs.List.{AllByRecursion, flat_map}
use Rattle.std.specs.Str.{bytes_eq}
use Rattle.gql_base.specs.Pairs.{unite, unite_all, values_of}
use Rattle.gql_base.specs.declared.path_segment.PathSegment.{PathSegment}
use Rattle.gql_base.specs.declared.path_segment.PathSegment.TheVariants as segment
use Rattle.gql_base.specs.declared.value.Value.{Value}
use Rattle.gql_base.specs.declared.value.Value.TheVariants as value
use Rattle.gql_doc.specs.Depth.{operation_set}
use Rattle.gql_doc.specs.declared.document.Field.{Field}
use Rattle.gql_doc.specs.declared.document.Positioned.{Positioned}
use Rattle.gql_doc.specs.declared.document.Selection.{Selection}
use Rattle.gql_tasks.proofs.CountLemmas.{IsCount, sum, whole_count}
use Rattle.gql_collect.specs.KeyNames.{key_text}
use Rattle.gql_tasks.specs.Progress.{story_of}
use Rattle.gql_tasks.specs.Record.{EachWaits, fresh, Made, made_at, waiting_from}
use Rattle.gql_engine.specs.declared.scene.Scene.{Scene}
use Rattle.gql_meaning.specs.Completion.{Completed}
use Rattle.gql_meaning.specs.Counted.{count_as, one_if, parents_in, parents_step, total}
use Rattle.gql_collect.specs.Execution.{Asking, field_asking}
use Rattle.gql_meaning.specs.Outcomes.{field_outcome}
use Rattle.gql_place.specs.Filled.{Outcome}
use Rattle.gql_place.specs.declared.shape.Shape.{roll-Shape, the_lemmas}
use Rattle.gql_place.specs.declared.shape.Shape.TheFolds.{fold-roll-Shape, ind-Shape, map-Shape}
use Rattle.gql_place.specs.declared.shape.Shape.TheOpen.{Shape-F}
use Rattle.gql_place.specs.declared.shape.Shape.TheVariants as shape
use Rattle.gql_resolve.specs.Call.{Call}
use Rattle.gql_resolve.specs.Layers.{layers_of}
use Rattle.gql_resolve.specs.declared.answer.Answer.{Answer}
use Rattle.gql_resolve.specs.declared.field_value.FieldValue.{FieldValue}
use Rattle.gql_resolve.specs.declared.record_entry.RecordEntry.{RecordEntry}
use Rattle.gql_select.proofs.FewerLemmas.{grouped_fewer}
use Rattle.gql_select.proofs.GroupLemmas.{by_merged_groups}
use Rattle.gql_select.specs.Collected.{own_selections, Setting}
use Rattle.gql_select.specs.Reading.{over}
use Rattle.gql_collect.specs.Asks.{asking_by, asks_of}
use Rattle.gql_objects.specs.Outcomes.{outcome_by}
use Rattle.gql_collect.specs.Basis.{execution_of, setting_by}
use Rattle.gql_engine.specs.TaskCounts.{count_by, counting_among, counting_by, counts_by, merged_count, tasks_in, tasks_of}
use Rattle.gql_collect.specs.GroupFields.{collected, groups_by, groups_in}
use Rattle.gql_objects.specs.Jobs.{completed_by, Job, job_of, jobs_at, jobs_beneath, jobs_of}
use Rattle.gql_engine.specs.ExecuteQuery.{basis_by, basis_of, job_subject, Nests, root_jobs_by, root_selections, root_spot}
use Rattle.gql_complete.specs.FoundObjects.{numbered, Spot, spots, spots_step}
use Rattle.gql_collect.specs.Nesting.{IsWithin}
use Rattle.gql_collect.specs.declared.asks.Asks.{Asks}
use Rattle.gql_collect.specs.declared.asks.Asks.TheVariants as asks
use Rattle.gql_collect.specs.declared.basis.Basis.{Basis}
use Rattle.gql_collect.specs.declared.basis.Grouping.{Grouping}
use Rattle.gql_collect.specs.declared.basis.Grouping.TheVariants as grouping
use Rattle.gql_collect.proofs.AsksLemmas.{asking_is}
use Rattle.gql_objects.proofs.OutcomeLemmas.{outcome_is}
use Rattle.gql_objects.proofs.ObjectLevelLemmas.{every_flat, every_of, jobs_all}
use Rattle.gql_engine.proofs.FewerKeyLemmas.{counted_first, is_read, nest_in, operation_nests}
use Rattle.gql_collect.proofs.CollectedLemmas.{all_collected, collected_leaves, none_collected}
use Rattle.gql_collect.proofs.NestingLemmas.{both_within, every_map, groups_all, groups_none, nests_within}

-- Sums.

pub total_append : (one other : List ℕ) → total (one ++ other) ≡ total one + total other
total_append [] other = omega arith
total_append (n ∷ one) other = let e = total_append one other in omega arith

sum_is : (ns : List ℕ) → sum ns ≡ total ns
sum_is [] = refl
sum_is (n ∷ ns) = ap (λ m. n + m) (sum_is ns)

total_flat : {X Y : Type 0} (f : Y → ℕ) (g : X → List Y) (xs : List X) → total (map f (flat_map g xs)) ≡ total (map (λ x. total (map f (g x))) xs)
total_flat f g [] = refl
total_flat f g (x ∷ xs) =
    ap total (map-append f (g x) (flat_map g xs)) ∙ total_append (map f (g x)) (map f (flat_map g xs)) ∙ ap (λ n. total (map f (g x)) + n) (total_flat f g xs)

-- what comes under a key is added
total_unite : (ps : List (List ℕ × ℕ)) (key : List ℕ) (n : ℕ) → total (values_of (unite (λ one other. one + other) ps key n)) ≡ total (values_of ps) + n
total_unite [] key n = let e : n + 0 ≡ 0 + n = omega arith in e
total_unite (p ∷ ps) key n =
    let rest = total_unite ps key n in
    elim (bytes_eq key p.0) as (λ (b : Bool). total (values_of (cond b ((p.0, p.1 + n) ∷ ps) (p ∷ unite (λ one other. one + other) ps key n))) ≡ p.1 + total (values_of ps) + n) [
      | true ↦ omega arith
      | false ↦ omega arith
    ]

total_united : (ps qs : List (List ℕ × ℕ)) → total (values_of (unite_all (λ one other. one + other) ps qs)) ≡ total (values_of ps) + total (values_of qs)
total_united ps [] = let e : total (values_of ps) ≡ total (values_of ps) + 0 = omega arith in e
total_united ps (q ∷ qs) =
    let first = total_unite ps q.0 q.1 in
    let rest = total_united (unite (λ one other. one + other) ps q.0 q.1) qs in
    omega arith

map_map : {A B C : Type 0} (g : B → C) (f : A → B) (xs : List A) → map g (map f xs) ≡ map (λ x. g (f x)) xs
map_map g f [] = refl
map_map g f (x ∷ xs) = ap (λ ys. g (f x) ∷ ys) (map_map g f xs)

total_from_none : (qs : List (List ℕ × ℕ)) → total (values_of (unite_all (λ one other. one + other) [] qs)) ≡ total (values_of qs)
total_from_none qs = let e = total_united [] qs in omega arith

over_values : {A B : Type 0} (h : A → B) (ps : List (List ℕ × A)) → values_of (over h ps) ≡ map h (values_of ps)
over_values h [] = refl
over_values h (p ∷ ps) = ap (λ vs. h p.1 ∷ vs) (over_values h ps)

-- The objects of a completed answer, as they are told with their paths.

module _ {V : Type 0} where
  abbrev pair_of : Spot V → List ℕ × FieldValue V
  pair_of spot = (spot.object, spot.parent)

  Told : Completed V → Type 0
  Told c = (path : List PathSegment) → map pair_of (spots c path) ≡ parents_in c

  module _ (E : Type 0) (s : E → Completed V) (is : (e : E) → Told (s e)) where
    items_told : (es : List E) (n : ℕ) (path : List PathSegment)
        → map pair_of (numbered n (map spots (map s es)) path) ≡ flat_map (λ (parents : List (List ℕ × FieldValue V)). parents) (map parents_in (map s es))
    unfolding Told
    items_told [] n path = refl
    items_told (e ∷ es) n path =
        map-append pair_of (spots (s e) (path ++ segment.Index n ∷ [])) (numbered (suc n) (map spots (map s es)) path)
        ∙ (λ i. is e (path ++ segment.Index n ∷ []) i ++ items_told es (suc n) path i)

    middle_told : (y : Shape-F (List ℕ) (FieldValue V) E) (path : List PathSegment)
        → map pair_of (spots_step (map-Shape (List ℕ) (FieldValue V) (Completed V) (List PathSegment → List (Spot V)) spots (map-Shape (List ℕ) (FieldValue V) E (Completed V) s y)) path)
        ≡ parents_step (map-Shape (List ℕ) (FieldValue V) (Completed V) (List (List ℕ × FieldValue V)) parents_in (map-Shape (List ℕ) (FieldValue V) E (Completed V) s y))
    middle_told Shape-F.Absent path = refl
    middle_told (Shape-F.Leaf leaf) path = refl
    middle_told (Shape-F.Fault error) path = refl
    middle_told (Shape-F.Object object parent) path = refl
    middle_told (Shape-F.List non_null es) path = items_told es 0 path

    layer_told : (y : Shape-F (List ℕ) (FieldValue V) E) → Told (roll-Shape (List ℕ) (FieldValue V) (map-Shape (List ℕ) (FieldValue V) E (Completed V) s y))
    unfolding Told
    layer_told y = λ path.
        let x : Shape-F (List ℕ) (FieldValue V) (Completed V) = map-Shape (List ℕ) (FieldValue V) E (Completed V) s y in
        ap (λ (f : List PathSegment → List (Spot V)). map pair_of (f path)) (fold-roll-Shape (List ℕ) (FieldValue V) (List PathSegment → List (Spot V)) spots_step x)
        ∙ middle_told y path
        ∙ sym (fold-roll-Shape (List ℕ) (FieldValue V) (List (List ℕ × FieldValue V)) parents_step x)

  told : (c : Completed V) → Told c
  told = ind-Shape (List ℕ) (FieldValue V) Told (λ x y is. subst (λ z. Told (roll-Shape (List ℕ) (FieldValue V) z)) is (layer_told _ (λ e. e.0) (λ e. e.1) y))

  pub spots_counted : (below : List ℕ → FieldValue V → ℕ) (c : Completed V) (path : List PathSegment)
      → map (λ (inner : List ℕ × FieldValue V). below inner.0 inner.1) (parents_in c) ≡ map (λ (spot : Spot V). below spot.object spot.parent) (spots c path)
  unfolding Told
  spots_counted below c path =
      ap (map (λ (inner : List ℕ × FieldValue V). below inner.0 inner.1)) (sym (told c path))
      ∙ map_map (λ (inner : List ℕ × FieldValue V). below inner.0 inner.1) pair_of (spots c path)

pub parents-Leaf : {V : Type 0} (leaf : Value) → parents_in {O = List ℕ} {P = FieldValue V} (shape.Leaf leaf) ≡ []
parents-Leaf leaf = search (rules, the_lemmas)

pub parents-Absent : {V : Type 0} → parents_in {O = List ℕ} {P = FieldValue V} shape.Absent ≡ []
parents-Absent = search (rules, the_lemmas)

-- The tasks of an object.

module _ {V : Type 0} (basis : Basis) (answer : Call V → Answer V) (n : ℕ) (spot : Spot V) where
  -- what is asked under a field
  abbrev beneath_count : Positioned Field → List ℕ → FieldValue V → ℕ
  beneath_count field object parent = tasks_in basis answer n object parent (own_selections field)

  -- by what a field asks
  abbrev asked_count : Positioned Field → Option (Asking V) → Outcome (List ℕ) (FieldValue V) → ℕ
  asked_count field asking outcome =
      one_if asking
      + total (map (λ (inner : List ℕ × FieldValue V). beneath_count field inner.0 inner.1) (parents_in outcome.shape))

  by_asks : (field : Positioned Field) (a : Asks)
      → asked_count field (asking_by false (layers_of basis.layers) spot.parent a) (outcome_by false (execution_of basis) answer spot.object spot.parent a)
      ≡ total (map (tasks_of answer n) (job_of basis spot field (asking_by false (layers_of basis.layers) spot.parent a)))
  by_asks field asks.Typename =
      let e = ap (λ ps. total (map (λ (inner : List ℕ × FieldValue V). beneath_count field inner.0 inner.1) ps)) (parents-Leaf (value.String spot.object)) in
      omega arith
  by_asks field asks.Nothing =
      let e = ap (λ ps. total (map (λ (inner : List ℕ × FieldValue V). beneath_count field inner.0 inner.1) ps)) (parents-Absent {V = V}) in
      omega arith
  by_asks field (asks.Call resolver ty arguments) =
      let comes = (outcome_by false (execution_of basis) answer spot.object spot.parent (asks.Call resolver ty arguments)).shape in
      let e = ap total (spots_counted (beneath_count field) comes (spot.path ++ segment.Field (key_text field) ∷ [])) in
      omega arith

  field_counted : (field : Positioned Field)
      → asked_count field (field_asking false (execution_of basis) spot.object spot.parent field) (field_outcome false (execution_of basis) answer spot.object spot.parent field)
      ≡ total (map (tasks_of answer n) (job_of basis spot field (field_asking false (execution_of basis) spot.object spot.parent field)))
  field_counted field =
      let a = asks_of (execution_of basis) spot.object field in
      let asking = asking_is false (execution_of basis) spot.parent spot.object field in
      let outcome = outcome_is false (execution_of basis) spot.parent answer spot.object field in
      (λ i. asked_count field (asking i) (outcome i))
      ∙ by_asks field a
      ∙ ap (λ o. total (map (tasks_of answer n) (job_of basis spot field o))) (sym asking)

  -- one by one
  members_counted : (members : List (List ℕ × Positioned Field))
      → total (map (λ field. asked_count field (field_asking false (execution_of basis) spot.object spot.parent field) (field_outcome false (execution_of basis) answer spot.object spot.parent field))
      (values_of members))
      ≡ total (map (tasks_of answer n) (jobs_of basis spot members))
  members_counted [] = refl
  members_counted (m ∷ members) =
      let asking = field_asking false (execution_of basis) spot.object spot.parent m.1 in
      let own = job_of basis spot m.1 asking in
      let rest = jobs_of basis spot members in
      (λ i. field_counted m.1 i + members_counted members i)
      ∙ sym (ap total (map-append (tasks_of answer n) own rest) ∙ total_append (map (tasks_of answer n) own) (map (tasks_of answer n) rest))

  -- the tasks of an object, with one level of sets more
  pub object_counted : (selections : List (Positioned Selection))
      → tasks_in basis answer (suc n) spot.object spot.parent selections ≡ total (map (tasks_of answer n) (jobs_at basis selections spot))
  object_counted selections =
      let members = groups_in false basis spot.object selections in
      let h : Positioned Field → ℕ = λ field. count_as (execution_of basis) answer false spot.object spot.parent field
      (λ object parent. counts_by basis answer n object parent (own_selections field)) in
      total_from_none (over h members)
      ∙ ap total (over_values h members)
      ∙ members_counted members

-- the tasks under a task, with one level of sets more
pub task_counted : {V : Type 0} (answer : Call V → Answer V) (n : ℕ) (job : Job V)
    → tasks_of answer (suc n) job ≡ 1 + total (map (tasks_of answer n) (jobs_beneath job (answer job.asking.call)))
task_counted answer n job =
    let comes = completed_by job (answer job.asking.call) in
    let sels = own_selections job.field in
    ap (λ m. 1 + m)
    (ap total (each_spot (spots comes job.path)) ∙ sym (total_flat (tasks_of answer n) (jobs_at job.basis sels) (spots comes job.path)))
  where
    each_spot : (ss : List _) → map (λ spot. tasks_in job.basis answer (suc n) spot.object spot.parent (own_selections job.field)) ss
        ≡ map (λ spot. total (map (tasks_of answer n) (jobs_at job.basis (own_selections job.field) spot))) ss
    each_spot [] = refl
    each_spot (s ∷ ss) = λ i. object_counted job.basis answer n s (own_selections job.field) i ∷ each_spot ss i

-- Levels beyond those within which sets nest add nothing.

module _ (setting : Setting) where
  pub within_more : (n : ℕ) (selections : List (Positioned Selection)) → IsWithin setting n selections → IsWithin setting (suc n) selections
  within_more zero selections within = λ object. subst (AllByRecursion (λ field. IsWithin setting zero (own_selections field))) (sym (within object)) tt
  within_more (suc n) selections within = λ object.
      every_map (λ field. IsWithin setting n (own_selections field)) (λ field. IsWithin setting (suc n) (own_selections field))
      (λ field h. within_more n (own_selections field) h) _ (within object)

module _ {V : Type 0} (basis : Basis) (answer : Call V → Answer V) where
  -- what is asked for a field hangs on what is asked under it alone
  abbrev with_below : List ℕ → FieldValue V → Positioned Field → (List ℕ → FieldValue V → ℕ) → ℕ
  with_below object parent field below =
      one_if (field_asking false (execution_of basis) object parent field)
      + total (map (λ (inner : List ℕ × FieldValue V). below inner.0 inner.1) (parents_in (field_outcome false (execution_of basis) answer object parent field).shape))

  level_is : (n : ℕ) (object : List ℕ) (parent : FieldValue V) (selections : List (Positioned Selection))
      → tasks_in basis answer (suc n) object parent selections
      ≡ total (map (λ field. with_below object parent field (λ o p. tasks_in basis answer n o p (own_selections field))) (values_of (groups_in false basis object selections)))
  level_is n object parent selections =
      let members = groups_in false basis object selections in
      let h : Positioned Field → ℕ = λ field. count_as (execution_of basis) answer false object parent field
      (λ o p. counts_by basis answer n o p (own_selections field)) in
      total_from_none (over h members) ∙ ap total (over_values h members)

  pub enough : (n : ℕ) (selections : List (Positioned Selection)) → IsWithin (setting_by basis) n selections → (object : List ℕ) (parent : FieldValue V)
      → tasks_in basis answer n object parent selections ≡ tasks_in basis answer (suc n) object parent selections
  enough zero selections within object parent =
      sym (level_is zero object parent selections
      ∙ ap (λ fs. total (map (λ field. with_below object parent field (λ o p. 0)) (values_of (groups_by basis.grouping (setting_by basis) fs))))
      (none_collected basis.grouping basis object selections (within object))
      ∙ ap (λ ms. total (map (λ field. with_below object parent field (λ o p. 0)) (values_of ms))) (groups_none basis.grouping (setting_by basis)))
  enough (suc n) selections within object parent =
      level_is n object parent selections
      ∙ ap total (each_field (enough n) (values_of (groups_in false basis object selections))
      (groups_all (λ field. IsWithin (setting_by basis) n (own_selections field)) (λ f g h k. both_within (setting_by basis) n f g h k)
      basis.grouping (setting_by basis) (collected basis.grouping basis object selections)
      (all_collected basis.grouping basis object (λ field. IsWithin (setting_by basis) n (own_selections field)) selections (within object))))
      ∙ sym (level_is (suc n) object parent selections)
    where
      each_field : ((inner : List (Positioned Selection)) → IsWithin (setting_by basis) n inner → (o : List ℕ) (p : FieldValue V)
          → tasks_in basis answer n o p inner ≡ tasks_in basis answer (suc n) o p inner)
          → (fields : List (Positioned Field)) → AllByRecursion (λ field. IsWithin (setting_by basis) n (own_selections field)) fields
          → map (λ field. with_below object parent field (λ o p. tasks_in basis answer n o p (own_selections field))) fields
          ≡ map (λ field. with_below object parent field (λ o p. tasks_in basis answer (suc n) o p (own_selections field))) fields
      each_field less [] h = refl
      each_field less (f ∷ fields) h =
          λ i. with_below object parent f (λ o p. less (own_selections f) h.0 o p i) ∷ each_field less fields h.1 i

-- a task whose set is within so many levels
abbrev pub TaskWithin : {V : Type 0} → ℕ → Job V → Type 0
TaskWithin n job = IsWithin (setting_by job.basis) n (own_selections job.field)

module _ {V : Type 0} (answer : Call V → Answer V) (n : ℕ) where
  spots_enough : (job : Job V) → TaskWithin n job → (ss : List (Spot V))
      → map (λ spot. tasks_in job.basis answer n spot.object spot.parent (own_selections job.field)) ss
      ≡ map (λ spot. tasks_in job.basis answer (suc n) spot.object spot.parent (own_selections job.field)) ss
  spots_enough job within [] = refl
  spots_enough job within (s ∷ ss) = λ i. enough job.basis answer n (own_selections job.field) within s.object s.parent i ∷ spots_enough job within ss i

  beneath_within : (job : Job V) → TaskWithin n job → (a : Answer V) → AllByRecursion (TaskWithin n) (jobs_beneath job a)
  beneath_within job within a =
      every_flat (TaskWithin n) (λ spot. Unit {0}) (jobs_at job.basis (own_selections job.field)) (λ spot h. at spot)
      (spots (completed_by job a) job.path) (every_of (λ spot. Unit {0}) (λ spot. tt) (spots (completed_by job a) job.path))
    where
      at : (spot : Spot V) → AllByRecursion (TaskWithin n) (jobs_at job.basis (own_selections job.field) spot)
      at spot =
          jobs_all (TaskWithin n) (λ field. IsWithin (setting_by job.basis) n (own_selections field)) job.basis spot (λ field asking q. q) (own_selections job.field)
          (groups_all (λ field. IsWithin (setting_by job.basis) n (own_selections field)) (λ f g h k. both_within (setting_by job.basis) n f g h k)
          job.basis.grouping (setting_by job.basis) (collected job.basis.grouping job.basis spot.object (own_selections job.field))
          (all_collected job.basis.grouping job.basis spot.object (λ field. IsWithin (setting_by job.basis) n (own_selections field)) (own_selections job.field)
          (within_more (setting_by job.basis) n (own_selections job.field) within spot.object)))

  -- the tasks under tasks are counted by the record's machine
  pub counting_is : (answers : Job V → Answer V) → ((job : Job V) → answers job ≡ answer job.asking.call)
      → IsCount (story_of job_subject answers) (tasks_of answer n) (TaskWithin n)
  counting_is answers same = record {
    counts = λ job within.
        ap (λ m. 1 + total m) (spots_enough job within (spots (completed_by job (answer job.asking.call)) job.path))
        ∙ task_counted answer n job
        ∙ ap (λ a. 1 + total (map (tasks_of answer n) (jobs_beneath job a))) (sym (same job))
        ∙ ap (λ m. 1 + m) (sym (sum_is (map (tasks_of answer n) (jobs_beneath job (answers job)))));
    stays = λ job within. beneath_within job within (answers job);
  }

-- The tasks of a whole execution.

module _ {V : Type 0} (by : Grouping) (scene : Scene V) (answer : Call V → Answer V) where
  roots_within : (n : ℕ) → Nests scene (suc n) → AllByRecursion (TaskWithin n) (root_jobs_by by scene)
  roots_within n nests =
      let basis = basis_by by scene in
      jobs_all (TaskWithin n) (λ field. IsWithin (setting_by basis) n (own_selections field)) basis (root_spot scene) (λ field asking q. q) (root_selections scene)
      (groups_all (λ field. IsWithin (setting_by basis) n (own_selections field)) (λ f g h k. both_within (setting_by basis) n f g h k)
      by (setting_by basis) (collected by basis (root_spot scene).object (root_selections scene))
      (all_collected by basis (root_spot scene).object (λ field. IsWithin (setting_by basis) n (own_selections field)) (root_selections scene)
      (nests_within (setting_by basis) n (operation_set scene.env.now.operation) nests (root_spot scene).object)))

  -- a whole record of the tasks has as many as are counted
  pub tasks_counted : (answers : Job V → Answer V) → ((job : Job V) → answers job ≡ answer job.asking.call) → (entries : List RecordEntry) (made : Made (Job V))
      → EachWaits (story_of job_subject answers) (fresh (root_jobs_by by scene)) entries
      → made ≡ made_at (story_of job_subject answers) (fresh (root_jobs_by by scene)) entries → waiting_from 0 made.marks ≡ []
      → (n : ℕ) → Nests scene n → length made.tasks ≡ count_by scene answer n by
  tasks_counted answers same entries made waits is none zero nests = cc
  tasks_counted answers same entries made waits is none (suc n) nests =
      whole_count (story_of job_subject answers) (tasks_of answer n) (TaskWithin n) (counting_is answer n answers same)
      (root_jobs_by by scene) entries made (roots_within n nests) waits is none
      ∙ sum_is (map (tasks_of answer n) (root_jobs_by by scene))
      ∙ sym (object_counted (basis_by by scene) answer n (root_spot scene) (root_selections scene))

-- merged execution asks as many answers as its definition
pub merged_count_is : {V : Type 0} (scene : Scene V) (answer : Call V → Answer V) (n : ℕ) → count_by scene answer n grouping.ByKey ≡ merged_count scene answer n
merged_count_is scene answer n =
    ap (λ ps. total (values_of ps))
    (by_merged_groups (counting_among (basis_of scene) answer) (λ one other. one + other) n (root_spot scene).object (root_spot scene).parent (root_selections scene)
    ∙ grouped_fewer (counting_by (basis_of scene) answer) (is_read scene) (counted_first false (execution_of (basis_of scene)) answer (setting_by (basis_of scene)))
    (collected grouping.ByKey (basis_of scene)) (nest_in scene) (collected_leaves (basis_of scene)) n (root_spot scene).object (root_spot scene).parent
    (root_selections scene) (operation_nests scene))
