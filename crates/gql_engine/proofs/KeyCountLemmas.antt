-- The tasks of a mutation are as many as the answers that it asks, root key after root key.
use Rattle.std.proofs.Common.{◌≡◌, ◌+◌, ℕ, zero, suc, true, false, List, [], ◌∷◌, ◌++◌, map, length, Option, refl, ap, sym, subst, ◌∙◌, arith}
use Rattle.std.specs.List.{AllByRecursion}
use Rattle.gql_base.specs.Pairs.{values_of}
use Rattle.gql_base.specs.declared.path_segment.PathSegment.TheVariants as segment
use Rattle.gql_base.specs.declared.value.Value.TheVariants as value
use Rattle.gql_doc.specs.Depth.{operation_set}
use Rattle.gql_doc.specs.declared.document.Field.{Field}
use Rattle.gql_doc.specs.declared.document.Positioned.{Positioned}
use Rattle.gql_doc.specs.declared.document.Selection.{Selection}
use Rattle.gql_tasks.proofs.CountLemmas.{phase_count}
use Rattle.gql_collect.specs.KeyNames.{key_text}
use Rattle.gql_tasks.specs.Phases.{answer_between, answers_in, Phases, Serving}
use Rattle.gql_tasks.specs.Record.{Choice, Stage, waiting_from}
use Rattle.gql_engine.specs.declared.scene.Scene.{Scene}
use Rattle.gql_meaning.specs.Counted.{one_if, parents_in, total}
use Rattle.gql_collect.specs.Execution.{Asking, field_asking}
use Rattle.gql_meaning.specs.Responses.{levels_beneath, world_of}
use Rattle.gql_resolve.specs.Call.{Call}
use Rattle.gql_resolve.specs.Layers.{layers_of}
use Rattle.gql_resolve.specs.declared.answer.Answer.{Answer}
use Rattle.gql_resolve.specs.declared.field_value.FieldValue.{FieldValue}
use Rattle.gql_select.proofs.FewerLemmas.{serial_fewer}
use Rattle.gql_select.proofs.GroupLemmas.{by_merged_groups}
use Rattle.gql_select.specs.Collected.{own_selections}
use Rattle.gql_select.specs.Fewer.{FirstCountsInTurn}
use Rattle.gql_select.specs.Grouped.{in_turn, respond_by}
use Rattle.gql_collect.specs.Asks.{asking_by, asks_of}
use Rattle.gql_objects.specs.Outcomes.{outcome_by}
use Rattle.gql_collect.specs.Basis.{execution_of, setting_by}
use Rattle.gql_engine.specs.TaskCounts.{counting_among, counting_keys, counts_by, serial_count, serial_count_by, tasks_in, tasks_of}
use Rattle.gql_collect.specs.GroupFields.{collected, groups_by, reading_by}
use Rattle.gql_objects.specs.Jobs.{Job, job_of, jobs_of_as}
use Rattle.gql_engine.specs.ExecuteQuery.{basis_by, basis_of, job_subject, Nests, root_selections, root_spot}
use Rattle.gql_engine.specs.ExecuteMutation.{answer_in_phase, key_jobs_by, keys_by, root_asked}
use Rattle.gql_complete.specs.FoundObjects.{Spot, spots}
use Rattle.gql_collect.specs.Nesting.{IsWithin}
use Rattle.gql_collect.specs.declared.asks.Asks.{Asks}
use Rattle.gql_collect.specs.declared.asks.Asks.TheVariants as asks
use Rattle.gql_collect.specs.declared.basis.Basis.{Basis}
use Rattle.gql_collect.specs.declared.basis.Grouping.{Grouping}
use Rattle.gql_collect.specs.declared.basis.Grouping.TheVariants as grouping
use Rattle.gql_collect.proofs.AsksLemmas.{asking_is}
use Rattle.gql_objects.proofs.OutcomeLemmas.{outcome_is}
use Rattle.gql_objects.proofs.ObjectLevelLemmas.{jobs_all_as}
use Rattle.gql_engine.proofs.TaskCountLemmas.{counting_is, parents-Absent, parents-Leaf, spots_counted, TaskWithin}
use Rattle.gql_engine.proofs.MutationLemmas.{below_outcome}
use Rattle.gql_engine.proofs.FewerKeyLemmas.{counted_first, is_read, nest_in, operation_nests, world_first}
use Rattle.gql_collect.proofs.CollectedLemmas.{all_collected, collected_leaves}
use Rattle.gql_collect.proofs.NestingLemmas.{both_within, merged_all, nests_within}

-- the tasks of root keys with all under them, each by the answers of its own phase
module _ {V W : Type 0} (serving : Serving V W) (n : ℕ) where
  abbrev pub keys_total : W → List (Job V) → ℕ
  keys_total world [] = 0
  keys_total world (root ∷ roots) =
      tasks_of (answer_in_phase serving world root) n root + keys_total (serving.effect root.asking.call world) roots

  -- so many tasks does a chain of phases make
  pub phases_counted : {State : Type 0} (choice : Choice State) (world : W) (roots : List (Job V)) (old new : Stage (Job V) State)
      → Phases serving job_subject choice world roots old new → AllByRecursion (TaskWithin n) roots
      → length old.made.marks ≡ length old.made.tasks → AllByRecursion (TaskWithin n) old.made.tasks → waiting_from 0 old.made.marks ≡ []
      → length new.made.tasks ≡ length old.made.tasks + keys_total world roots
  phases_counted choice world [] old new is within long all none =
      ap (λ (s : Stage (Job V) _). length s.made.tasks) is ∙ (let e : length old.made.tasks ≡ length old.made.tasks + 0 = omega arith in e)
  phases_counted choice world (root ∷ roots) old new (middle, phase, rest) within long all none =
      let counted = phase_count _ (tasks_of (answer_in_phase serving world root) n) (TaskWithin n)
      (counting_is (answer_in_phase serving world root) n (answers_in serving job_subject world root) (λ job. refl))
      old.made root phase.ran.entries middle.made long all within.0 none phase.ran.waits phase.ran.made_is phase.whole in
      let behind = phases_counted choice (serving.effect root.asking.call world) roots middle new rest within.1 counted.1 counted.2 phase.whole in
      let first = counted.0 in
      omega arith

module _ {V W : Type 0} (basis : Basis) (answer : Call V → W → Answer V) (before behind : W) where
  -- under a root key as many are asked as in the world that it leaves
  below_counted : (n : ℕ) (object : List ℕ) (parent : FieldValue V) (selections : List (Positioned Selection))
      → tasks_in basis (answer_between answer before behind) n object parent selections ≡ tasks_in basis (λ call. answer call behind) n object parent selections
  below_counted n object parent selections =
      λ i. total (values_of (respond_by
      (record {
        reading = reading_by basis.grouping basis;
        place = λ o p f below. one_if (field_asking false (execution_of basis) o p f)
            + total (map (λ (inner : List ℕ × FieldValue V). total (values_of (below inner.0 inner.1))) (parents_in (below_outcome basis answer before behind o p f i).shape));
      })
      (λ one other. one + other) (groups_by basis.grouping (setting_by basis)) n object parent selections))

module _ {V W : Type 0} (how : Grouping) (scene : Scene V) (serving : Serving V W) (n : ℕ) where
  abbrev asked_by_key : Asks → Option (Asking V)
  asked_by_key a = asking_by true (layers_of (basis_by how scene).layers) (root_spot scene).parent a

  abbrev left_by : W → Option (Asking V) → W
  left_by world asking = world_of (execution_of (basis_by how scene)) serving.effect world asking

  -- what is asked under a key that left this world
  abbrev beneath_key : W → Positioned Field → List ℕ → FieldValue V → ℕ
  beneath_key behind field object parent = tasks_in (basis_by how scene) (λ call. serving.answer call behind) n object parent (own_selections field)

  -- what is asked for a key with all under it, by what it asks
  abbrev key_count : W → W → Positioned Field → Asks → ℕ
  key_count before behind field a =
      one_if (asked_by_key a)
      + total (map (λ (inner : List ℕ × FieldValue V). beneath_key behind field inner.0 inner.1)
      (parents_in (outcome_by true (execution_of (basis_by how scene)) (λ call. serving.answer call before) (root_spot scene).object (root_spot scene).parent a).shape))

  spots_below : (before behind : W) (field : Positioned Field) (ss : List (Spot V))
      → map (λ (spot : Spot V). tasks_in (basis_by how scene) (answer_between serving.answer before behind) n spot.object spot.parent (own_selections field)) ss
      ≡ map (λ (spot : Spot V). beneath_key behind field spot.object spot.parent) ss
  spots_below before behind field [] = refl
  spots_below before behind field (s ∷ ss) =
      λ i. below_counted (basis_by how scene) serving.answer before behind n s.object s.parent (own_selections field) i ∷ spots_below before behind field ss i

  one_key_counted : (field : Positioned Field) (a : Asks) (world : W) (jobs : List (Job V)) (rest : W → ℕ) → ((w : W) → keys_total serving n w jobs ≡ rest w)
      → keys_total serving n world (job_of (basis_by how scene) (root_spot scene) field (asked_by_key a) ++ jobs)
      ≡ key_count world (left_by world (asked_by_key a)) field a + rest (left_by world (asked_by_key a))
  one_key_counted field asks.Typename world jobs rest others =
      let e = others world in
      let none = ap (λ ps. total (map (λ (inner : List ℕ × FieldValue V). beneath_key world field inner.0 inner.1) ps)) (parents-Leaf (value.String (root_spot scene).object)) in
      omega arith
  one_key_counted field asks.Nothing world jobs rest others =
      let e = others world in
      let none = ap (λ ps. total (map (λ (inner : List ℕ × FieldValue V). beneath_key world field inner.0 inner.1) ps)) (parents-Absent {V = V}) in
      omega arith
  one_key_counted field (asks.Call resolver ty arguments) world jobs rest others =
      let behind = left_by world (asked_by_key (asks.Call resolver ty arguments)) in
      let comes = (outcome_by true (execution_of (basis_by how scene)) (λ call. serving.answer call world) (root_spot scene).object (root_spot scene).parent
      (asks.Call resolver ty arguments)).shape in
      let path = (root_spot scene).path ++ segment.Field (key_text field) ∷ [] in
      let own : total (map (λ (spot : Spot V). tasks_in (basis_by how scene) (answer_between serving.answer world behind) n spot.object spot.parent (own_selections field)) (spots comes path))
      ≡ total (map (λ (inner : List ℕ × FieldValue V). beneath_key behind field inner.0 inner.1) (parents_in comes))
      = ap total (spots_below world behind field (spots comes path) ∙ sym (spots_counted (beneath_key behind field) comes path)) in
      λ i. 1 + own i + others behind i

  -- all of them
  keys_counted : (fields : List (List ℕ × Positioned Field)) (world : W)
      → keys_total serving n world (jobs_of_as true (basis_by how scene) (root_spot scene) fields)
      ≡ total (values_of (in_turn (counting_keys scene serving.answer serving.effect).effect
      (λ before behind field. (counting_keys scene serving.answer serving.effect).root before (root_spot scene).object (root_spot scene).parent field
      (λ object parent. counts_by (basis_by how scene) (λ call. serving.answer call behind) n object parent (own_selections field)))
      world fields))
  keys_counted [] world = refl
  keys_counted (member ∷ fields) world =
      let execution = execution_of (basis_by how scene) in
      let a = asks_of execution (root_spot scene).object member.1 in
      let same : field_asking true execution (root_spot scene).object (root_spot scene).parent member.1 ≡ asked_by_key a
      = asking_is true execution (root_spot scene).parent (root_spot scene).object member.1 in
      let jobs = jobs_of_as true (basis_by how scene) (root_spot scene) fields in
      let rest : W → ℕ = λ w. total (values_of (in_turn (counting_keys scene serving.answer serving.effect).effect
      (λ before behind field. (counting_keys scene serving.answer serving.effect).root before (root_spot scene).object (root_spot scene).parent field
      (λ object parent. counts_by (basis_by how scene) (λ call. serving.answer call behind) n object parent (own_selections field)))
      w fields)) in
      ap (λ o. keys_total serving n world (job_of (basis_by how scene) (root_spot scene) member.1 o ++ jobs)) same
      ∙ one_key_counted member.1 a world jobs rest (λ w. keys_counted fields w)
      ∙ (λ i. one_if (sym same i)
      + total (map (λ (inner : List ℕ × FieldValue V). beneath_key (left_by world (sym same i)) member.1 inner.0 inner.1)
      (parents_in (sym (outcome_is true execution (root_spot scene).parent (λ call. serving.answer call world) (root_spot scene).object member.1) i).shape))
      + rest (left_by world (sym same i)))

module _ {V W : Type 0} (how : Grouping) (scene : Scene V) (serving : Serving V W) where
  keys_within : (n : ℕ) → Nests scene (suc n) → AllByRecursion (TaskWithin n) (key_jobs_by how scene)
  keys_within n nests =
      let basis = basis_by how scene in
      jobs_all_as (TaskWithin n) (λ field. IsWithin (setting_by basis) n (own_selections field)) basis (root_spot scene) (λ field asking q. q) true (root_selections scene)
      (merged_all (λ field. IsWithin (setting_by basis) n (own_selections field)) (λ f g h k. both_within (setting_by basis) n f g h k)
      (setting_by basis) (collected how basis (root_spot scene).object (root_selections scene))
      (all_collected how basis (root_spot scene).object (λ field. IsWithin (setting_by basis) n (own_selections field)) (root_selections scene)
      (nests_within (setting_by basis) n (operation_set scene.env.now.operation) nests (root_spot scene).object)))

  -- the tasks of a whole mutation are counted by its definition
  pub mutation_counted : {State : Type 0} (choice : Choice State) (world : W) (old new : Stage (Job V) State)
      → Phases serving job_subject choice world (key_jobs_by how scene) old new → old.made.tasks ≡ [] → old.made.marks ≡ []
      → (n : ℕ) → Nests scene n → length new.made.tasks ≡ serial_count_by scene serving.answer serving.effect world n how
  mutation_counted choice world old new phases no_tasks no_marks zero nests = cc
  mutation_counted choice world old new phases no_tasks no_marks (suc n) nests =
      let chain = phases_counted serving n choice world (key_jobs_by how scene) old new phases (keys_within n nests)
      (ap length no_marks ∙ sym (ap length no_tasks)) (subst (AllByRecursion (TaskWithin n)) (sym no_tasks) tt) (ap (waiting_from 0) no_marks) in
      let none : length old.made.tasks ≡ 0 = ap length no_tasks in
      let keys = keys_counted how scene serving n (keys_by how scene) world in
      let first : length new.made.tasks ≡ keys_total serving n world (key_jobs_by how scene) = omega arith in
      first ∙ keys

-- what is asked hangs on first occurrences
counting_first : {V W : Type 0} (scene : Scene V) (answer : Call V → W → Answer V) (effect : Call V → W → W)
    → FirstCountsInTurn (counting_keys scene answer effect)
counting_first scene answer effect = record {
  root = λ world. counted_first true (execution_of (basis_of scene)) (λ call. answer call world) (setting_by (basis_of scene));
  place = λ world. counted_first false (execution_of (basis_of scene)) (λ call. answer call world) (setting_by (basis_of scene));
  effect = λ world f g. world_first (execution_of (basis_of scene)) effect (root_asked scene) world f g;
}

-- by merged execution
pub serial_count_is : {V W : Type 0} (scene : Scene V) (answer : Call V → W → Answer V) (effect : Call V → W → W) (world : W) (n : ℕ)
    → serial_count_by scene answer effect world n grouping.ByKey ≡ serial_count scene answer effect world n
serial_count_is scene answer effect world n =
    (λ i. total (values_of (in_turn (counting_keys scene answer effect).effect
    (λ before behind field. (counting_keys scene answer effect).root before (root_spot scene).object (root_spot scene).parent field
    (λ object parent. by_merged_groups (counting_among (basis_of scene) (λ call. answer call behind)) (λ one other. one + other) (levels_beneath n) object parent
    (own_selections field) i))
    world (keys_by grouping.ByKey scene))))
    ∙ ap (λ ps. total (values_of ps))
    (serial_fewer (counting_keys scene answer effect) (is_read scene) (counting_first scene answer effect) (collected grouping.ByKey (basis_of scene)) (nest_in scene)
    (collected_leaves (basis_of scene)) (levels_beneath n) (root_spot scene).object (root_spot scene).parent (root_selections scene) world
    (operation_nests scene))
