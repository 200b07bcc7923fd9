-- What references show is all that matters of a scene, of what an execution stands on, and of its tasks.
use Rattle.std.proofs.Common.{◌≡◌, ℕ, Bool, true, false, List, [], ◌∷◌, ◌++◌, map, Option, Some, None, option_map, refl, ap, sym, ◌∙◌, subst}
use Rattle.std.proofs.lemmas.List.{map-append}
use Rattle.std.specs.List.{flat_map}
use Rattle.std.specs.Option.{option_copied, option_to_list}
use Rattle.std.specs.Borrow.{Bor}
use Rattle.gql_base.specs.declared.value.Value.{Value}
use Rattle.gql_doc.specs.declared.document.Field.{Field}
use Rattle.gql_doc.specs.declared.document.Positioned.{Positioned}
use Rattle.gql_doc.specs.declared.document.Selection.{Selection}
use Rattle.gql_tasks.specs.Parts.{choice_by, due_by}
use Rattle.gql_tasks.specs.Progress.{RunsWhole, RunStopped, Seen, stage_of, story_at}
use Rattle.gql_tasks.specs.Pace.{EachPacedSoFar}
use Rattle.gql_tasks.specs.Record.{Made, Story, fresh, tasks_at}
use Rattle.gql_engine.specs.declared.scene.Scene.{Scene}
use Rattle.gql_exec.proofs.RecordLemmas.{made-after, mapped, fresh-mapped, paced-mapped, so-far-mapped, ran-mapped, stopped-mapped}
use Rattle.gql_exec.specs.Bare.{bare_basis, bare_job, bare_layers, bare_scene}
use Rattle.gql_exec.specs.Scene.{shown}
use Rattle.gql_collect.specs.Execution.{Asking, Execution, field_asking, setting_in}
use Rattle.gql_meaning.specs.Responses.{Asked, levels_beneath, placed, root_place, world_after}
use Rattle.gql_collect.specs.Basis.{execution_of}
use Rattle.gql_objects.specs.Jobs.{Job, completed_by, job_of, jobs_at, jobs_at_as, jobs_beneath}
use Rattle.gql_collect.specs.DeclaredFields.{declared_among, declared_reading}
use Rattle.gql_collect.specs.GroupFields.{collect_by, grouping_at, groups_by}
use Rattle.gql_engine.specs.ExecuteQuery.{basis_by, basis_of, merged_response, root_jobs_by, root_selections, root_spot, work_by}
use Rattle.gql_engine.specs.ExecuteMutation.{key_jobs_by, last_world_of, root_asked, serial_response}
use Rattle.gql_complete.specs.FoundObjects.{Spot, spots}
use Rattle.gql_collect.specs.declared.basis.Basis.{Basis}
use Rattle.gql_collect.specs.declared.basis.Grouping.{Grouping}
use Rattle.gql_place.specs.declared.place.Place.{Place}
use Rattle.gql_resolve.specs.Call.{Call}
use Rattle.gql_resolve.specs.Layers.{layers_of}
use Rattle.gql_resolve.specs.declared.answer.Answer.{Answer}
use Rattle.gql_resolve.specs.declared.field_value.FieldValue.{FieldValue}
use Rattle.gql_resolve.specs.declared.layers.Layers.{Layers}
use Rattle.gql_resolve.specs.declared.resolver_set.ResolverSet.{Ghosts as Resolving}
use Rattle.gql_resolve.specs.declared.turns.Turns.{Ghosts as Choosing}
use Rattle.gql_select.specs.Collected.{collect, own_selections}
use Rattle.gql_select.specs.Grouped.{Beneath, Mutating, Placing, grouped, serial_grouped, world_behind}
use Rattle.gql_select.specs.Reading.{merged}

first-bare : (o : Option (Bor (List (ℕ × Value))))
    → option_to_list (option_copied (option_map (λ (layer : Bor (List (ℕ × Value))). shown layer.now) o)) ≡ option_to_list (option_copied o)
first-bare None = refl
first-bare (Some layer) = refl

layers-bare : (layers : Layers) → layers_of (bare_layers layers) ≡ layers_of layers
layers-bare layers = ap (λ first. first ++ layers.query.now ∷ layers.session.now ∷ layers.schema.now ∷ []) (first-bare layers.execute)

-- an execution with other layers
abbrev with_layers : Execution → List (List (ℕ × Value)) → Execution
with_layers execution layers = record execution { layers = layers }

pub execution-bare : (basis : Basis) → execution_of (bare_basis basis) ≡ execution_of basis
execution-bare basis = ap (with_layers (execution_of basis)) (layers-bare basis.layers)

module _ {A B : Type 0} (f : A → B) where
  -- a function over all parts of a list of lists
  map-flat : {X : Type 0} (g : X → List A) (h : X → List B) → ((x : X) → h x ≡ map f (g x)) → (xs : List X) → flat_map h xs ≡ map f (flat_map g xs)
  map-flat g h same [] = refl
  map-flat g h same (x ∷ xs) = (λ i. same x i ++ map-flat g h same xs i) ∙ sym (map-append f (g x) (flat_map g xs))

-- how fields become places, by what is known of their execution
abbrev pub placing_known : {P Pl : Type 0} → Execution → (List ℕ → P → Positioned Field → Beneath (List ℕ) P Pl → Pl)
    → Placing (List ℕ) P (Positioned Field) (Positioned Selection) Pl
placing_known execution place = record { reading = declared_reading execution (setting_in execution); place = place }

-- the keys of an object's set, each merged over its occurrences
abbrev pub keys_known : List ℕ → Execution → List (Positioned Selection) → List (List ℕ × Positioned Field)
keys_known object execution selections =
    merged (declared_reading execution (setting_in execution))
    (declared_among execution object (collect (setting_in execution) object selections))

-- the fields that stand for groups of its occurrences, which are collected as others are grouped
abbrev pub groups_known : Grouping → Grouping → List ℕ → List (Positioned Selection) → Execution → List (List ℕ × Positioned Field)
groups_known by collects object selections execution =
    groups_by by (setting_in execution) (declared_among execution object (collect_by collects (setting_in execution) object selections))

-- how a mutation is answered, by what is known of its execution
abbrev pub mutating_in : {V W : Type 0} → Execution → (Call V → W → Answer V) → (Call V → W → W) → Asked V
    → Mutating (List ℕ) (FieldValue V) (Positioned Field) (Positioned Selection) Place W
mutating_in execution answer effect asked = record {
  reading = declared_reading execution (setting_in execution);
  effect = world_after execution effect asked;
  root = λ world. placed execution true (λ call. answer call world);
  place = λ world. placed execution false (λ call. answer call world);
}

module _ {V : Type 0} where
  job-bare : (basis : Basis) (spot : Spot V) (field : Positioned Field) (asking : Option (Asking V))
      → job_of (bare_basis basis) spot field asking ≡ map bare_job (job_of basis spot field asking)
  job-bare basis spot field None = refl
  job-bare basis spot field (Some asking) = refl

  -- the tasks of an object, by what is known of its execution
  abbrev jobs_knowing : Bool → Basis → List (Positioned Selection) → Spot V → Execution → List (Job V)
  jobs_knowing root basis selections spot execution =
      flat_map (λ (member : List ℕ × Positioned Field). job_of basis spot member.1 (field_asking root execution spot.object spot.parent member.1))
      (groups_known (grouping_at root basis.grouping) basis.grouping spot.object selections execution)

  pub jobs-bare : (root : Bool) (basis : Basis) (selections : List (Positioned Selection)) (spot : Spot V)
      → jobs_at_as root (bare_basis basis) selections spot ≡ map bare_job (jobs_at_as root basis selections spot)
  jobs-bare root basis selections spot =
      let execution = execution_of basis in
      ap (jobs_knowing root (bare_basis basis) selections spot) (execution-bare basis)
      ∙ map-flat bare_job
      (λ (member : List ℕ × Positioned Field). job_of basis spot member.1 (field_asking root execution spot.object spot.parent member.1))
      (λ (member : List ℕ × Positioned Field). job_of (bare_basis basis) spot member.1 (field_asking root execution spot.object spot.parent member.1))
      (λ member. job-bare basis spot member.1 (field_asking root execution spot.object spot.parent member.1))
      (groups_known (grouping_at root basis.grouping) basis.grouping spot.object selections execution)

  pub beneath-bare : (job : Job V) (answer : Answer V) → jobs_beneath (bare_job job) answer ≡ map bare_job (jobs_beneath job answer)
  beneath-bare job answer =
      map-flat bare_job (jobs_at job.basis (own_selections job.field)) (jobs_at (bare_basis job.basis) (own_selections job.field))
      (jobs-bare false job.basis (own_selections job.field)) (spots (completed_by job answer) job.path)

  -- the whole response, by what is known of its execution
  abbrev response_knowing : Scene V → (Call V → Answer V) → ℕ → Execution → Place
  response_knowing scene answer n execution =
      root_place scene.env.now.operation.pos
      (grouped (placing_known execution (placed execution false answer)) n (root_spot scene).object (root_spot scene).parent
      (root_selections scene))

  pub response-bare : (scene : Scene V) (answer : Call V → Answer V) (n : ℕ) → merged_response (bare_scene scene) answer n ≡ merged_response scene answer n
  response-bare scene answer n = ap (response_knowing scene answer n) (execution-bare (basis_of scene))

  roots-bare : (by : Grouping) (scene : Scene V) → root_jobs_by by (bare_scene scene) ≡ map bare_job (root_jobs_by by scene)
  roots-bare by scene = jobs-bare false (basis_by by scene) (root_selections scene) (root_spot scene)

  pub keys-bare : (by : Grouping) (scene : Scene V) → key_jobs_by by (bare_scene scene) ≡ map bare_job (key_jobs_by by scene)
  keys-bare by scene = jobs-bare true (basis_by by scene) (root_selections scene) (root_spot scene)

  module _ {W : Type 0} (answer : Call V → W → Answer V) (effect : Call V → W → W) (scene : Scene V) where
    -- the whole response of a mutation, by what is known of its execution
    abbrev serial_knowing : W → ℕ → Execution → Place
    serial_knowing world n execution =
        root_place scene.env.now.operation.pos
        (serial_grouped (mutating_in execution answer effect (root_asked scene)) (levels_beneath n) (root_spot scene).object (root_spot scene).parent
        (root_selections scene) world)

    pub serial-bare : (world : W) (n : ℕ) → serial_response (bare_scene scene) answer effect world n ≡ serial_response scene answer effect world n
    serial-bare world n = ap (serial_knowing world n) (execution-bare (basis_of scene))

    abbrev last_knowing : W → Execution → W
    last_knowing world execution =
        world_behind (world_after execution effect (root_asked scene)) world
        (keys_known (root_spot scene).object execution (root_selections scene))

    pub last-bare : (world : W) → last_world_of (bare_scene scene) effect world ≡ last_world_of scene effect world
    last-bare world = ap (last_knowing world) (execution-bare (basis_of scene))

module _ {R Own World Future P : Type 0} (set : Resolving R Own World Future) (turns : Choosing P) (by : Grouping) (scene : Scene Own) (old new : Seen R P) where
  abbrev story-of : Scene Own → Story (Job Own)
  story-of of = story_at set turns (work_by by of).subject old

  abbrev story : Story (Job Own)
  story = story-of scene

  below : (job : Job Own) → story.beneath (bare_job job) ≡ map bare_job (story.beneath job)
  below job = beneath-bare job (due_by set old.set job.asking.call)

  starts : mapped bare_job (fresh (root_jobs_by by scene)) ≡ fresh (root_jobs_by by (bare_scene scene))
  starts = fresh-mapped bare_job (root_jobs_by by scene) ∙ ap fresh (sym (roots-bare by scene))

  -- a whole execution of a scene is one of what its references show
  pub whole-bare : RunsWhole set turns (work_by by scene) old new → RunsWhole set turns (work_by by (bare_scene scene)) old new
  whole-bare runs = record {
    made = mapped bare_job runs.made;
    ran = ran-mapped (choice_by turns) story story bare_job (λ job. refl) (λ job. refl) below (stage_of set turns (fresh (root_jobs_by by scene)) old) _ starts
        (stage_of set turns runs.made new) runs.ran;
    whole = runs.whole;
    paces = λ pace before is. paced-mapped bare_job _ _ (λ job. refl) runs.made.tasks runs.ran.entries (runs.paces pace before is);
  }

  -- the same of one that ended out of memory
  pub stopped-bare : RunStopped set turns (work_by by scene) old new → RunStopped set turns (work_by by (bare_scene scene)) old new
  stopped-bare runs = record {
    stopped = stopped-mapped (choice_by turns) story story bare_job (λ job. refl) (λ job. refl) below (stage_of set turns (fresh (root_jobs_by by scene)) old) _ starts
        (set.told new.set) (set.begun new.set) runs.stopped;
    paces = λ pace before is.
        let first = stage_of set turns (fresh (root_jobs_by by scene)) old in
        subst (λ (made : Made (Job Own)). EachPacedSoFar (λ (job : Job Own). set.delay (set.rules old.set) job.asking.call.resolver) made.tasks runs.stopped.entries)
        (made-after (choice_by turns) story story bare_job (λ job. refl) (λ job. refl) below first _ starts runs.stopped.entries)
        (so-far-mapped bare_job _ _ (λ job. refl) (tasks_at story first.made runs.stopped.entries) runs.stopped.entries (runs.paces pace before is));
  }
