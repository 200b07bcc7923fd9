-- The record of a mutation, phase after phase, is one of what its references show.
use Rattle.std.proofs.Common.{◌≡◌, ◌≤◌, ℕ, zero, suc, List, [], ◌∷◌, ◌++◌, map, length, take, Option, Some, None, option_map, slice_get, refl, ap, sym, ◌∙◌, subst, arith}
use Rattle.std.proofs.lemmas.List.{map-append, length-map}
use Rattle.std.proofs.lemmas.Option.{slice_get-map}
use Rattle.gql_request.specs.Path.{IsFront}
use Rattle.gql_tasks.specs.Pace.{pending_then_ready, told_of}
use Rattle.gql_tasks.specs.Parts.{choice_by}
use Rattle.gql_tasks.specs.Phases.{after_root, answers_in, AreCut, CutBefore, HaltsInTurn, IsCutPhase, IsPhase, none_made, PacedSince, PacedSinceSoFar, Phases, RootsStand, RunsInTurn, Serving, serving_at, story_in, with_root, world_past}
use Rattle.gql_tasks.specs.Progress.{Seen, stage_of}
use Rattle.gql_tasks.specs.Record.{Choice, Made, Stage, Story, tasks_at, untold}
use Rattle.gql_engine.specs.declared.scene.Scene.{Scene}
use Rattle.gql_exec.proofs.BareLemmas.{beneath-bare, keys-bare}
use Rattle.gql_exec.proofs.RecordLemmas.{made-after, mapped, ran-mapped, staged, stopped-mapped}
use Rattle.gql_exec.specs.Bare.{bare_job, bare_scene}
use Rattle.gql_objects.specs.Jobs.{Job}
use Rattle.gql_engine.specs.ExecuteQuery.{job_subject}
use Rattle.gql_engine.proofs.MutationLemmas.{last_past}
use Rattle.gql_engine.specs.ExecuteMutation.{key_jobs_by, key_work_by, last_world_of}
use Rattle.gql_collect.specs.declared.basis.Grouping.{Grouping}
use Rattle.gql_resolve.specs.declared.record_entry.RecordEntry.{RecordEntry}
use Rattle.gql_resolve.specs.declared.resolver_set.ResolverSet.{Ghosts as Resolving}
use Rattle.gql_resolve.specs.declared.turns.Turns.{Ghosts as Choosing}

map-take : {A B : Type 0} (f : A → B) (n : ℕ) (xs : List A) → take n (map f xs) ≡ map f (take n xs)
map-take f zero [] = refl
map-take f (suc n) [] = refl
map-take f zero (x ∷ xs) = refl
map-take f (suc n) (x ∷ xs) = ap (λ ys. f x ∷ ys) (map-take f n xs)

module _ {V W State : Type 0} (serving : Serving V W) (choice : Choice State) where
  -- the story of a phase
  abbrev story : W → Job V → Story (Job V)
  story world root = story_in serving job_subject world root

  below : (world : W) (root job : Job V) → (story world root).beneath (bare_job job) ≡ map bare_job ((story world root).beneath job)
  below world root job = beneath-bare job (answers_in serving job_subject world root job)

  root-staged : (made : Made (Job V)) (root : Job V) → mapped bare_job (after_root made root) ≡ after_root (mapped bare_job made) (bare_job root)
  root-staged made root = λ i. record { tasks = map-append bare_job made.tasks (root ∷ []) i; marks = made.marks ++ untold ∷ [] }

  -- the delay of a task
  abbrev pace : Job V → ℕ
  pace job = serving.delay job.asking.call.resolver

  paced-bare : (first : ℕ) (tasks : List (Job V)) (entries : List RecordEntry) → PacedSince first pace tasks entries
      → PacedSince first pace (map bare_job tasks) entries
  paced-bare first tasks entries since = record {
    earlier = since.earlier;
    paced = λ k u later is. at k u later (slice_get tasks k) refl (sym (slice_get-map bare_job tasks k) ∙ is);
  }
    where
      at : (k : ℕ) (u : Job V) → first ≤ k → (o : Option (Job V)) → slice_get tasks k ≡ o → option_map bare_job o ≡ Some u
          → told_of k entries ≡ pending_then_ready (pace u)
      at k u later None stands is = cc
      at k u later (Some job) stands is = let e : bare_job job ≡ u = cc in since.paced k job later stands ∙ ap (λ j. pending_then_ready (pace j)) e

  so-far-bare : (first : ℕ) (tasks : List (Job V)) (entries : List RecordEntry) → PacedSinceSoFar first pace tasks entries
      → PacedSinceSoFar first pace (map bare_job tasks) entries
  so-far-bare first tasks entries since = record {
    earlier = since.earlier;
    paced = λ k u later is. at k u later (slice_get tasks k) refl (sym (slice_get-map bare_job tasks k) ∙ is);
  }
    where
      at : (k : ℕ) (u : Job V) → first ≤ k → (o : Option (Job V)) → slice_get tasks k ≡ o → option_map bare_job o ≡ Some u
          → IsFront (told_of k entries) (pending_then_ready (pace u))
      at k u later None stands is = cc
      at k u later (Some job) stands is =
          let e : bare_job job ≡ u = cc in
          subst (λ j. IsFront (told_of k entries) (pending_then_ready (pace j))) e (since.paced k job later stands)

  module _ (world : W) (root : Job V) (old : Stage (Job V) State) where
    phase-bare : (new : Stage (Job V) State) → IsPhase serving job_subject choice world root old new
        → IsPhase serving job_subject choice world (bare_job root) (staged bare_job old) (staged bare_job new)
    phase-bare new phase = record {
      ran = ran-mapped choice (story world root) (story world root) bare_job (λ job. refl) (λ job. refl) (below world root) (with_root old root)
          (after_root (mapped bare_job old.made) (bare_job root)) (root-staged old.made root) new phase.ran;
      whole = phase.whole;
      paces = λ keeps before is. subst (λ first. PacedSince first pace (map bare_job new.made.tasks) phase.ran.entries)
          (sym (length-map old.made.tasks bare_job))
          (paced-bare (length old.made.tasks) new.made.tasks phase.ran.entries (phase.paces keeps before is));
    }

    cut-phase-bare : (told : Option (List RecordEntry)) (starts : Option (List ℕ)) → IsCutPhase serving job_subject choice world root old told starts
        → IsCutPhase serving job_subject choice world (bare_job root) (staged bare_job old) told starts
    cut-phase-bare told starts phase = record {
      stopped = stopped-mapped choice (story world root) (story world root) bare_job (λ job. refl) (λ job. refl) (below world root) (with_root old root)
          (after_root (mapped bare_job old.made) (bare_job root)) (root-staged old.made root) told starts phase.stopped;
      paces = λ keeps before is.
          let entries = phase.stopped.entries in
          subst (λ (made : Made (Job V)). PacedSinceSoFar (length (map bare_job old.made.tasks)) pace made.tasks entries)
          (made-after choice (story world root) (story world root) bare_job (λ job. refl) (λ job. refl) (below world root) (with_root old root)
          (after_root (mapped bare_job old.made) (bare_job root)) (root-staged old.made root) entries)
          (subst (λ first. PacedSinceSoFar first pace (map bare_job (tasks_at (story world root) (with_root old root).made entries)) entries)
          (sym (length-map old.made.tasks bare_job))
          (so-far-bare (length old.made.tasks) (tasks_at (story world root) (with_root old root).made entries) entries (phase.paces keeps before is)));
    }

  phases-bare : (world : W) (roots : List (Job V)) (old new : Stage (Job V) State) → Phases serving job_subject choice world roots old new
      → Phases serving job_subject choice world (map bare_job roots) (staged bare_job old) (staged bare_job new)
  phases-bare world [] old new is = ap (staged bare_job) is
  phases-bare world (root ∷ roots) old new (middle, phase, rest) = (
    staged bare_job middle,
    phase-bare world root old middle phase,
    phases-bare (serving.effect root.asking.call world) roots middle new rest,
  )

  past-bare : (world : W) (roots : List (Job V)) → world_past serving job_subject world (map bare_job roots) ≡ world_past serving job_subject world roots
  past-bare world [] = refl
  past-bare world (root ∷ roots) = past-bare (serving.effect root.asking.call world) roots

  before-bare : (world : W) (left : List (Job V)) (old : Stage (Job V) State) (told : Option (List RecordEntry)) (starts : Option (List ℕ))
      → CutBefore serving job_subject choice world left old told starts
      → CutBefore serving job_subject choice world (map bare_job left) (staged bare_job old) told starts
  before-bare world [] old told starts cut = cut
  before-bare world (root ∷ roots) old told starts cut = cut-phase-bare world root old told starts cut

  cut-bare : (world : W) (roots : List (Job V)) (old : Stage (Job V) State) (told : Option (List RecordEntry)) (starts : Option (List ℕ))
      → AreCut serving job_subject choice world roots old told starts
      → AreCut serving job_subject choice world (map bare_job roots) (staged bare_job old) told starts
  cut-bare world roots old told starts are = record {
    done = map bare_job are.done;
    left = map bare_job are.left;
    split = ap (map bare_job) are.split ∙ map-append bare_job are.done are.left;
    middle = staged bare_job are.middle;
    phases = phases-bare world are.done old are.middle are.phases;
    cut = subst (λ w. CutBefore serving job_subject choice w (map bare_job are.left) (staged bare_job are.middle) told starts)
        (sym (past-bare world are.done)) (before-bare (world_past serving job_subject world are.done) are.left are.middle told starts are.cut);
  }

module _ {R Own World Future P : Type 0} (set : Resolving R Own World Future) (turns : Choosing P) (by : Grouping) (scene : Scene Own) (old new : Seen R P) where
  -- what serves the execution
  abbrev serving : Serving Own World
  serving = serving_at set turns (key_work_by by scene) old new

  pub in-turn-bare : RunsInTurn set turns (key_work_by by scene) old new → RunsInTurn set turns (key_work_by by (bare_scene scene)) old new
  in-turn-bare runs = record {
    made = mapped bare_job runs.made;
    phases = subst (λ keys. Phases serving job_subject (choice_by turns) (set.world old.set) keys (none_made set turns (key_work_by by scene) old new)
        (stage_of set turns (mapped bare_job runs.made) new))
        (sym (keys-bare by scene))
        (phases-bare serving (choice_by turns) (set.world old.set) (key_jobs_by by scene) (none_made set turns (key_work_by by scene) old new)
        (stage_of set turns runs.made new) runs.phases);
  }

  pub halts-in-turn-bare : HaltsInTurn set turns (key_work_by by scene) old new → HaltsInTurn set turns (key_work_by by (bare_scene scene)) old new
  halts-in-turn-bare halts =
      subst (λ keys. AreCut serving job_subject (choice_by turns) (set.world old.set) keys (none_made set turns (key_work_by by scene) old new) (set.told new.set) (set.begun new.set))
      (sym (keys-bare by scene))
      (cut-bare serving (choice_by turns) (set.world old.set) (key_jobs_by by scene) (none_made set turns (key_work_by by scene) old new) (set.told new.set) (set.begun new.set) halts)

  pub stand-bare : (roots : ℕ) → RootsStand set turns (key_work_by by scene) old new roots → RootsStand set turns (key_work_by by (bare_scene scene)) old new roots
  stand-bare roots stand =
      let keys : length (key_jobs_by by (bare_scene scene)) ≡ length (key_jobs_by by scene) = ap length (keys-bare by scene) ∙ length-map (key_jobs_by by scene) bare_job in
      record {
        within = subst (λ n. roots ≤ n) (sym keys) stand.within;
        world = stand.world
            ∙ sym (ap (λ ks. world_past serving job_subject (set.world old.set) (take roots ks)) (keys-bare by scene)
            ∙ ap (world_past serving job_subject (set.world old.set)) (map-take bare_job roots (key_jobs_by by scene))
            ∙ past-bare serving (choice_by turns) (set.world old.set) (take roots (key_jobs_by by scene)));
      }

  take-all : {A : Type 0} (xs : List A) → take (length xs) xs ≡ xs
  take-all [] = refl
  take-all (x ∷ xs) = ap (λ ys. x ∷ ys) (take-all xs)

  -- where all root keys have their effect, as many stand
  pub all_stand : (roots : ℕ) → roots ≡ length (key_jobs_by by scene) → set.world new.set ≡ last_world_of scene (set.effect (set.rules old.set)) (set.world old.set)
      → RootsStand set turns (key_work_by by scene) old new roots
  all_stand roots all world = record {
    within = let e : roots ≡ length (key_jobs_by by scene) = all in omega arith;
    world = world ∙ sym (last_past by scene serving (set.world old.set))
        ∙ sym (ap (world_past serving job_subject (set.world old.set)) (ap (λ n. take n (key_jobs_by by scene)) all ∙ take-all (key_jobs_by by scene)));
  }
