-- From the first turn to the last: the tasks of the root, and what stands when none waits.
use Rattle.std.proofs.Common.{ℕ, zero, suc, ◌≡◌, ◌+◌, ◌≤◌, Bool, true, false, ltb, List, [], ◌∷◌, ◌++◌, length, map, take, inl, inr, refl, sym, ap, subst, ◌∙◌, arith, ltb-true, ltb-false}
use Rattle.std.specs.Prelude.{Some, slice_get}
use Rattle.std.specs.List.{AllByRecursion}
use Rattle.std.specs.Option.{ForSome}
use Rattle.std.specs.declared.alloc.Global.{Global}
use Rattle.std.specs.declared.rc.Rc.{Rc}
use Rattle.gql_base.specs.Pairs.{values_of}
use Rattle.gql_base.specs.declared.pos.Pos.{Pos}
use Rattle.gql_doc.specs.Depth.{field_set, operation_set}
use Rattle.gql_doc.specs.declared.document.Field.{Field}
use Rattle.gql_doc.specs.declared.document.Positioned.{Positioned}
use Rattle.gql_lists.proofs.SliceLemmas.{get_at, get_within}
use Rattle.gql_tasks.proofs.RecordLemmas.{with_more_none}
use Rattle.gql_tasks.proofs.RunLemmas.{all_done, first_made, first_right}
use Rattle.gql_tasks.proofs.StepLemmas.{all_started, started_fresh}
use Rattle.gql_tasks.specs.Arena.{fresh_states, IsRight as IsRightAt, made_of, marks_of, started, total}
use Rattle.gql_tasks.specs.Pace.{EachPaced, EachPacedSoFar}
use Rattle.gql_tasks.specs.Parts.{choice_by, delay_by, due_by}
use Rattle.gql_tasks.specs.Progress.{Agrees, RunsWhole, RunStopped, Seen, stage_of, story_at}
use Rattle.gql_tasks.specs.Record.{fresh, Made, Ran, Stopped, tasks_at, waiting_from}
use Rattle.gql_tasks.specs.Rounds.{KeepNumbers}
use Rattle.gql_tasks.specs.declared.arena.State.{State}
use Rattle.gql_tasks.specs.declared.given.Given.TheVariants.{Answered}
use Rattle.gql_engine.specs.declared.scene.Scene.{Scene}
use Rattle.gql_meaning.specs.Responses.{Members, root_place}
use Rattle.gql_place.specs.Alike.{Paired, Same, SameMembers}
use Rattle.gql_place.specs.Pieces.{place_in}
use Rattle.gql_place.specs.declared.piece.Piece.{Piece}
use Rattle.gql_place.specs.declared.place.Tree.TheVariants as tree
use Rattle.gql_place.proofs.PieceLemmas.{object_same, place_same, same_trans}
use Rattle.gql_request.specs.QueryEnv.{levels_of, NestsIn}
use Rattle.gql_resolve.specs.Call.{Call, is_mutation}
use Rattle.gql_resolve.specs.declared.answer.Answer.{Answer}
use Rattle.gql_resolve.specs.declared.resolver_set.ResolverSet.{Ghosts as Resolving}
use Rattle.gql_resolve.specs.declared.turns.Turns.{Ghosts as Choosing}
use Rattle.gql_objects.specs.Members.{members_with}
use Rattle.gql_objects.specs.Assembly.{AllHeld, AreApart, beneath_due, IsAssembled, IsFilledDue, IsMadeAlone, IsRight}
use Rattle.gql_collect.specs.Basis.{setting_by}
use Rattle.gql_engine.specs.TaskCounts.{count_by}
use Rattle.gql_collect.specs.GroupFields.{collected}
use Rattle.gql_collect.specs.GroupFields.{groups_in, keeps_whole}
use Rattle.gql_objects.specs.KeptTasks.{IsFilled}
use Rattle.gql_engine.specs.PlanHolds.{HoldsGiven, HoldsSince}
use Rattle.gql_objects.specs.Jobs.{Job, jobs_at_as, jobs_beneath, jobs_by_as}
use Rattle.gql_collect.specs.Levels.{asked_in_as, members_of}
use Rattle.gql_objects.specs.Parents.{jobs_here, Standing, standing_at, standing_at_as, standing_of}
use Rattle.gql_engine.specs.ExecuteQuery.{basis_by, job_subject, Nests, own_jobs_by, response_by, root_jobs_by, root_selections, root_spot, work_by}
use Rattle.gql_engine.specs.RootKeys.{IsKey}
use Rattle.gql_engine.specs.NeverRoots.{jobs_as}
use Rattle.gql_engine.specs.ExecuteMutation.{key_jobs_by}
use Rattle.gql_objects.specs.PlaceStore.{IsStored, Store}
use Rattle.gql_objects.specs.Tasks.{IsDeep, job_of_task, jobs_in}
use Rattle.gql_collect.specs.Nesting.{AllNest}
use Rattle.gql_collect.specs.declared.basis.Grouping.{Grouping}
use Rattle.gql_objects.specs.declared.assembly.kept.Filled.{Filled}
use Rattle.gql_collect.specs.declared.level.Level.{Level}
use Rattle.gql_objects.specs.declared.parent.Held.TheVariants as held
use Rattle.gql_objects.specs.declared.task.Task.{Task}
use Rattle.gql_objects.proofs.ObjectLevelLemmas.{every_at, every_of, jobs_all, jobs_all_as}
use Rattle.gql_engine.proofs.TaskCountLemmas.{tasks_counted}
use Rattle.gql_objects.proofs.JobLemmas.{at_root, root_level_jobs}
use Rattle.gql_select.proofs.NestLemmas.{collected_nest}
use Rattle.gql_objects.proofs.PlacedLemmas.{apart_at, root_right}
use Rattle.gql_collect.proofs.CollectedLemmas.{all_collected}
use Rattle.gql_collect.proofs.NestingLemmas.{nests_within}

-- a list that begins with another
pub record Begun {X : Type 0} (first last : List X) : Type 0 where
  pub more : List X
  pub is : last ≡ first ++ more

pub begun_by : {X : Type 0} (first last : List X) → KeepNumbers first last → Begun first last
begun_by [] last keeps = record { more = last; is = refl }
begun_by (x ∷ first) [] keeps = (let e = keeps 0 x refl in absurd (cc))
begun_by (x ∷ first) (y ∷ last) keeps =
    let rest = begun_by first last (λ k t is. keeps (suc k) t is) in
    let same : y ≡ x = (let e = keeps 0 x refl in cc) in
    record { more = rest.more; is = λ i. same i ∷ rest.is i }

taken : {X : Type 0} (first more : List X) (n : ℕ) → length first ≤ n → Begun first (take n (first ++ more))
taken [] more n long = record { more = take n more; is = refl }
taken (x ∷ first) more zero long = absurd (omega arith)
taken (x ∷ first) more (suc n) long =
    let rest = taken first more n (omega arith) in
    record { more = rest.more; is = ap (λ xs. x ∷ xs) rest.is }

-- a task as it is held
pub at_task : {V : Type 0} (ts : List (Task V)) (k : ℕ) (job : Job V) → slice_get (jobs_in ts) k ≡ Some job → (task : Task V) × (slice_get ts k ≡ Some task) × (job_of_task task ≡ job)
at_task [] k job is = absurd (cc)
at_task (t ∷ ts) zero job is = (t, refl, cc)
at_task (t ∷ ts) (suc k) job is = at_task ts k job is

both_all : {X : Type 0} (P Q : X → Type 0) (xs : List X) → AllByRecursion P xs → AllByRecursion Q xs → AllByRecursion (λ x. P x × Q x) xs
both_all P Q [] h k = tt
both_all P Q (x ∷ xs) h k = ((h.0, k.0), both_all P Q xs h.1 k.1)

-- the root is the same with the same members
pub root_same : (whole : Bool) (pos : Pos) (ms ns : Members) → SameMembers whole ms ns → Same whole (root_place pos ms) (root_place pos ns)
root_same whole pos ms ns same = place_same whole pos false [] [] (tree.Object ms) (tree.Object ns) (object_same whole ms ns same)

-- unless places are kept whole, no key of the root stands twice
pub apart_root : {V : Type 0} (is_root : Bool) (how : Grouping) (scene : Scene V) (root : Standing V)
    → root ≡ standing_at_as is_root (basis_by how scene) (root_selections scene) (root_spot scene) → AreApart (keeps_whole how) (root ∷ [])
apart_root is_root how scene root is =
    subst (λ (r : Standing _). AreApart (keeps_whole how) (r ∷ [])) (sym is)
    ((apart_at is_root (basis_by how scene) (root_spot scene).object (root_selections scene)), tt)

module _ {V : Type 0} (how : Grouping) (scene : Scene V) where
  -- where the operation is no mutation, the tasks of the root are no roots of one
  pub query_jobs : is_mutation scene.env.now.operation.node.ty ≡ false → own_jobs_by how scene ≡ root_jobs_by how scene
  query_jobs query = ap (λ b. jobs_at_as b (basis_by how scene) (root_selections scene) (root_spot scene)) query

  -- and it stands as others do
  pub query_stands : is_mutation scene.env.now.operation.node.ty ≡ false
      → standing_at_as (is_mutation scene.env.now.operation.node.ty) (basis_by how scene) (root_selections scene) (root_spot scene)
      ≡ standing_at (basis_by how scene) (root_selections scene) (root_spot scene)
  query_stands query = ap (λ b. standing_at_as b (basis_by how scene) (root_selections scene) (root_spot scene)) query

  -- of a mutation, as root keys do
  pub mutation_stands : is_mutation scene.env.now.operation.node.ty ≡ true
      → standing_at_as (is_mutation scene.env.now.operation.node.ty) (basis_by how scene) (root_selections scene) (root_spot scene)
      ≡ standing_at_as true (basis_by how scene) (root_selections scene) (root_spot scene)
  mutation_stands mutation = ap (λ b. standing_at_as b (basis_by how scene) (root_selections scene) (root_spot scene)) mutation

  -- the tasks that the level of the root makes
  pub root_tasks : (standing : Standing V)
      → standing ≡ standing_at_as (is_mutation scene.env.now.operation.node.ty) (basis_by how scene) (root_selections scene) (root_spot scene)
      → jobs_by_as at_root standing.spot (values_of standing.members) ≡ own_jobs_by how scene
  root_tasks standing is =
      ap (λ (s : Standing V). jobs_by_as at_root s.spot (values_of s.members)) is
      ∙ root_level_jobs (basis_by how scene) (root_spot scene) (root_selections scene)

  -- of the object at the root
  pub root_here : (level : Rc Level Global) (own : Level) → level.value ≡ own → own.object ≡ (root_spot scene).object
      → members_of own ≡ asked_in_as (is_mutation scene.env.now.operation.node.ty) (basis_by how scene) (root_spot scene).object (root_selections scene)
      → jobs_here (record { level = level; held = held.Root scene.root }) ≡ own_jobs_by how scene
  root_here level own is object_is members_are =
      root_tasks (standing_of (record { level = level; held = held.Root scene.root }))
      (λ i. record {
        spot = record { object = (ap (λ (l : Level). l.object) is ∙ object_is) i; parent = scene.root.now; path = [] };
        members = (ap members_of is ∙ members_are) i;
      })

  -- the fields of the root nest
  pub root_nest : (object : List ℕ) (fields : List (Positioned Field)) → fields ≡ collected how (basis_by how scene) object (root_selections scene) → AllNest scene.env.now fields
  root_nest object fields is =
      let setting = setting_by (basis_by how scene) in
      subst (AllNest scene.env.now) (sym is)
      (all_collected how (basis_by how scene) object (λ field. NestsIn scene.env.now (field_set field)) (root_selections scene)
      (collected_nest setting object (levels_of scene.env.now) setting.levels (operation_set scene.env.now.operation) scene.env.now.nests))

  -- the tasks of the root have paths of one segment
  root_short : AllByRecursion (λ (job : Job V). length job.path ≡ 1) (root_jobs_by how scene)
  root_short = jobs_all (λ (job : Job V). length job.path ≡ 1) (λ field. Unit {0}) (basis_by how scene) (root_spot scene)
      (λ field asking q. refl) (root_selections scene)
      (every_of (λ field. Unit {0}) (λ field. tt) (values_of (groups_in false (basis_by how scene) (root_spot scene).object (root_selections scene))))

  -- the tasks of the root keys of a mutation
  pub all_keys : AllByRecursion IsKey (key_jobs_by how scene)
  all_keys = both_all (λ (job : Job V). job.asking.call.is_root ≡ true) (λ job. length job.path ≡ 1) (key_jobs_by how scene)
      (jobs_as true (basis_by how scene) (root_selections scene) (root_spot scene))
      (jobs_all_as (λ (job : Job V). length job.path ≡ 1) (λ field. Unit {0}) (basis_by how scene) (root_spot scene)
      (λ field asking q. refl) true (root_selections scene)
      (every_of (λ field. Unit {0}) (λ field. tt) (values_of (groups_in true (basis_by how scene) (root_spot scene).object (root_selections scene)))))

  -- where the operation is a mutation, these are the tasks of the root
  pub mutation_jobs : is_mutation scene.env.now.operation.node.ty ≡ true → own_jobs_by how scene ≡ key_jobs_by how scene
  mutation_jobs mutation = ap (λ b. jobs_at_as b (basis_by how scene) (root_selections scene) (root_spot scene)) mutation

  -- the first tasks of a plan are those of the root
  pub roots_enough : (tasks : List (Task V)) (roots : ℕ) → KeepNumbers (root_jobs_by how scene) (jobs_in tasks)
      → ((k : ℕ) (task : Task V) → roots ≤ k → slice_get tasks k ≡ Some task → IsDeep (job_of_task task)) → length (root_jobs_by how scene) ≤ roots
  roots_enough tasks roots keeps deep = by (ltb roots (length (root_jobs_by how scene))) refl
    where
      by : (b : Bool) → ltb roots (length (root_jobs_by how scene)) ≡ b → length (root_jobs_by how scene) ≤ roots
      by true test =
          let found = get_at (root_jobs_by how scene) roots (ltb-true roots (length (root_jobs_by how scene)) test) in
          let at = at_task tasks roots found.0 (keeps roots found.0 found.1) in
          let long : 2 ≤ length found.0.path = subst IsDeep at.2 (deep roots at.0 (omega arith) at.1) in
          let short : length found.0.path ≡ 1 = every_at (λ (job : Job V). length job.path ≡ 1) (root_jobs_by how scene) roots found.0 root_short found.1 in
          absurd (omega arith)
      by false test = ltb-false roots (length (root_jobs_by how scene)) test

  -- the place that is assembled is the one that is due
  pub response_is : (answer : Call V → Answer V) (root : Standing V) (roots : ℕ) (jobs : List (Job V)) (piece : Piece) (n : ℕ)
      → root ≡ standing_at (basis_by how scene) (root_selections scene) (root_spot scene) → KeepNumbers (root_jobs_by how scene) jobs → length (root_jobs_by how scene) ≤ roots
      → IsAssembled answer (keeps_whole how) scene.env.now.operation.pos root (take roots jobs) piece → Nests scene n
      → Same (keeps_whole how) (place_in piece) (response_by how scene answer n)
  response_is answer root roots jobs piece zero root_is keeps enough assembled nests = cc
  response_is answer root roots jobs piece (suc n) root_is keeps enough assembled nests =
      let begun = begun_by (root_jobs_by how scene) jobs keeps in
      let front = taken (root_jobs_by how scene) begun.more roots enough in
      let right : Paired (IsRight answer) (root_jobs_by how scene ++ front.more) assembled.own
      = subst (λ js. Paired (IsRight answer) js assembled.own) (ap (take roots) begun.is ∙ front.is) assembled.right in
      let pos = scene.env.now.operation.pos in
      same_trans (keeps_whole how) (place_in piece) _ (response_by how scene answer (suc n))
      (subst (λ (s : Standing V). Same (keeps_whole how) (place_in piece) (root_place pos (members_with s.spot.object s.members (map place_in assembled.own)))) root_is
      assembled.piece_is)
      (root_same (keeps_whole how) pos _ _
      (root_right answer (basis_by how scene) n (root_selections scene) (root_spot scene) front.more assembled.own
      (nests_within (setting_by (basis_by how scene)) n (operation_set scene.env.now.operation) nests) right))

-- what is stored of an answer wasn't given away
pub held_since : {V : Type 0} (base : ℕ) (jobs : List (Job V)) (store : Store (Filled V) Piece) (number : ℕ) (answer : Answer V)
    → HoldsSince base jobs store number (Answered answer) → HoldsGiven jobs store number (Answered answer)
held_since base jobs store number answer held = elim held [
  | inl away ↦ (let e = away.1 in absurd (cc))
  | inr kept ↦ kept
]

-- what is stored of an answer that is due
pub stored_due : {V : Type 0} (answer : Call V → Answer V) (jobs : List (Job V)) (store : Store (Filled V) Piece) (k : ℕ) (job : Job V) → slice_get jobs k ≡ Some job
    → HoldsGiven jobs store k (Answered (answer job.asking.call)) → IsStored (IsFilledDue answer) (beneath_due answer) IsMadeAlone jobs store k
stored_due answer jobs store k job is (inl p) =
    let same : p.job ≡ job = (let e : Some p.job ≡ Some job = sym p.there ∙ is in cc) in
    inl (record {
      job = p.job;
      there = p.there;
      filled = p.filled;
      fits = subst (λ (j : Job _). IsFilled p.job (answer j.asking.call) p.filled) (sym same) p.fits;
      none = ap (λ (j : Job _). jobs_beneath p.job (answer j.asking.call)) same ∙ p.none;
      place = p.place;
      put = p.put;
      made = p.made;
    })
stored_due answer jobs store k job is (inr l) =
    let held = l.held in
    let same : held.job ≡ job = (let e : Some held.job ≡ Some job = sym held.there ∙ is in cc) in
    inr (record {
      held = record {
        job = held.job;
        there = held.there;
        kept = held.kept;
        last = held.last;
        fits = subst (λ (j : Job _). IsFilled held.job (answer j.asking.call) held.kept.filled) (sym same) held.fits;
        within = held.within;
        block = held.block ∙ ap (λ (j : Job _). jobs_beneath held.job (answer j.asking.call)) (sym same);
      };
      stays = l.stays;
    })

-- the execution of a scene, from its plan to its place
module _ {R Own World Future P : Type 0} (set : Resolving R Own World Future) (turns : Choosing P) (how : Grouping) (scene : Scene Own) (old : Seen R P) where
  -- the answers that are due
  abbrev pub answers_due : Job Own → Answer Own
  answers_due job = due_by set old.set job.asking.call

  pub due_agrees : Agrees {V = Own} {Task = Job Own} job_subject false (due_by set old.set) answers_due
  due_agrees = record { agrees = λ task is. refl }

  abbrev delay_of : Job Own → ℕ
  delay_of job = delay_by set old.set job.asking.call.resolver

  -- the plan and the arena as they are made
  pub record Begins (first : List (Job Own)) (states : List (State Future)) : Type 0 where
    pub n : ℕ
    pub first_is : first ≡ root_jobs_by how scene
    pub states_is : states ≡ fresh_states n
    pub n_is : n ≡ length first

  -- the plan and the arena as they stand in the end
  pub record Finishes (new : Seen R P) (first last : List (Job Own)) (store store' : Store (Filled Own) Piece) (states states' : List (State Future)) : Type 0 where
    pub lengths : length states' ≡ length last
    pub whole : waiting_from 0 (marks_of states') ≡ []
    pub base : ℕ
    pub base' : ℕ
    pub right : IsRightAt 0 answers_due (HoldsSince base first store) first states → IsRightAt 0 answers_due (HoldsSince base' last store') last states'
    pub ran : Ran (choice_by turns) (story_at set turns job_subject old) (stage_of set turns (made_of first states) old)
        (stage_of set turns (made_of last states') new)

  pub stopped_none : (new : Seen R P) → set.told new.set ≡ set.told old.set → set.begun new.set ≡ set.begun old.set
      → RunStopped set turns (work_by how scene) old new
  stopped_none new told_is begun_is = record {
    stopped = record {
      entries = [];
      told_is = told_is ∙ sym (with_more_none (set.told old.set));
      waits = tt;
      last = [];
      at_most_one = omega arith;
      last_untold = tt;
      starts_is = begun_is ∙ sym (with_more_none (set.begun old.set));
      turned = λ s is. tt;
    };
    paces = λ pace before some. record { paced = λ k task is. refl };
  }

  -- what was told until memory ran out, from these tasks with their marks on
  pub record StoppedFrom (new : Seen R P) (made : Made (Job Own)) : Type 0 where
    pub stopped : Stopped (choice_by turns) (story_at set turns job_subject old) (stage_of set turns made old) (set.told new.set) (set.begun new.set)
    pub paces : set.is_paced old.set → ForSome (set.told old.set) (λ before.
        EachPacedSoFar delay_of (tasks_at (story_at set turns job_subject old) made stopped.entries) stopped.entries)

  module _ (first : List (Job Own)) (states : List (State Future)) (begins : Begins first states) where
    made_is : made_of first states ≡ fresh (root_jobs_by how scene)
    made_is = first_made Own (Job Own) Future first states begins.n begins.states_is begins.n_is ∙ ap fresh begins.first_is

    pub stopped_run : (new : Seen R P) → StoppedFrom new (made_of first states) → RunStopped set turns (work_by how scene) old new
    stopped_run new stopped =
        let from = subst (StoppedFrom new) made_is stopped in
        record { stopped = from.stopped; paces = from.paces }

    module _ (new : Seen R P) (last : List (Job Own)) (store store' : Store (Filled Own) Piece) (states' : List (State Future))
        (finishes : Finishes new first last store store' states states') where
      pub whole_ran : Ran (choice_by turns) (story_at set turns job_subject old) (stage_of set turns (fresh (root_jobs_by how scene)) old)
          (stage_of set turns (made_of last states') new)
      whole_ran = subst (λ m. Ran (choice_by turns) (story_at set turns job_subject old) (stage_of set turns m old)
          (stage_of set turns (made_of last states') new)) made_is finishes.ran

      pub runs_whole : (set.is_paced old.set → ForSome (set.told old.set) (λ before. EachPaced delay_of last whole_ran.entries))
          → RunsWhole set turns (work_by how scene) old new
      runs_whole paces = record {
        made = made_of last states';
        ran = whole_ran;
        whole = finishes.whole;
        paces = paces;
      }

      -- as many steps are taken as there are tasks
      pub steps_end : (n : ℕ) → Nests scene n → (steps steps' : ℕ) → steps' + total started states ≡ steps + total started states'
          → steps' ≡ steps + count_by scene (due_by set old.set) n how
      steps_end n nests steps steps' stepped =
          let none = ap (total started) begins.states_is ∙ started_fresh Future begins.n in
          let all = all_started Future states' (λ k s is. all_done Own (Job Own) Future states' finishes.whole k s is) in
          let long = finishes.lengths in
          let count = tasks_counted how scene (due_by set old.set) answers_due (λ job. refl) whole_ran.entries (made_of last states') whole_ran.waits whole_ran.made_is
          finishes.whole n nests in
          omega (arith, stepped, none, all, long, count)

      held_due : (k : ℕ) (job : Job Own) → slice_get last k ≡ Some job → HoldsGiven last store' k (Answered (answers_due job))
      held_due k job is =
          let right = finishes.right (first_right Own (Job Own) Future answers_due (HoldsSince finishes.base first store) first states begins.n begins.states_is) in
          let within = get_within last k job is in
          let m = finishes.lengths in
          let at = get_at states' k (omega arith) in
          let done = all_done Own (Job Own) Future states' finishes.whole k at.0 at.1 in
          held_since finishes.base' last store' k (answers_due job) (right.kept k job (omega arith) is (at.1 ∙ ap Some (sym done)))

      -- in the end the answers that are due are stored of all tasks
      pub all_held : AllHeld (due_by set old.set) last store'
      all_held = λ k job is. stored_due (due_by set old.set) last store' k job is (held_due k job is)

-- no task stands behind the first ones
pub none_deep : {V : Type 0} (tasks : List (Task V)) (roots : ℕ) → roots ≡ length tasks → (k : ℕ) (task : Task V) → roots ≤ k → slice_get tasks k ≡ Some task
    → IsDeep (job_of_task task)
none_deep tasks roots is k task above there = (let w = get_within tasks k task there in absurd (omega arith))
