-- What a plan keeps as a task is given something.
use Rattle.std.proofs.Common.{◌≡◌, ℕ, true, ◌+◌, ◌<◌, ◌≤◌, List, [], ◌∷◌, ◌++◌, length, map, Option, Some, None, slice_get, refl, ap, sym, subst, ◌∙◌, arith, length-append, append-nil, inl, inr, Result, Ok, Err, IfOk, OnOk}
use Rattle.std.proofs.lemmas.List.{length-map, map-append}
use Rattle.std.specs.Bool.{◌==◌}
use Rattle.std.specs.List.{AllByRecursion, flat_map}
use Rattle.gql_select.specs.Collected.{own_selections}
use Rattle.gql_lists.proofs.SliceLemmas.{get_append, get_map, get_within}
use Rattle.gql_tasks.specs.Plan.{HasMade}
use Rattle.gql_tasks.specs.declared.given.Given.{Given}
use Rattle.gql_tasks.specs.declared.given.Given.TheVariants.{Answered, Put}
use Rattle.gql_place.specs.declared.piece.Piece.{Piece}
use Rattle.gql_objects.specs.Entries.{laid}
use Rattle.gql_objects.specs.Assembly.{IsMadeAlone}
use Rattle.gql_objects.specs.KeptTasks.{entries_in, entry_of}
use Rattle.gql_engine.specs.GivenTasks.{IsFilledWith, made_beneath}
use Rattle.gql_engine.specs.PlanHolds.{ComesAlone, HoldsGiven, HoldsSince}
use Rattle.gql_objects.specs.KeptTasks.{store_in}
use Rattle.gql_objects.specs.Jobs.{completed_by, Job, jobs_at}
use Rattle.gql_objects.specs.Parents.{standing_at, standing_behind}
use Rattle.gql_objects.specs.PlaceStore.{PutsAt}
use Rattle.gql_complete.specs.FoundObjects.{spots}
use Rattle.gql_objects.specs.Tasks.{IsDeep, job_of_task, jobs_in}
use Rattle.gql_engine.specs.TreePlan.{HasKept, HoldsIn}
use Rattle.gql_objects.specs.declared.assembly.kept.Filled.{Filled}
use Rattle.gql_objects.specs.declared.assembly.kept.Kept.{Kept}
use Rattle.gql_objects.specs.declared.task.Task.{Task}
use Rattle.gql_engine.specs.declared.execute_field.tree_plan.TreePlan.{TreePlan}
use Rattle.gql_tasks.proofs.BlockLemmas.{is-zero}
use Rattle.gql_objects.proofs.AssemblyLemmas.{no_length}
use Rattle.gql_objects.proofs.ObjectLevelLemmas.{every_at}
use Rattle.gql_objects.proofs.EntryLemmas.{laid_more}
use Rattle.gql_objects.proofs.PlaceStoreLemmas.{stored_beside, stored_more, stored_now, stored_put}

-- a task was given something: what is kept of it stands behind the rest, its place is open, and the tasks under it stand after all tasks
pub record Completes (V : Type 0) (tasks tasks' : List (Task V)) (kept kept' : List (Kept V)) (places places' : List (Option Piece)) (k : Kept V) (job : Job V)
    (given : Given V) : Type 0 where
  pub more : List (Task V)
  pub tasks_is : tasks' ≡ tasks ++ more
  pub kept_is : kept' ≡ kept ++ k ∷ []
  pub opens : PutsAt None k.number places places'
  pub there : slice_get (jobs_in tasks) k.number ≡ Some job
  pub first_is : k.first ≡ length tasks
  pub count_is : k.count ≡ length more
  pub beneath_is : jobs_in more ≡ made_beneath given job
  pub filled_is : IsFilledWith given job k.filled
  pub deep : AllByRecursion IsDeep (made_beneath given job)

module _ {V : Type 0} {tasks tasks' : List (Task V)} {kept kept' : List (Kept V)} {places places' : List (Option Piece)} {k : Kept V} {job : Job V} {given : Given V}
    (done : Completes V tasks tasks' kept kept' places places' k job given) where
  pub completes_made : jobs_in tasks' ≡ jobs_in tasks ++ made_beneath given job
  completes_made = ap jobs_in done.tasks_is ∙ map-append job_of_task tasks done.more ∙ ap (λ js. jobs_in tasks ++ js) done.beneath_is

  pub completes_count : k.count ≡ length (made_beneath given job)
  completes_count = done.count_is ∙ sym (length-map done.more job_of_task) ∙ ap length done.beneath_is

  -- the tasks under are made, and their number is told
  pub completes_has : (other : Job V) → slice_get (jobs_in tasks) k.number ≡ Some other → HasMade (jobs_in tasks) (jobs_in tasks') (made_beneath given other) k.count
  completes_has other is =
      let same : job ≡ other = (let e : Some job ≡ Some other = sym done.there ∙ is in cc) in
      (completes_made ∙ ap (λ j. jobs_in tasks ++ made_beneath given j) same, completes_count ∙ ap (λ j. length (made_beneath given j)) same)

  entries_are : entries_in kept' ≡ entries_in kept ++ entry_of k ∷ []
  entries_are = ap entries_in done.kept_is ∙ map-append entry_of kept (k ∷ [])

  pub completes_laid : (roots : ℕ) → laid roots (entries_in kept) ≡ Some (length tasks) → laid roots (entries_in kept') ≡ Some (length tasks')
  completes_laid roots is =
      let within : k.number < length (jobs_in tasks) = get_within (jobs_in tasks) k.number job done.there in
      let same = length-map tasks job_of_task in
      let first = done.first_is in
      let count = done.count_is in
      let long : k.first + k.count ≡ length tasks' = (let a = ap length done.tasks_is in let b = length-append tasks done.more in omega arith) in
      ap (laid roots) entries_are
      ∙ laid_more roots (entries_in kept) (entry_of k) (is ∙ ap Some (sym done.first_is)) (omega arith)
      ∙ ap Some long

  pub completes_deep : (roots : ℕ) → ((n : ℕ) (task : Task V) → roots ≤ n → slice_get tasks n ≡ Some task → IsDeep (job_of_task task))
      → (n : ℕ) (task : Task V) → roots ≤ n → slice_get tasks' n ≡ Some task → IsDeep (job_of_task task)
  completes_deep roots before n task above is =
      elim (get_append tasks done.more n task (ap (λ ts. slice_get ts n) (sym done.tasks_is) ∙ is)) [
        | inl here ↦ before n task above here
        | inr later ↦ every_at IsDeep (made_beneath given job) later.0 (job_of_task task) done.deep
            (ap (λ js. slice_get js later.0) (sym done.beneath_is) ∙ get_map job_of_task done.more later.0 task later.2)
      ]

  pub completes_holds : HoldsGiven (jobs_in tasks') (store_in kept' places') k.number given
  completes_holds =
      subst (λ js. HoldsGiven js (store_in kept' places') k.number given) (sym completes_made)
      (stored_now (IsFilledWith given) (made_beneath given) IsMadeAlone (jobs_in tasks) (made_beneath given job) (store_in kept places) (store_in kept' places') (entry_of k) job done.there
      done.filled_is (done.first_is ∙ sym (length-map tasks job_of_task)) completes_count refl entries_are done.opens.here)

  pub completes_keeps : (other : ℕ) (g : Given V) → (other ≡ k.number → ⊥) → HoldsGiven (jobs_in tasks) (store_in kept places) other g
      → HoldsGiven (jobs_in tasks') (store_in kept' places') other g
  completes_keeps other g differs held =
      subst (λ js. HoldsGiven js (store_in kept' places') other g) (sym completes_made)
      (stored_more (IsFilledWith g) (made_beneath g) IsMadeAlone (jobs_in tasks) (made_beneath given job) (store_in kept places) (store_in kept' places') (entry_of k) other differs
      entries_are (done.opens.others other differs) held)

  -- also where that of earlier phases was given away
  pub completes_keeps_since : (base other : ℕ) (g : Given V) → (other ≡ k.number → ⊥) → HoldsSince base (jobs_in tasks) (store_in kept places) other g
      → HoldsSince base (jobs_in tasks') (store_in kept' places') other g
  completes_keeps_since base other g differs held = elim held [
    | inl away ↦ inl away
    | inr kept_one ↦ inr (completes_keeps other g differs kept_one)
  ]

-- what was made for a task
pub completes_task : {V : Type 0} (tasks tasks' more : List (Task V)) (kept kept' : List (Kept V)) (places places' : List (Option Piece)) (k : Kept V) (task : Task V) (given : Given V)
    → slice_get tasks k.number ≡ Some task → tasks' ≡ tasks ++ more → kept' ≡ kept ++ k ∷ [] → PutsAt None k.number places places' → k.first ≡ length tasks → k.count ≡ length more
    → jobs_in more ≡ made_beneath given (job_of_task task) → IsFilledWith given (job_of_task task) k.filled → AllByRecursion IsDeep (made_beneath given (job_of_task task))
    → Completes V tasks tasks' kept kept' places places' k (job_of_task task) given
completes_task tasks tasks' more kept kept' places places' k task given there tasks_is kept_is opens first_is count_is beneath_is filled_is deep =
    record {
      more = more;
      tasks_is = tasks_is;
      kept_is = kept_is;
      opens = opens;
      there = get_map job_of_task tasks k.number task there;
      first_is = first_is;
      count_is = count_is;
      beneath_is = beneath_is;
      filled_is = filled_is;
      deep = deep;
    }

map_none : {A B : Type 0} (f : A → B) (xs : List A) → map f xs ≡ [] → xs ≡ []
map_none f [] none = refl
map_none f (x ∷ xs) none = absurd (cc)

-- where what a task was given came to no object, no tasks are made under it
none_made : {V : Type 0} (given : Given V) (job : Job V) (filled : Filled V) → IsFilledWith given job filled → filled.parents.items ≡ [] → made_beneath given job ≡ []
none_made (Answered answer) job filled fits none =
    ap (flat_map (jobs_at job.basis (own_selections job.field)))
    (map_none (standing_at job.basis (own_selections job.field)) (spots (completed_by job answer) job.path) (sym fits.parents_are ∙ ap (map standing_behind) none))
none_made (Put put) job filled fits none = refl

-- a task was given what came to no object: what is kept of its place is put
pub record PutsAlone (V : Type 0) (tasks : List (Task V)) (places places' : List (Option Piece)) (number : ℕ) (job : Job V) (given : Given V) : Type 0 where
  pub there : slice_get (jobs_in tasks) number ≡ Some job
  pub piece : Piece
  pub comes : ComesAlone given job piece
  pub puts : PutsAt (Some piece) number places places'

module _ {V : Type 0} {tasks : List (Task V)} {places places' : List (Option Piece)} {number : ℕ} {job : Job V} {given : Given V}
    (done : PutsAlone V tasks places places' number job given) where
  none : made_beneath given job ≡ []
  none = none_made given job done.comes.filled done.comes.fits done.comes.none

  pub alone_has : (other : Job V) → slice_get (jobs_in tasks) number ≡ Some other → HasMade (jobs_in tasks) (jobs_in tasks) (made_beneath given other) 0
  alone_has other is =
      let same : job ≡ other = (let e : Some job ≡ Some other = sym done.there ∙ is in cc) in
      let nothing : made_beneath given other ≡ [] = ap (made_beneath given) (sym same) ∙ none in
      (sym (append-nil (jobs_in tasks)) ∙ ap (λ js. jobs_in tasks ++ js) (sym nothing), ap length (sym nothing))

  pub alone_holds : (kept : List (Kept V)) → HoldsGiven (jobs_in tasks) (store_in kept places') number given
  alone_holds kept =
      stored_put (IsFilledWith given) (made_beneath given) IsMadeAlone (jobs_in tasks) (store_in kept places') number job done.comes.filled done.piece done.there done.comes.fits none
      done.puts.here done.comes.made

  pub alone_keeps_since : (kept : List (Kept V)) (base other : ℕ) (g : Given V) → (other ≡ number → ⊥) → HoldsSince base (jobs_in tasks) (store_in kept places) other g
      → HoldsSince base (jobs_in tasks) (store_in kept places') other g
  alone_keeps_since kept base other g differs held = elim held [
    | inl away ↦ inl away
    | inr stored ↦ inr (stored_beside (IsFilledWith g) (made_beneath g) IsMadeAlone (jobs_in tasks) (store_in kept places) (store_in kept places') other refl
        (done.puts.others other differs) stored)
  ]

  -- where nothing else of the plan changes
  pub alone_keeps : {tasks' : List (Task V)} {kept kept' : List (Kept V)} (base base' : ℕ) → tasks' ≡ tasks → kept' ≡ kept → base' ≡ base → (other : ℕ) (g : Given V) → (other ≡ number → ⊥)
      → HoldsSince base (jobs_in tasks) (store_in kept places) other g → HoldsSince base' (jobs_in tasks') (store_in kept' places') other g
  alone_keeps {tasks' = tasks'} {kept = kept} {kept' = kept'} base base' tasks_is kept_is base_is other g differs held =
      subst (λ b. HoldsSince b (jobs_in tasks') (store_in kept' places') other g) (sym base_is)
      (subst (λ ts. HoldsSince base (jobs_in ts) (store_in kept' places') other g) (sym tasks_is)
      (subst (λ ks. HoldsSince base (jobs_in tasks) (store_in ks places') other g) (sym kept_is) (alone_keeps_since kept base other g differs held)))

-- a list of which a test says that it has no items
pub no_items : {X : Type 0} (xs : List X) (n : ℕ) → n ≡ length xs → true ≡ (n == 0) → xs ≡ []
no_items xs n long is = no_length xs (sym long ∙ is-zero n is)

-- where what is put is what it comes to
pub puts_alone : {V : Type 0} (tasks : List (Task V)) (places places' : List (Option Piece)) (number : ℕ) (task : Task V) (given : Given V) (piece : Piece)
    → slice_get tasks number ≡ Some task → ComesAlone given (job_of_task task) piece → PutsAt (Some piece) number places places'
    → PutsAlone V tasks places places' number (job_of_task task) given
puts_alone tasks places places' number task given piece there comes puts = record {
  there = get_map job_of_task tasks number task there;
  piece = piece;
  comes = comes;
  puts = puts;
}

-- what a plan keeps of one that it was given, where that is what a task was given
module _ {V E : Type 0} (old new : TreePlan V) (number : ℕ) (given other : Given V) where
  pub kept_made : (r : Result ℕ E) → IfOk r (HasKept old new number given) → given ≡ other → (task : Job V)
      → slice_get (jobs_in old.tasks.items) number ≡ Some task
      → IfOk r (HasMade (jobs_in old.tasks.items) (jobs_in new.tasks.items) (made_beneath other task))
  kept_made (Ok count) kept same task is =
      subst (λ g. HasMade (jobs_in old.tasks.items) (jobs_in new.tasks.items) (made_beneath g task) count) same (kept.made task is)
  kept_made (Err e) kept same task is = tt

  pub kept_holds : (r : Result ℕ E) → IfOk r (HasKept old new number given) → given ≡ other → OnOk r (HoldsIn new number other)
  kept_holds (Ok count) kept same = subst (HoldsIn new number) same kept.holds
  kept_holds (Err e) kept same = tt

  pub kept_keeps : (r : Result ℕ E) → IfOk r (HasKept old new number given)
      → OnOk r ((k : ℕ) (g : Given V) → (k ≡ number → ⊥) → HoldsIn old k g → HoldsIn new k g)
  kept_keeps (Ok count) kept = kept.keeps
  kept_keeps (Err e) kept = tt
