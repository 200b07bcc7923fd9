-- How many tasks a record makes: as many as there are under those that it begins with, these among them.
use Rattle.std.proofs.Common.{◌≡◌, ◌+◌, ℕ, zero, suc, Bool, true, false, List, [], ◌∷◌, ◌++◌, map, length, Option, Some, None, slice_get, slice_set, refl, ap, sym, subst, ◌∙◌, arith}
use Rattle.std.specs.List.{AllByRecursion}
use Rattle.gql_resolve.specs.declared.record_entry.RecordEntry.{RecordEntry}
use Rattle.gql_tasks.specs.Phases.{after_root}
use Rattle.gql_tasks.specs.Record.{after_entry, after_mark, after_pending, after_ready, begun, beneath_of, EachWaits, fresh, IsOpenAt, Made, made_at, Mark, ready, Story, untold, untold_marks, waiting_from}

-- the sum of numbers
abbrev pub sum : List ℕ → ℕ
sum [] = 0
sum (n ∷ ns) = n + sum ns

sum_append : (one other : List ℕ) → sum (one ++ other) ≡ sum one + sum other
sum_append [] other = omega arith
sum_append (n ∷ one) other = let e = sum_append one other in omega arith

map_both : {A B : Type 0} (f : A → B) (xs ys : List A) → map f (xs ++ ys) ≡ map f xs ++ map f ys
map_both f [] ys = refl
map_both f (x ∷ xs) ys = ap (λ zs. f x ∷ zs) (map_both f xs ys)

all_both : {A : Type 0} (P : A → Type 0) (xs ys : List A) → AllByRecursion P xs → AllByRecursion P ys → AllByRecursion P (xs ++ ys)
all_both P [] ys h k = k
all_both P (x ∷ xs) ys h k = (h.0, all_both P xs ys h.1 k)

-- a count of tasks, of those that stay within some bound: each counts itself and those under it
module _ {Task : Type 0} (story : Story Task) (count : Task → ℕ) (Within : Task → Type 0) where
  pub record IsCount : Type 0 where
    pub counts : (task : Task) → Within task → count task ≡ 1 + sum (map count (story.beneath task))
    pub stays : (task : Task) → Within task → AllByRecursion Within (story.beneath task)

  -- what a task counts by its mark: a ready one itself, and one that waits all that it stands for
  abbrev worth : Mark → Task → ℕ
  worth untold task = count task
  worth begun task = count task
  worth ready task = 1

  abbrev worth_all : List Task → List Mark → ℕ
  worth_all [] marks = 0
  worth_all (t ∷ tasks) [] = 0
  worth_all (t ∷ tasks) (m ∷ marks) = worth m t + worth_all tasks marks

  fresh_worth : (tasks : List Task) → worth_all tasks (untold_marks tasks) ≡ sum (map count tasks)
  fresh_worth [] = refl
  fresh_worth (t ∷ tasks) = ap (λ n. count t + n) (fresh_worth tasks)

  both_worth : (tasks more : List Task) (marks others : List Mark) → length marks ≡ length tasks
      → worth_all (tasks ++ more) (marks ++ others) ≡ worth_all tasks marks + worth_all more others
  both_worth [] more [] others long = omega arith
  both_worth [] more (m ∷ marks) others long = absurd (omega arith)
  both_worth (t ∷ tasks) more [] others long = absurd (omega arith)
  both_worth (t ∷ tasks) more (m ∷ marks) others long =
      let rest = both_worth tasks more marks others (let e : length marks ≡ length tasks = omega arith in e) in omega arith

  -- a task that waits is worth what it counts
  open_worth : (m : Mark) (task : Task) → IsOpenAt (Some m) → worth m task ≡ count task
  open_worth untold task is = refl
  open_worth begun task is = refl
  open_worth ready task is = absurd is

  -- once its mark changes, that of its task does
  set_worth : (tasks : List Task) (marks : List Mark) (k : ℕ) (task : Task) (old new : Mark) → slice_get tasks k ≡ Some task → slice_get marks k ≡ Some old
      → worth_all tasks (slice_set marks k new) + worth old task ≡ worth_all tasks marks + worth new task
  set_worth [] marks k task old new is at = absurd (cc)
  set_worth (t ∷ tasks) [] k task old new is at = absurd (cc)
  set_worth (t ∷ tasks) (m ∷ marks) zero task old new is at =
      let same : t ≡ task = cc in
      let here : m ≡ old = cc in
      subst (λ x. worth new x + worth_all tasks marks + worth old task ≡ worth m x + worth_all tasks marks + worth new task) (sym same)
      (subst (λ x. worth new task + worth_all tasks marks + worth old task ≡ worth x task + worth_all tasks marks + worth new task) (sym here) (omega arith))
  set_worth (t ∷ tasks) (m ∷ marks) (suc k) task old new is at = let rest = set_worth tasks marks k task old new is at in omega arith

  -- the tasks and their marks: as many of each, and all within the bound
  record IsCounting (made : Made Task) : Type 0 where
    pub long : length made.marks ≡ length made.tasks
    pub within : AllByRecursion Within made.tasks

  abbrev worth_of : Made Task → ℕ
  worth_of made = worth_all made.tasks made.marks

  set_long : (marks : List Mark) (k : ℕ) (m : Mark) → length (slice_set marks k m) ≡ length marks
  set_long [] k m = refl
  set_long (n ∷ marks) zero m = refl
  set_long (n ∷ marks) (suc k) m = ap suc (set_long marks k m)

  untold_long : (tasks : List Task) → length (untold_marks tasks) ≡ length tasks
  untold_long [] = refl
  untold_long (t ∷ tasks) = ap suc (untold_long tasks)

  append_long : {A : Type 0} (xs ys : List A) → length (xs ++ ys) ≡ length xs + length ys
  append_long [] ys = omega arith
  append_long (x ∷ xs) ys = let e = append_long xs ys in omega arith

  all_at : (tasks : List Task) (k : ℕ) (task : Task) → AllByRecursion Within tasks → slice_get tasks k ≡ Some task → Within task
  all_at [] k task h is = absurd (cc)
  all_at (t ∷ tasks) zero task h is = subst Within (let e : t ≡ task = cc in e) h.0
  all_at (t ∷ tasks) (suc k) task h is = all_at tasks k task h.1 is

  -- where a task has a mark it is there
  task_at : (tasks : List Task) (marks : List Mark) (k : ℕ) (old : Mark) → length marks ≡ length tasks → slice_get marks k ≡ Some old
      → (task : Task) × (slice_get tasks k ≡ Some task)
  task_at tasks [] k old long at = absurd (cc)
  task_at [] (m ∷ marks) k old long at = absurd (omega arith)
  task_at (t ∷ tasks) (m ∷ marks) zero old long at = (t, refl)
  task_at (t ∷ tasks) (m ∷ marks) (suc k) old long at = task_at tasks marks k old (let e : length marks ≡ length tasks = omega arith in e) at

  module _ (is : IsCount) where
    record Goes (made made' : Made Task) : Type 0 where
      pub counting : IsCounting made'
      pub same : worth_of made' ≡ worth_of made

    pending_goes : (made : Made Task) (k : ℕ) (task : Task) (old : Mark) → IsCounting made → slice_get made.tasks k ≡ Some task → slice_get made.marks k ≡ Some old
        → IsOpenAt (Some old) → Goes made (after_pending made k)
    pending_goes made k task old c here at opened = record {
      counting = record { long = set_long made.marks k begun ∙ c.long; within = c.within };
      same =
          let moved = set_worth made.tasks made.marks k task old begun here at in
          let worth_is = open_worth old task opened in
          omega arith;
    }

    ready_goes : (made : Made Task) (k : ℕ) (task : Task) (old : Mark) → IsCounting made → slice_get made.tasks k ≡ Some task → slice_get made.marks k ≡ Some old
        → IsOpenAt (Some old) → Goes made (after_ready made k (story.beneath task))
    ready_goes made k task old c here at opened = record {
      counting = record {
        long =
            let a = append_long (slice_set made.marks k ready) (untold_marks (story.beneath task)) in
            let b = append_long made.tasks (story.beneath task) in
            let s = set_long made.marks k ready in
            let u = untold_long (story.beneath task) in
            let l = c.long in
            omega arith;
        within = all_both Within made.tasks (story.beneath task) c.within (is.stays task (all_at made.tasks k task c.within here));
      };
      same =
          let moved = set_worth made.tasks made.marks k task old ready here at in
          let worth_is = open_worth old task opened in
          let counts = is.counts task (all_at made.tasks k task c.within here) in
          let both = both_worth made.tasks (story.beneath task) (slice_set made.marks k ready) (untold_marks (story.beneath task)) (set_long made.marks k ready ∙ c.long) in
          let more = fresh_worth (story.beneath task) in
          omega arith;
    }

    entry_goes : (made : Made Task) (k : ℕ) (is_ready : Bool) (o : Option Mark) → IsCounting made → slice_get made.marks k ≡ o → IsOpenAt o → Goes made (after_mark story made k is_ready)
    entry_goes made k is_ready None c at opened = absurd opened
    entry_goes made k true (Some old) c at opened =
        let found = task_at made.tasks made.marks k old c.long at in
        subst (λ (t : Option Task). Goes made (after_ready made k (beneath_of story t))) (sym found.1) (ready_goes made k found.0 old c found.1 at opened)
    entry_goes made k false (Some old) c at opened =
        let found = task_at made.tasks made.marks k old c.long at in
        pending_goes made k found.0 old c found.1 at opened

    record_goes : (made : Made Task) (entries : List RecordEntry) → IsCounting made → EachWaits story made entries → Goes made (made_at story made entries)
    record_goes made [] c waits = record { counting = c; same = refl }
    record_goes made (e ∷ entries) c waits =
        let one = entry_goes made e.task e.ready (slice_get made.marks e.task) c refl waits.0 in
        let rest = record_goes (after_entry story made e) entries one.counting waits.1 in
        record { counting = rest.counting; same = rest.same ∙ one.same }

    -- where none waits, each task is worth itself
    all_ready : (n : ℕ) (tasks : List Task) (marks : List Mark) → length marks ≡ length tasks → waiting_from n marks ≡ [] → worth_all tasks marks ≡ length tasks
    all_ready n [] marks long none = refl
    all_ready n (t ∷ tasks) [] long none = absurd (omega arith)
    all_ready n (t ∷ tasks) (untold ∷ marks) long none = absurd (cc)
    all_ready n (t ∷ tasks) (begun ∷ marks) long none = absurd (cc)
    all_ready n (t ∷ tasks) (ready ∷ marks) long none =
        let rest = all_ready (suc n) tasks marks (let e : length marks ≡ length tasks = omega arith in e) none in omega arith

    -- a phase makes as many tasks more as its root counts
    pub phase_count : (old : Made Task) (root : Task) (entries : List RecordEntry) (new : Made Task) → length old.marks ≡ length old.tasks
        → AllByRecursion Within old.tasks → Within root → waiting_from 0 old.marks ≡ [] → EachWaits story (after_root old root) entries
        → new ≡ made_at story (after_root old root) entries → waiting_from 0 new.marks ≡ []
        → (length new.tasks ≡ length old.tasks + count root) × (length new.marks ≡ length new.tasks) × AllByRecursion Within new.tasks
    phase_count old root entries new long within own none waits new_is over =
        let goes = record_goes (after_root old root) entries (record {
          long = (let a = append_long old.marks (untold ∷ []) in let b = append_long old.tasks (root ∷ []) in omega (arith, long));
          within = all_both Within old.tasks (root ∷ []) within (own, tt);
        }) waits in
        let ends : Goes (after_root old root) new = subst (Goes (after_root old root)) (sym new_is) goes in
        let here = all_ready 0 new.tasks new.marks ends.counting.long over in
        let before = all_ready 0 old.tasks old.marks long none in
        let both = both_worth old.tasks (root ∷ []) old.marks (untold ∷ []) long in
        let same = ends.same in
        (omega arith, ends.counting.long, ends.counting.within)

    -- a whole record makes as many tasks as those that it begins with count
    pub whole_count : (first : List Task) (entries : List RecordEntry) (made : Made Task) → AllByRecursion Within first → EachWaits story (fresh first) entries
        → made ≡ made_at story (fresh first) entries → waiting_from 0 made.marks ≡ [] → length made.tasks ≡ sum (map count first)
    whole_count first entries made within waits is none =
        let goes = record_goes (fresh first) entries (record { long = untold_long first; within = within }) waits in
        let ends : Goes (fresh first) made = subst (Goes (fresh first)) (sym is) goes in
        sym (all_ready 0 made.tasks made.marks ends.counting.long none) ∙ ends.same ∙ fresh_worth first
