-- Places of tasks, put together from the last task that was answered to the first.
use Rattle.std.proofs.Common.{◌≡◌, ℕ, zero, suc, ◌+◌, ◌<◌, ◌≤◌, Bool, true, false, eqb, List, [], ◌∷◌, ◌++◌, length, take, drop, Option, Some, None, slice_get, refl, sym, ap, subst, ◌∙◌, arith, eqb-true, false-eqb, inl, inr, length-append}
use Rattle.std.specs.Prelude.{◌-◌}
use Rattle.gql_lists.proofs.SliceLemmas.{get_append_left}
use Rattle.gql_objects.specs.Entries.{Entry, laid, latest}
use Rattle.gql_place.specs.Alike.{Paired}
use Rattle.gql_objects.specs.PlaceStore.{IsHeld, IsStored, present, put_open, stands_for, Store}
use Rattle.gql_objects.proofs.EntryLemmas.{laid_grows, laid_less, latest_other, latest_same, latest_within}
use Rattle.gql_objects.proofs.PutLemmas.{put_get}

get_drop : {X : Type 0} (n : ℕ) (xs : List X) (k : ℕ) → slice_get (drop n xs) k ≡ slice_get xs (n + k)
get_drop zero xs k = ap (slice_get xs) (let e : k ≡ 0 + k = omega arith in e)
get_drop (suc n) [] k = refl
get_drop (suc n) (x ∷ xs) k = get_drop n xs k ∙ ap (slice_get (x ∷ xs)) (let e : suc (n + k) ≡ suc n + k = omega arith in e)

get_take : {X : Type 0} (n : ℕ) (xs : List X) (k : ℕ) (x : X) → slice_get (take n xs) k ≡ Some x → slice_get xs k ≡ Some x
get_take zero xs k x is = absurd (cc)
get_take (suc n) [] k x is = absurd (cc)
get_take (suc n) (y ∷ xs) zero x is = is
get_take (suc n) (y ∷ xs) (suc k) x is = get_take n xs k x is

drop_append : {X : Type 0} (n : ℕ) (xs ys : List X) → n ≤ length xs → drop n (xs ++ ys) ≡ drop n xs ++ ys
drop_append zero xs ys within = refl
drop_append (suc n) [] ys within = absurd (omega arith)
drop_append (suc n) (x ∷ xs) ys within = drop_append n xs ys (omega arith)

take_append : {X : Type 0} (n : ℕ) (xs ys : List X) → n ≤ length xs → take n (xs ++ ys) ≡ take n xs
take_append zero xs ys within = refl
take_append (suc n) [] ys within = absurd (omega arith)
take_append (suc n) (x ∷ xs) ys within = ap (λ zs. x ∷ zs) (take_append n xs ys (omega arith))

drop_length : {X : Type 0} (n : ℕ) (xs : List X) (m : ℕ) → n + m ≡ length xs → length (drop n xs) ≡ m
drop_length zero xs m is = omega arith
drop_length (suc n) [] m is = absurd (omega arith)
drop_length (suc n) (x ∷ xs) m is = drop_length n xs m (omega arith)

take_all : {X : Type 0} (xs : List X) → take (length xs) xs ≡ xs
take_all [] = refl
take_all (x ∷ xs) = ap (λ ys. x ∷ ys) (take_all xs)

drop_all : {X : Type 0} (xs ys : List X) → drop (length xs) (xs ++ ys) ≡ ys
drop_all [] ys = refl
drop_all (x ∷ xs) ys = drop_all xs ys

module _ {J X : Type 0} {Fits : J → X → Type 0} {beneath : J → List J} where
  -- what is kept of a task stays where another gets something, and tasks are added
  pub held_more : (jobs more : List J) (ks : List (Entry X)) (k : Entry X) (number : ℕ) → (number ≡ k.number → ⊥)
      → IsHeld Fits beneath jobs ks number → IsHeld Fits beneath (jobs ++ more) (ks ++ k ∷ []) number
  held_more jobs more ks k number differs h = record {
    job = h.job;
    there = get_append_left jobs more number h.job h.there;
    kept = h.kept;
    last = latest_other ks k number differs ∙ h.last;
    fits = h.fits;
    within = (let e = length-append jobs more in let w = h.within in omega arith);
    block =
        let w = h.within in
        let long : length (drop h.kept.first jobs) ≡ (length jobs - h.kept.first) = drop_length h.kept.first jobs _ (omega arith) in
        ap (take h.kept.count) (drop_append h.kept.first jobs more (omega arith))
        ∙ take_append h.kept.count (drop h.kept.first jobs) more (omega arith)
        ∙ h.block;
  }

  -- what a task was given last is kept
  pub held_now : (jobs more : List J) (ks : List (Entry X)) (k : Entry X) (job : J) → slice_get jobs k.number ≡ Some job → Fits job k.filled
      → k.first ≡ length jobs → k.count ≡ length more → more ≡ beneath job → IsHeld Fits beneath (jobs ++ more) (ks ++ k ∷ []) k.number
  held_now jobs more ks k job there fits first count made = record {
    job = job;
    there = get_append_left jobs more k.number job there;
    kept = k;
    last = latest_same ks k;
    fits = fits;
    within = (let e = length-append jobs more in omega arith);
    block = (λ i. take (count i) (drop (first i) (jobs ++ more))) ∙ ap (take (length more)) (drop_all jobs more) ∙ take_all more ∙ made;
  }

module _ {J X P : Type 0} (Fits : J → X → Type 0) (beneath : J → List J) (Made : X → P → Type 0) (jobs : List J) where
  -- the place of a task with none under it is put
  pub stored_put : (store : Store X P) (number : ℕ) (job : J) (x : X) (place : P) → slice_get jobs number ≡ Some job → Fits job x
      → beneath job ≡ []
      → stands_for store.places number ≡ Some place → Made x place → IsStored Fits beneath Made jobs store number
  stored_put store number job x place there fits none put made =
      inl (record { job = job; there = there; filled = x; fits = fits; none = none; place = place; put = put; made = made })

  -- what is stored of a task stays where its own place does
  pub stored_beside : (store store' : Store X P) (number : ℕ) → store'.entries ≡ store.entries
      → stands_for store'.places number ≡ stands_for store.places number
      → IsStored Fits beneath Made jobs store number → IsStored Fits beneath Made jobs store' number
  stored_beside store store' number kept same (inl p) = inl
      (record {
        job = p.job;
        there = p.there;
        filled = p.filled;
        fits = p.fits;
        none = p.none;
        place = p.place;
        put = same
            ∙ p.put;
        made = p.made;
      })
  stored_beside store store' number kept same (inr l) = inr
      (record { held = subst (λ es. IsHeld Fits beneath jobs es number) (sym kept) l.held; stays = same ∙ l.stays })

  -- also where tasks are added, and one more is kept
  pub stored_more : (more : List J) (store store' : Store X P) (k : Entry X) (number : ℕ) → (number ≡ k.number → ⊥)
      → store'.entries ≡ store.entries ++ k ∷ []
      → stands_for store'.places number ≡ stands_for store.places number → IsStored Fits beneath Made jobs store number
      → IsStored Fits beneath Made (jobs ++ more) store' number
  stored_more more store store' k number differs kept same (inl p) =
      inl (record {
        job = p.job;
        there = get_append_left jobs more number p.job p.there;
        filled = p.filled;
        fits = p.fits;
        none = p.none;
        place = p.place;
        put = same ∙ p.put;
        made = p.made;
      })
  stored_more more store store' k number differs kept same (inr l) =
      inr (record {
        held = subst (λ es. IsHeld Fits beneath (jobs ++ more) es number) (sym kept)
            (held_more jobs more store.entries k number differs l.held);
        stays = same ∙ l.stays;
      })

  -- what a task was given last is kept, and its place is open
  pub stored_now : (more : List J) (store store' : Store X P) (k : Entry X) (job : J) → slice_get jobs k.number ≡ Some job
      → Fits job k.filled → k.first ≡ length jobs
      → k.count ≡ length more → more ≡ beneath job → store'.entries ≡ store.entries ++ k ∷ [] → stands_for store'.places k.number ≡ None
      → IsStored Fits beneath Made (jobs ++ more) store' k.number
  stored_now more store store' k job there fits first count is kept stays =
      inr (record {
        held = subst (λ es. IsHeld Fits beneath (jobs ++ more) es k.number) (sym kept)
            (held_now jobs more store.entries k job there fits first count is);
        stays = stays;
      })

below_first : {X : Type 0} (n m : ℕ) (ks : List (Entry X)) (k l : Entry X) → laid n ks ≡ Some k.first → k.number < k.first
    → latest (ks ++ k ∷ []) m ≡ Some l → m < k.first
below_first n m ks k l is under found = by (eqb m k.number) refl
  where
    by : (b : Bool) → eqb m k.number ≡ b → m < k.first
    by true test = (let same = eqb-true m k.number test in omega arith)
    by false test =
        let at = latest_within n k.first m ks l is (sym (latest_other ks k m (false-eqb m k.number (sym test))) ∙ found) in
        let same = at.0 in
        let less = at.1 in
        omega arith

pub all_right : {J P : Type 0} (Right : J → P → Type 0) (os : List (Option P)) (js : List J) (c : ℕ) → c ≡ length os → c ≤ length js
    → ((j : ℕ) (job : J) (o : Option P) → slice_get js j ≡ Some job → slice_get os j ≡ Some o → (p : P) × (o ≡ Some p) × Right job p)
    → Paired Right (take c js) (present os)
all_right Right [] js zero long within each = tt
all_right Right [] js (suc c) long within each = absurd (omega arith)
all_right Right (o ∷ os) js zero long within each = absurd (omega arith)
all_right Right (o ∷ os) [] (suc c) long within each = absurd (omega arith)
all_right Right (o ∷ os) (j ∷ js) (suc c) long within each =
    let here = each 0 j o refl refl in
    let rest : Paired Right (take c js) (present os) = all_right Right os js c (omega arith) (omega arith)
    (λ k job p at is. each (suc k) job p at is) in
    subst (λ q. Paired Right (j ∷ take c js) (present (q ∷ os))) (sym here.1) (here.2, rest)

-- what stands at a place once another was put, if none was there: elsewhere what stood there; what was there; or the new one
pub data PutAt {P : Type 0} (place : P) (os : List (Option P)) (n k : ℕ) (o : Option P) : Type 0 where
  elsewhere : (k ≡ n → ⊥) → slice_get os k ≡ Some o → PutAt place os n k o
  stood : (p : P) → o ≡ Some p → slice_get os k ≡ Some o → PutAt place os n k o
  put : k ≡ n → slice_get os k ≡ Some None → o ≡ Some place → PutAt place os n k o

deeper : {P : Type 0} (place : P) (q : Option P) (os : List (Option P)) (n k : ℕ) (o : Option P) → PutAt place os n k o
    → PutAt place (q ∷ os) (suc n) (suc k) o
deeper place q os n k o (elsewhere differs is) = elsewhere (λ e. differs (let s : k ≡ n = omega (arith, e) in s)) is
deeper place q os n k o (stood p is at) = stood p is at
deeper place q os n k o (put same at is) = put (ap suc same) at is

put_at : {P : Type 0} (place : P) (os : List (Option P)) (n k : ℕ) (o : Option P) → slice_get (put_open place os n) k ≡ Some o
    → PutAt place os n k o
put_at place [] n k o is = absurd (cc)
put_at place (None ∷ os) zero zero o is = put refl refl (sym (let e : Some place ≡ o = cc in e))
put_at place (None ∷ os) zero (suc k) o is = elsewhere (λ e. (let b : ⊥ = omega (arith, e) in b)) is
put_at place (Some q ∷ os) zero zero o is = stood q (sym (let e : Some q ≡ o = cc in e)) is
put_at place (Some q ∷ os) zero (suc k) o is = elsewhere (λ e. (let b : ⊥ = omega (arith, e) in b)) is
put_at place (None ∷ os) (suc n) zero o is = elsewhere (λ e. (let b : ⊥ = omega (arith, e) in b)) is
put_at place (Some q ∷ os) (suc n) zero o is = elsewhere (λ e. (let b : ⊥ = omega (arith, e) in b)) is
put_at place (None ∷ os) (suc n) (suc k) o is = deeper place None os n k o (put_at place os n k o is)
put_at place (Some q ∷ os) (suc n) (suc k) o is = deeper place (Some q) os n k o (put_at place os n k o is)

module _ {J X P : Type 0} (Fits : J → X → Type 0) (beneath : J → List J) (Right : J → P → Type 0) (jobs : List J) (base : ℕ) where
  -- a place is right, or what it is made of is kept
  abbrev pub IsDue : List (Entry X) → ℕ → J → Option P → Type 0
  IsDue ks number job None = IsHeld Fits beneath jobs ks number
  IsDue ks number job (Some place) = Right job place

  -- the places so far
  pub record Stands (ks : List (Entry X)) (places : List (Option P)) : Type 0 where
    pub each : (k : ℕ) (job : J) (o : Option P) → base ≤ k → slice_get jobs k ≡ Some job → slice_get places k ≡ Some o → IsDue ks k job o

  -- what is kept of a task but the last one stays without it
  held_less : (ks : List (Entry X)) (k : Entry X) (number : ℕ) → (number ≡ k.number → ⊥) → IsHeld Fits beneath jobs (ks ++ k ∷ []) number
      → IsHeld Fits beneath jobs ks number
  held_less ks k number differs h = record {
    job = h.job;
    there = h.there;
    kept = h.kept;
    last = sym (latest_other ks k number differs) ∙ h.last;
    fits = h.fits;
    within = h.within;
    block = h.block;
  }

  due_less : (ks : List (Entry X)) (k : Entry X) (number : ℕ) (job : J) (o : Option P) → (number ≡ k.number → ⊥)
      → IsDue (ks ++ k ∷ []) number job o → IsDue ks number job o
  due_less ks k number job None differs h = held_less ks k number differs h
  due_less ks k number job (Some place) differs h = h

  placed : (ks : List (Entry X)) (number : ℕ) (job : J) (o : Option P) (p : P) → o ≡ Some p → Right job p → IsDue ks number job o
  placed ks number job o p is right = subst (IsDue ks number job) (sym is) right

  right_at : (ks : List (Entry X)) (number : ℕ) (job : J) (o : Option P) (p : P) → o ≡ Some p → IsDue ks number job o → Right job p
  right_at ks number job o p is due = subst (IsDue ks number job) is due

  not_open : (n m : ℕ) (ks : List (Entry X)) (k : Entry X) (job : J) (o : Option P) → laid n ks ≡ Some k.first → k.number < k.first
      → k.first ≤ m
      → IsDue (ks ++ k ∷ []) m job o → (p : P) × (o ≡ Some p) × Right job p
  not_open n m ks k job None is under above due =
      let less = below_first n m ks k due.kept is under due.last in
      absurd (omega arith)
  not_open n m ks k job (Some p) is under above due = (p, refl, due)

  -- the task that was answered last of those that are left gets its place
  pub stands_less : (n : ℕ) (ks : List (Entry X)) (k : Entry X) (places : List (Option P)) (place : P)
      → base ≤ n → laid n (ks ++ k ∷ []) ≡ Some (length places) → length places ≤ length jobs → Stands (ks ++ k ∷ []) places
      → ((job : J) → Fits job k.filled → Paired Right (beneath job) (present (drop k.first places)) → Right job place)
      → Stands ks (put_open place (take k.first places) k.number)
  stands_less n ks k places place early is within old finishes =
      let lies = laid_less n (length places) ks k is in
      let ends = lies.end_is in
      let grows = laid_grows n k.first ks lies.front_is in
      let own : Paired Right (take k.count (drop k.first jobs)) (present (drop k.first places)) =
      all_right Right (drop k.first places) (drop k.first jobs) k.count (sym (drop_length k.first places k.count lies.end_is))
      (let l = drop_length k.first jobs (length jobs - k.first) (omega arith) in omega arith)
      (λ j job o at stands. not_open n (k.first + j) ks k job o lies.front_is lies.number_is (omega arith)
      (old.each (k.first + j) job o (omega arith) (sym (get_drop k.first jobs j) ∙ at) (sym (get_drop k.first places j) ∙ stands))) in
      record {
        each = λ m job o above there stands.
            elim (put_at place (take k.first places) k.number m o stands) [
              | elsewhere differs at ↦ due_less ks k m job o differs (old.each m job o above there (get_take k.first places m o at))
              | stood p at_is at ↦ placed ks m job o p at_is
                  (right_at (ks ++ k ∷ []) m job o p at_is (old.each m job o above there (get_take k.first places m o at)))
              | put same at at_is ↦
                  let due : IsHeld Fits beneath jobs (ks ++ k ∷ []) m = old.each m job None above there (get_take k.first places m None at)
                  in
                  let kept_is : due.kept ≡ k = (let e : Some due.kept ≡ Some k = sym due.last ∙ ap (latest (ks ++ k ∷ [])) same
                  ∙ latest_same ks k in cc) in
                  let job_is : due.job ≡ job = (let e : Some due.job ≡ Some job = sym due.there ∙ there in cc) in
                  let block : take k.count (drop k.first jobs) ≡ beneath job =
                  ap (λ (x : Entry X). take x.count (drop x.first jobs)) (sym kept_is) ∙ due.block ∙ ap beneath job_is in
                  let fits : Fits job k.filled = subst (λ (x : Entry X). Fits job x.filled) kept_is
                  (subst (λ j. Fits j due.kept.filled) job_is due.fits) in
                  placed ks m job o place at_is (finishes job fits
                  (subst (λ js. Paired Right js (present (drop k.first places))) block own))
            ];
      }

  -- before any place is put together
  pub stands_first : (Made : X → P → Type 0) (store : Store X P)
      → ((k : ℕ) (job : J) → base ≤ k → slice_get jobs k ≡ Some job → IsStored Fits beneath Made jobs store k)
      → ((job : J) (x : X) (place : P) → Fits job x → beneath job ≡ [] → Made x place → Right job place) → Stands store.entries store.places
  stands_first Made store stored finishes = record {
    each = λ k job o above there stands. due k job o there (put_get store.places k o stands) (stored k job above there);
  }
    where
      due : (k : ℕ) (job : J) (o : Option P) → slice_get jobs k ≡ Some job → stands_for store.places k ≡ o
          → IsStored Fits beneath Made jobs store k → IsDue store.entries k job o
      due k job o there at (inl p) =
          let same : p.job ≡ job = (let e : Some p.job ≡ Some job = sym p.there ∙ there in cc) in
          placed store.entries k job o p.place (sym at ∙ p.put)
          (subst (λ j. Right j p.place) same (finishes p.job p.filled p.place p.fits p.none p.made))
      due k job o there at (inr l) = subst (IsDue store.entries k job) (sym (sym at ∙ l.stays)) l.held

  -- all places are put together
  pub stands_last : (places : List (Option P)) → Stands [] places → (j : ℕ) (job : J) (o : Option P) → base ≤ j
      → slice_get jobs j ≡ Some job → slice_get places j ≡ Some o
      → (p : P) × (o ≡ Some p) × Right job p
  stands_last places old = λ j job o above at stands. none_due j job o (old.each j job o above at stands)
    where
      none_due : (j : ℕ) (job : J) (o : Option P) → IsDue [] j job o → (p : P) × (o ≡ Some p) × Right job p
      none_due j job None due = (let l = due.last in absurd (cc))
      none_due j job (Some p) due = (p, refl, due)
