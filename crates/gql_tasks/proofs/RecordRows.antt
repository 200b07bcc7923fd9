-- Records computed: one that turns choose, under two lists of turns, and one where memory ran out.
use Rattle.std.proofs.Common.{◌≡◌, ℕ, zero, suc, Bool, true, false, if◌then◌else◌, List, [], ◌∷◌, ◌++◌, refl, sym, subst, arith}
use Rattle.std.specs.Prelude.{◌%◌, Some, None, codes, slice_get}
use Rattle.gql_request.specs.Path.{IsFront}
use Rattle.gql_resolve.specs.declared.record_entry.RecordEntry.{RecordEntry}
use Rattle.gql_tasks.specs.Pace.{EachPacedSoFar, pending_then_ready, told_of}
use Rattle.gql_tasks.specs.Record.{AreUntold, Choice, EachWaits, Made, Stage, Stopped, Story, Turned, begun_at, fresh, made_at, ready, state_at, tasks_at, untold, waiting}

-- turns by a list of numbers: the rest of the next one by the number of those that wait, and after the last the first of them
abbrev by_list : Choice (List ℕ)
by_list = record { place = place; after = after }
  where
    place : List ℕ → ℕ → ℕ
    place [] n = 0
    place (number ∷ numbers) n = number % n

    after : List ℕ → ℕ → List ℕ
    after [] n = []
    after (number ∷ numbers) n = numbers

-- `{ a b }`: the task of `a` is 0 and that of `b` is 1, and none is under them
abbrev two_fields : Story ℕ
two_fields = record { resolver = λ task. task; path = λ task. if task_is_first task then codes "a" else codes "b"; beneath = λ task. [] }
  where
    task_is_first : ℕ → Bool
    task_is_first zero = true
    task_is_first (suc n) = false

abbrev a : Bool → RecordEntry
a done = record { task = 0; path = codes "a"; resolver = 0; ready = done }

abbrev b : Bool → RecordEntry
b done = record { task = 1; path = codes "b"; resolver = 1; ready = done }

-- the first turn is of the second of two that wait, and then the first waits alone
b_first : Turned by_list two_fields (1 ∷ 0 ∷ []) (fresh (0 ∷ 1 ∷ [])) (b true ∷ a false ∷ a false ∷ a true ∷ [])
b_first = (refl, (refl, refl), (refl, (refl, refl), (refl, (refl, refl), (refl, (refl, refl), tt))))

-- by other turns the first one goes to its end before
a_first : Turned by_list two_fields (0 ∷ 0 ∷ []) (fresh (0 ∷ 1 ∷ [])) (a false ∷ a false ∷ a true ∷ b true ∷ [])
a_first = (refl, (refl, refl), (refl, (refl, refl), (refl, (refl, refl), (refl, (refl, refl), tt))))

-- neither record is one of the other turns
another_order : Turned by_list two_fields (1 ∷ 0 ∷ []) (fresh (0 ∷ 1 ∷ [])) (a false ∷ a false ∷ a true ∷ b true ∷ []) → ⊥
another_order turned = (let bad : Some 1 ≡ Some 0 = turned.0 in cc)

-- in the end none waits, both have begun in the order of their first entries, and the turns are used up
none_waits_then : waiting (made_at two_fields (fresh (0 ∷ 1 ∷ [])) (b true ∷ a false ∷ a false ∷ a true ∷ [])) ≡ []
none_waits_then = refl

begun_in_order : begun_at two_fields (fresh (0 ∷ 1 ∷ [])) (b true ∷ a false ∷ a false ∷ a true ∷ []) ≡ 1 ∷ 0 ∷ []
begun_in_order = refl

turns_used_up : state_at by_list two_fields (1 ∷ 0 ∷ []) (fresh (0 ∷ 1 ∷ [])) (b true ∷ a false ∷ a false ∷ a true ∷ []) ≡ []
turns_used_up = refl

-- a root, with one task under it
abbrev one_beneath : Story Bool
one_beneath = record { resolver = λ root. 0; path = λ root. []; beneath = λ root. if root then false ∷ [] else [] }

abbrev of : ℕ → Bool → RecordEntry
of task done = record { task = task; path = []; resolver = 0; ready = done }

-- turns that tell nothing, before the root
abbrev silent : Stage Bool (List ℕ)
silent = record { made = fresh (true ∷ []); told = Some []; starts = Some []; turns = None }

-- memory ran out after the answer of the root, when the task under it had begun: that it has begun is told, and no entry of it
abbrev cut_below : Stopped by_list one_beneath silent (Some (of 0 true ∷ [])) (Some (0 ∷ 1 ∷ []))
cut_below = record {
  entries = of 0 true ∷ [];
  told_is = refl;
  waits = (tt, tt);
  last = 1 ∷ [];
  at_most_one = omega arith;
  last_untold = (refl, tt);
  starts_is = refl;
  turned = λ s is. absurd (let bad : None ≡ Some s = is in cc);
}

-- so far each of the two tasks that are made keeps its pace
paced_below : EachPacedSoFar (λ task. 0) (tasks_at one_beneath (fresh (true ∷ [])) cut_below.entries) cut_below.entries
paced_below = record { paced = paced }
  where
    made : Made Bool
    made = made_at one_beneath (fresh (true ∷ [])) (of 0 true ∷ [])

    paced : (k : ℕ) (task : Bool) → slice_get made.tasks k ≡ Some task → IsFront (told_of k (of 0 true ∷ [])) (pending_then_ready 0)
    paced zero task is = refl
    paced (suc zero) task is = refl
    paced (suc (suc k)) task is = absurd (cc)

-- but the root, which has an entry, can't have begun once more
begun_again : Stopped by_list one_beneath silent (Some (of 0 true ∷ [])) (Some (0 ∷ 0 ∷ [])) → ⊥
begun_again stopped = again stopped.entries stopped.last stopped.told_is stopped.last_untold stopped.starts_is
  where
    made : List RecordEntry → Made Bool
    made entries = made_at one_beneath (fresh (true ∷ [])) entries

    again : (entries : List RecordEntry) (last : List ℕ) → Some (of 0 true ∷ []) ≡ Some entries → AreUntold (made entries) last
        → Some (0 ∷ 0 ∷ []) ≡ Some (begun_at one_beneath (fresh (true ∷ [])) entries ++ last) → ⊥
    again entries last told_is untold_is starts_is =
        let here : of 0 true ∷ [] ≡ entries = cc in
        let fresh_yet : AreUntold (made (of 0 true ∷ [])) last = subst (λ es. AreUntold (made es) last) (sym here) untold_is in
        let begun_is : Some (0 ∷ 0 ∷ []) ≡ Some (0 ∷ last)
        = subst (λ es. Some (0 ∷ 0 ∷ []) ≡ Some (begun_at one_beneath (fresh (true ∷ [])) es ++ last)) (sym here) starts_is in
        let last_is : last ≡ 0 ∷ [] = cc in
        let bad : Some ready ≡ Some untold = (subst (AreUntold (made (of 0 true ∷ []))) last_is fresh_yet).0 in
        cc

-- over no tasks nothing was told and nothing has begun, whatever the turns tell
none_told : (entries : List RecordEntry) → EachWaits one_beneath (fresh []) entries → entries ≡ []
none_told [] waits = refl
none_told (entry ∷ entries) waits = absurd waits.0

none_began : (last : List ℕ) → AreUntold {Task = Bool} (fresh []) last → last ≡ []
none_began [] untold_is = refl
none_began (number ∷ last) untold_is = absurd (let bad : None ≡ Some untold = untold_is.0 in cc)

-- the task under the root may not be polled once more than its delay, also where memory ran out after that
too_slow : EachPacedSoFar (λ task. 0) (tasks_at one_beneath (fresh (true ∷ [])) (of 0 true ∷ of 1 false ∷ []))
    (of 0 true ∷ of 1 false ∷ []) → ⊥
too_slow paced = (let bad : true ∷ [] ≡ false ∷ [] = paced.paced 1 false refl in cc)
