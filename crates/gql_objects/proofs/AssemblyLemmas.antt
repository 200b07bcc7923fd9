-- The places of tasks as they are put together, from the task that was answered last to the first.
use Rattle.std.proofs.Common.{◌≡◌, ℕ, zero, suc, ◌<◌, ◌≤◌, List, [], ◌∷◌, ◌++◌, length, take, drop, Option, Some, None, refl, ap, sym, subst, ◌∙◌, arith}
use Rattle.std.proofs.lemmas.List.{map-append}
use Rattle.gql_place.specs.Alike.{Paired}
use Rattle.gql_place.specs.declared.piece.Piece.{Piece}
use Rattle.gql_resolve.specs.Call.{Call}
use Rattle.gql_resolve.specs.declared.answer.Answer.{Answer}
use Rattle.gql_objects.specs.Assembly.{AllHeldSince, ArePlaced, beneath_due, IsFilledDue, IsMadeAlone, IsPutOpen, IsRight}
use Rattle.gql_objects.specs.Entries.{laid}
use Rattle.gql_objects.specs.KeptTasks.{entries_in, entry_of}
use Rattle.gql_objects.specs.KeptTasks.{store_in}
use Rattle.gql_objects.specs.Jobs.{Job}
use Rattle.gql_objects.specs.PlaceStore.{present, put_open, stands_for}
use Rattle.gql_objects.specs.declared.assembly.kept.Kept.{Kept}
use Rattle.gql_objects.proofs.EntryLemmas.{Laid, laid_less}
use Rattle.gql_objects.proofs.PlacedLemmas.{made_right}
use Rattle.gql_objects.proofs.PlaceStoreLemmas.{all_right, Stands, stands_first, stands_last, stands_less, stored_beside}

take_long : {X : Type 0} (n : ℕ) (xs : List X) → n ≤ length xs → length (take n xs) ≡ n
take_long zero xs within = refl
take_long (suc n) [] within = absurd (omega arith)
take_long (suc n) (x ∷ xs) within = ap suc (take_long n xs (omega arith))

-- what has no length has no items
pub no_length : {X : Type 0} (xs : List X) → length xs ≡ 0 → xs ≡ []
no_length [] none = refl
no_length (x ∷ xs) none = absurd (omega arith)

put_long : {P : Type 0} (place : P) (os : List (Option P)) (n : ℕ) → length (put_open place os n) ≡ length os
put_long place [] n = refl
put_long place (None ∷ os) zero = refl
put_long place (Some p ∷ os) zero = refl
put_long place (None ∷ os) (suc n) = ap suc (put_long place os n)
put_long place (Some p ∷ os) (suc n) = ap suc (put_long place os n)

module _ {V : Type 0} (roots : ℕ) (all : List (Kept V)) (first : List (Option Piece)) where
  -- the places so far, where so much of what is kept is left
  pub record IsPart (kept : List (Kept V)) (places : List (Option Piece)) : Type 0 where
    pub laid_is : laid roots (entries_in kept) ≡ Some (length places)
    pub below : length places ≤ length first
    pub stands : (base : ℕ) (jobs : List (Job V)) (answer : Call V → Answer V) → base ≤ roots → length jobs ≡ length first
        → AllHeldSince answer base jobs (store_in all first)
        → Stands (IsFilledDue answer) (beneath_due answer) (IsRight answer) jobs base (entries_in kept) places

  pub part_first : laid roots (entries_in all) ≡ Some (length first) → IsPart all first
  part_first is = record {
    laid_is = is;
    below = omega arith;
    stands = λ base jobs answer early same held.
        stands_first (IsFilledDue answer) (beneath_due answer) (IsRight answer) jobs base IsMadeAlone (store_in all first) held
        (λ job x piece fits none made. made_right answer job x [] piece fits made
        (subst (λ js. Paired (IsRight answer) js []) (sym none) tt));
  }

  part_laid : (kept front : List (Kept V)) (last : Kept V) (places : List (Option Piece)) → kept ≡ front ++ last ∷ [] → IsPart kept places
      → Laid roots (length places) (entries_in front) (entry_of last)
  part_laid kept front last places is part =
      laid_less roots (length places) (entries_in front) (entry_of last)
      (ap (laid roots) (sym (ap entries_in is ∙ map-append entry_of front (last ∷ []))) ∙ part.laid_is)

  pub part_number : (kept front : List (Kept V)) (last : Kept V) (places : List (Option Piece)) → kept ≡ front ++ last ∷ []
      → IsPart kept places → last.number < last.first
  part_number kept front last places is part = (part_laid kept front last places is part).number_is

  pub part_within : (kept front : List (Kept V)) (last : Kept V) (places : List (Option Piece)) → kept ≡ front ++ last ∷ []
      → IsPart kept places → last.first ≤ length places
  part_within kept front last places is part = (let e = (part_laid kept front last places is part).end_is in omega arith)

  -- one place more
  pub part_less : (kept front : List (Kept V)) (last : Kept V) (places places' : List (Option Piece)) → kept ≡ front ++ last ∷ []
      → IsPutOpen last places places' → IsPart kept places → IsPart front places'
  part_less kept front last places places' is last_put part =
      let lies = part_laid kept front last places is part in
      let ends = lies.end_is in
      let within : last.first ≤ length places = omega arith in
      let place = last_put.piece in
      let put = last_put.puts in
      let long : length places' ≡ last.first = ap length put ∙ put_long place (take last.first places) last.number
      ∙ take_long last.first places within in
      let low = part.below in
      record {
        laid_is = lies.front_is ∙ ap Some (sym long);
        below = omega arith;
        stands = λ base jobs answer early same held.
            subst (Stands (IsFilledDue answer) (beneath_due answer) (IsRight answer) jobs base (entries_in front)) (sym put)
            (stands_less (IsFilledDue answer) (beneath_due answer) (IsRight answer) jobs base roots (entries_in front) (entry_of last)
            places place early
            (ap (laid roots) (sym (ap entries_in is ∙ map-append entry_of front (last ∷ []))) ∙ part.laid_is) (omega arith)
            (subst (λ es. Stands (IsFilledDue answer) (beneath_due answer) (IsRight answer) jobs base es places)
            (ap entries_in is ∙ map-append entry_of front (last ∷ []))
            (part.stands base jobs answer early same held))
            (λ job fits right. made_right answer job last.filled (present (drop last.first places)) place fits last_put.made right));
      }

  -- nothing is left
  pub part_length : (kept : List (Kept V)) (places : List (Option Piece)) → kept ≡ [] → IsPart kept places → length places ≡ roots
  part_length kept places none part = (let e : Some roots ≡ Some (length places) = ap (λ ks. laid roots (entries_in ks)) (sym none)
      ∙ part.laid_is in cc)

  pub part_last : (kept : List (Kept V)) (places : List (Option Piece)) → kept ≡ [] → IsPart kept places
      → (base : ℕ) (jobs : List (Job V)) (answer : Call V → Answer V) → base ≤ roots
      → length jobs ≡ length first → AllHeldSince answer base jobs (store_in all first) → ArePlaced answer base jobs places
  part_last kept places none part base jobs answer early same held = record {
    each = stands_last (IsFilledDue answer) (beneath_due answer) (IsRight answer) jobs base places
        (subst (λ ks. Stands (IsFilledDue answer) (beneath_due answer) (IsRight answer) jobs base (entries_in ks) places) none
        (part.stands base jobs answer early same held));
  }

-- where all are placed, the places that are there are those of the first tasks
pub placed_paired : {V : Type 0} (answer : Call V → Answer V) (roots : ℕ) (jobs : List (Job V)) (places : List (Option Piece))
    → length places ≡ roots → roots ≤ length jobs
    → ArePlaced answer 0 jobs places → Paired (IsRight answer) (take roots jobs) (present places)
placed_paired answer roots jobs places long within placed =
    all_right (IsRight answer) places jobs roots (sym long) within (λ j job o at stands. placed.each j job o (omega arith) at stands)

pub zero_low : (n : ℕ) → 0 ≤ n
zero_low n = omega arith

-- what is stored stays so where no place changes
pub held_over : {V : Type 0} (answer : Call V → Answer V) (base : ℕ) (jobs : List (Job V)) (kept : List (Kept V))
    (places places' : List (Option Piece))
    → ((k : ℕ) → stands_for places' k ≡ stands_for places k) → AllHeldSince answer base jobs (store_in kept places)
    → AllHeldSince answer base jobs (store_in kept places')
held_over answer base jobs kept places places' same held k job above there =
    stored_beside (IsFilledDue answer) (beneath_due answer) IsMadeAlone jobs (store_in kept places) (store_in kept places') k refl (same k)
    (held k job above there)
