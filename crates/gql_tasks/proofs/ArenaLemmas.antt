-- Tasks that wait, as their states change.
use Rattle.std.proofs.Common.{ℕ, zero, suc, ◌≡◌, ◌+◌, ◌≤◌, List, [], ◌∷◌, ◌++◌, length, refl, sym, ap, subst, ◌∙◌, arith, zero-add, append_assoc, append-nil, length-append}
use Rattle.std.proofs.lemmas.List.{map-append, length-map}
use Rattle.std.specs.Prelude.{Some, slice_get, slice_set}
use Rattle.std.specs.List.{range_with_len, remove}
use Rattle.gql_tasks.specs.declared.arena.State.{State}
use Rattle.gql_tasks.specs.declared.arena.State.TheVariants as state
use Rattle.gql_tasks.specs.Record.{Mark, untold, begun, ready, waiting_from, waiting}
use Rattle.gql_tasks.specs.Arena.{mark_of, marks_of, fresh_states}
use Rattle.gql_lists.proofs.SliceLemmas.{map_set, get_map, set_set}

abbrev pub IsUnanswered : Mark → Type 0
IsUnanswered untold = Unit {0}
IsUnanswered begun = Unit {0}
IsUnanswered ready = ⊥

-- the number at a place of those that wait is that of a task without an answer
pub record Waits (first : ℕ) (marks : List Mark) (number : ℕ) : Type 0 where
  pub place : ℕ
  pub number_is : number ≡ first + place
  pub mark : Mark
  pub stands : slice_get marks place ≡ Some mark
  pub open_ : IsUnanswered mark

further : (first : ℕ) (m : Mark) (marks : List Mark) (number : ℕ) → Waits (suc first) marks number → Waits first (m ∷ marks) number
further first m marks number w = record {
  place = suc w.place;
  number_is = (let e = w.number_is in omega arith);
  mark = w.mark;
  stands = w.stands;
  open_ = w.open_;
}

pub waits_at : (first : ℕ) (marks : List Mark) (at number : ℕ) → slice_get (waiting_from first marks) at ≡ Some number → Waits first marks number
waits_at first [] at number is = absurd (cc)
waits_at first (untold ∷ marks) zero number is =
    record { place = 0; number_is = (let e : first ≡ number = cc in omega arith); mark = untold; stands = refl; open_ = tt }
waits_at first (untold ∷ marks) (suc at) number is = further first untold marks number (waits_at (suc first) marks at number is)
waits_at first (begun ∷ marks) zero number is =
    record { place = 0; number_is = (let e : first ≡ number = cc in omega arith); mark = begun; stands = refl; open_ = tt }
waits_at first (begun ∷ marks) (suc at) number is = further first begun marks number (waits_at (suc first) marks at number is)
waits_at first (ready ∷ marks) at number is = further first ready marks number (waits_at (suc first) marks at number is)

-- every number of those that wait is at least the first
pub waits_from : (first : ℕ) (marks : List Mark) (at number : ℕ) → slice_get (waiting_from first marks) at ≡ Some number → first ≤ number
waits_from first marks at number is = let w = waits_at first marks at number is in let e = w.number_is in omega arith

-- an answer takes the number away from those that wait
pub waiting_settled : (first : ℕ) (marks : List Mark) (at place : ℕ) → slice_get (waiting_from first marks) at ≡ Some (first + place)
    → remove (waiting_from first marks) at ≡ waiting_from first (slice_set marks place ready)
waiting_settled first [] at place is = absurd (cc)
waiting_settled first (untold ∷ marks) zero zero is = refl
waiting_settled first (untold ∷ marks) zero (suc place) is = absurd (let e : first ≡ first + suc place = cc in omega arith)
waiting_settled first (untold ∷ marks) (suc at) zero is = absurd (let h = waits_from (suc first) marks at (first + zero) is in omega arith)
waiting_settled first (untold ∷ marks) (suc at) (suc place) is =
    ap (λ ns. first ∷ ns) (waiting_settled (suc first) marks at place (is ∙ ap Some (omega arith)))
waiting_settled first (begun ∷ marks) zero zero is = refl
waiting_settled first (begun ∷ marks) zero (suc place) is = absurd (let e : first ≡ first + suc place = cc in omega arith)
waiting_settled first (begun ∷ marks) (suc at) zero is = absurd (let h = waits_from (suc first) marks at (first + zero) is in omega arith)
waiting_settled first (begun ∷ marks) (suc at) (suc place) is =
    ap (λ ns. first ∷ ns) (waiting_settled (suc first) marks at place (is ∙ ap Some (omega arith)))
waiting_settled first (ready ∷ marks) at zero is = absurd (let h = waits_from (suc first) marks at (first + zero) is in omega arith)
waiting_settled first (ready ∷ marks) at (suc place) is = waiting_settled (suc first) marks at place (is ∙ ap Some (omega arith))

-- a pending poll takes none away
pub waiting_kept : (first : ℕ) (marks : List Mark) (place : ℕ) (m : Mark) → slice_get marks place ≡ Some m → IsUnanswered m
    → waiting_from first (slice_set marks place begun) ≡ waiting_from first marks
waiting_kept first [] place m is unanswered = absurd (cc)
waiting_kept first (untold ∷ marks) zero m is unanswered = refl
waiting_kept first (begun ∷ marks) zero m is unanswered = refl
waiting_kept first (ready ∷ marks) zero m is unanswered = absurd (let e : ready ≡ m = cc in subst IsUnanswered (sym e) unanswered)
waiting_kept first (untold ∷ marks) (suc place) m is unanswered = ap (λ ns. first ∷ ns) (waiting_kept (suc first) marks place m is unanswered)
waiting_kept first (begun ∷ marks) (suc place) m is unanswered = ap (λ ns. first ∷ ns) (waiting_kept (suc first) marks place m is unanswered)
waiting_kept first (ready ∷ marks) (suc place) m is unanswered = waiting_kept (suc first) marks place m is unanswered

-- a new task waits after the others
pub waiting_more : (first : ℕ) (marks : List Mark) → waiting_from first (marks ++ untold ∷ []) ≡ waiting_from first marks ++ (first + length marks) ∷ []
waiting_more first [] = ap (λ n. n ∷ []) (omega arith)
waiting_more first (untold ∷ marks) = ap (λ ns. first ∷ ns) (waiting_more (suc first) marks ∙ ap (λ n. waiting_from (suc first) marks ++ n ∷ []) (omega arith))
waiting_more first (begun ∷ marks) = ap (λ ns. first ∷ ns) (waiting_more (suc first) marks ∙ ap (λ n. waiting_from (suc first) marks ++ n ∷ []) (omega arith))
waiting_more first (ready ∷ marks) = waiting_more (suc first) marks ∙ ap (λ n. waiting_from (suc first) marks ++ n ∷ []) (omega arith)

module _ (F : Type 0) where
  fresh_more : (n : ℕ) → fresh_states {F = F} (suc n) ≡ fresh_states n ++ state.Fresh ∷ []
  fresh_more zero = refl
  fresh_more (suc n) = ap (λ ss. state.Fresh ∷ ss) (fresh_more n)

  -- one more fresh task at the end waits after the others
  one_more : (numbers : List ℕ) (states : List (State F)) (n : ℕ) → numbers ≡ waiting_from 0 (marks_of states) → n ≡ length states
      → numbers ++ n ∷ [] ≡ waiting_from 0 (marks_of (states ++ state.Fresh ∷ []))
  one_more numbers states n waits is =
      ap (λ ns. ns ++ n ∷ []) waits
      ∙ ap (λ k. waiting_from 0 (marks_of states) ++ k ∷ []) (is ∙ sym (length-map states mark_of) ∙ sym (zero-add (length (marks_of states))))
      ∙ sym (waiting_more 0 (marks_of states))
      ∙ ap (waiting_from 0) (sym (map-append mark_of states (state.Fresh ∷ [])))

  -- the answer of the task at a place of those that wait, whose own state doesn't matter any more
  pub one_less : (numbers : List ℕ) (states : List (State F)) (at number : ℕ) → numbers ≡ waiting_from 0 (slice_set (marks_of states) number begun) → slice_get numbers at ≡ Some number
      → remove numbers at ≡ waiting_from 0 (marks_of (slice_set states number state.Done))
  one_less numbers states at number waits is =
      ap (λ ns. remove ns at) waits
      ∙ waiting_settled 0 (slice_set (marks_of states) number begun) at number (ap (λ ns. slice_get ns at) (sym waits) ∙ is ∙ ap Some (sym (zero-add number)))
      ∙ ap (waiting_from 0) (set_set (marks_of states) number begun ready ∙ sym (map_set mark_of states number state.Done))

  -- whatever state the task that is taken up has come to, those that wait stay
  pub still_waits : (waiting : List ℕ) (states : List (State F)) (number : ℕ) (old new : State F) → waiting ≡ waiting_from 0 (marks_of states)
      → slice_get states number ≡ Some old → (old ≡ state.Done → ⊥)
      → waiting ≡ waiting_from 0 (slice_set (marks_of (slice_set states number new)) number begun)
  still_waits waiting states number old new waits is differs =
      waits ∙ sym (waiting_kept 0 (marks_of states) number (mark_of old) (get_map mark_of states number old is) (unanswered old differs))
      ∙ ap (waiting_from 0) (sym (ap (λ ms. slice_set ms number begun) (map_set mark_of states number new) ∙ set_set (marks_of states) number (mark_of new) begun))
    where
      unanswered : (s : State F) → (s ≡ state.Done → ⊥) → IsUnanswered (mark_of s)
      unanswered state.Fresh differs = tt
      unanswered (state.Waiting f) differs = tt
      unanswered state.Done differs = absurd (differs refl)

  -- fresh tasks at the end wait after the others
  more_wait : (numbers : List ℕ) (states : List (State F)) (first count : ℕ) → numbers ≡ waiting_from 0 (marks_of states) → first ≡ length states
      → numbers ++ range_with_len first count ≡ waiting_from 0 (marks_of (states ++ fresh_states count))
  more_wait numbers states first zero waits is =
      append-nil numbers ∙ waits ∙ ap (λ ss. waiting_from 0 (marks_of ss)) (sym (append-nil states))
  more_wait numbers states first (suc count) waits is =
      sym (append_assoc numbers (first ∷ []) (range_with_len (first + 1) count))
      ∙ more_wait (numbers ++ first ∷ []) (states ++ state.Fresh ∷ []) (first + 1) count (one_more numbers states first waits is)
      (let e = length-append states (state.Fresh ∷ []) in omega arith)
      ∙ ap (λ ss. waiting_from 0 (marks_of ss)) (append_assoc states (state.Fresh ∷ []) (fresh_states count))

  -- once the numbers are added, and all states with them
  pub all_wait : (numbers added now : List ℕ) (states front all : List (State F)) (first count i : ℕ) → numbers ≡ waiting_from 0 (marks_of states) → first ≡ length states
      → added ≡ numbers ++ range_with_len first count → now ≡ added → front ≡ states → all ≡ front ++ fresh_states i → i ≡ count
      → now ≡ waiting_from 0 (marks_of all)
  all_wait numbers added now states front all first count i waits is more same kept made end =
      same ∙ more ∙ more_wait numbers states first count waits is
      ∙ ap (λ ss. waiting_from 0 (marks_of ss)) (sym (made ∙ ap (λ ss. ss ++ fresh_states i) kept ∙ ap (λ n. states ++ fresh_states n) end))

  -- one fresh state more
  pub one_fresh : (old now new : List (State F)) (n : ℕ) → now ≡ old ++ fresh_states n → new ≡ now ++ state.Fresh ∷ [] → new ≡ old ++ fresh_states (n + 1)
  one_fresh old now new n front back =
      let one : n + 1 ≡ suc n = omega arith in
      back ∙ ap (λ ss. ss ++ state.Fresh ∷ []) front ∙ append_assoc old (fresh_states n) (state.Fresh ∷ [])
      ∙ ap (λ ss. old ++ ss) (sym (fresh_more n) ∙ ap fresh_states (sym one))
