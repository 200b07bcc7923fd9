-- Marks beside the places that were reached.
use Rattle.std.proofs.Common.{◌≡◌, ℕ, zero, suc, ◌+◌, ◌<◌, Bool, true, false, ◌||◌, List, [], ◌∷◌, ◌++◌, take, length, Some, get_or, slice_get, slice_set, refl, ap, sym, subst, ◌∙◌, add-one}
use Rattle.std.proofs.lemmas.Option.{slice_get-get_or}
use Rattle.std.specs.Bool.{Decides}
use Rattle.std.specs.Prelude.{◌==◌}
use Rattle.gql_rules.specs.Reaching.{AreBelow, AreReached, AreWithin, Marks, ReachesFrom, at_once, further, is_in, with_number, with_numbers}
use Rattle.gql_lists.proofs.SetLemmas.{among-append, or-left, or-right}
pub use Rattle.gql_schema.proofs.GraphRankLemmas.{led_is}
use Rattle.gql_rules.proofs.ReachLemmas.{same_number}

-- a marked place is there already
pub known_number : (marks : List Bool) (reached : List ℕ) (place : ℕ) → Marks marks reached → slice_get marks place ≡ Some true
    → with_number reached place ≡ reached
known_number marks reached place is at = rw (sym (is.marked place true at)) refl

-- another comes after the others
pub fresh_number : (marks : List Bool) (reached : List ℕ) (place : ℕ) → Marks marks reached → slice_get marks place ≡ Some false
    → with_number reached place ≡ reached ++ place ∷ []
fresh_number marks reached place is at = rw (sym (is.marked place false at)) refl

got_same : (xs : List Bool) (i : ℕ) (v w : Bool) → slice_get (slice_set xs i v) i ≡ Some w → v ≡ w
got_same [] i v w at = cc
got_same (x ∷ xs) zero v w at = cc
got_same (x ∷ xs) (suc i) v w at = got_same xs i v w at

got_other : (xs : List Bool) (i k : ℕ) (v w : Bool) → (i ≡ k → ⊥) → slice_get (slice_set xs i v) k ≡ Some w → slice_get xs k ≡ Some w
got_other [] i k v w apart at = cc
got_other (x ∷ xs) zero zero v w apart at = absurd (apart refl)
got_other (x ∷ xs) zero (suc k) v w apart at = at
got_other (x ∷ xs) (suc i) zero v w apart at = at
got_other (x ∷ xs) (suc i) (suc k) v w apart at = got_other xs i k v w (λ same. apart (ap suc same)) at

or-false : (a : Bool) → (a || false) ≡ a
or-false true = refl
or-false false = refl

-- a place that is marked and added
pub marked_more : (marks : List Bool) (reached : List ℕ) (place : ℕ) → Marks marks reached → Marks (slice_set marks place true) (reached ++ place ∷ [])
marked_more marks reached place is = record {
  marked = λ k mark at.
      let P : Bool → Type 0 = λ b. ((k == place) ≡ b) → mark ≡ is_in k (reached ++ place ∷ []) in
      (elim (k == place) as P [
        | true ↦ λ e.
            let same : k ≡ place = (same_number k place).0 e in
            let at_place : slice_get (slice_set marks place true) place ≡ Some mark = subst (λ j. slice_get (slice_set marks place true) j ≡ Some mark) same at in
            sym (got_same marks place true mark at_place)
            ∙ sym (among-append ◌==◌ k reached (place ∷ []) ∙ or-right (is_in k reached) _ (or-left (k == place) false e))
        | false ↦ λ e.
            let apart : place ≡ k → ⊥ = λ same. let h : false ≡ true = sym e ∙ (same_number k place).1 (sym same) in cc in
            is.marked k mark (got_other marks place k true mark apart at)
            ∙ sym (among-append ◌==◌ k reached (place ∷ []) ∙ (λ i. is_in k reached || (e i || false)) ∙ or-false (is_in k reached))
      ]) refl;
}

with_numbers-append : (ns xs ys : List ℕ) → with_numbers ns (xs ++ ys) ≡ with_numbers (with_numbers ns xs) ys
with_numbers-append ns [] ys = refl
with_numbers-append ns (x ∷ xs) ys = with_numbers-append (with_number ns x) xs ys

-- one more of some numbers
pub numbers_more : (ns ks : List ℕ) (i k : ℕ) → slice_get ks i ≡ Some k → with_numbers ns (take (i + 1) ks) ≡ with_number (with_numbers ns (take i ks)) k
numbers_more ns ks i k at = rw add-one (more ns ks i k at)
  where
    more : (ns ks : List ℕ) (i k : ℕ) → slice_get ks i ≡ Some k → with_numbers ns (take (suc i) ks) ≡ with_number (with_numbers ns (take i ks)) k
    more ns [] i k at = cc
    more ns (x ∷ ks) zero k at =
        let same : x ≡ k = cc in
        ap (with_number ns) same
    more ns (x ∷ ks) (suc i) k at = more (with_number ns x) ks i k at

-- what is reached is a place of the graph
pub reached_within : (graph : List (List ℕ)) (starts : List ℕ) (k : ℕ) → AreWithin graph → AreBelow (length graph) starts → ReachesFrom graph starts k
    → k < length graph
reached_within graph starts _ is below (at_once to among) = below.below to among
reached_within graph starts _ is below (further via to before leads) = is.within via to leads

-- a place that is marked is reached
pub marked_reached : (graph : List (List ℕ)) (starts reached : List ℕ) (marks : List Bool) (place : ℕ) (mark : Bool) → AreReached graph starts reached
    → Marks marks reached → slice_get marks place ≡ Some mark → Decides mark (ReachesFrom graph starts place)
marked_reached graph starts reached marks place mark are is at =
    (λ h. are.sound place (sym (is.marked place mark at) ∙ h), λ reaches. is.marked place mark at ∙ are.all place reaches)

-- the place that was read
pub place_read : (list reached : List ℕ) (next : ℕ) → list ≡ reached → next < length reached → slice_get reached next ≡ Some (get_or list next 0)
place_read list reached next same inside =
    slice_get-get_or reached next 0 inside ∙ ap (λ xs. Some (get_or xs next 0)) (sym same)

-- what a mark says, and one more
pub ruleset marking = (known_number, fresh_number, marked_more)
