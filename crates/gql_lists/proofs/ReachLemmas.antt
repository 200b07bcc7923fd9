-- Walks that enter, one after another, what others lead to.
use Rattle.std.proofs.Common.{◌≡◌, inl, inr, ℕ, suc, ◌+◌, ◌-◌, ◌≤◌, ◌<◌, Bool, true, List, [], take, length, Some, slice_get, ap, sym, ◌∙◌, add-one, arith, length-append}
use Rattle.std.proofs.lemmas.List.{take-append-le, take_all}
use Rattle.std.specs.Bool.{Decides}
use Rattle.gql_lists.specs.Sets.{is_among, missing, with_all}
use Rattle.gql_lists.proofs.SetLemmas.{added_all, among-more, among-take, from_all, grows, kept_all, spent}

-- what a walk from some reaches: these, and what something that is reached leads to
pub record Reaching {A : Type 0} (same : A → A → Bool) (led : A → List A) (starts : List A) (IsReached : A → Type 0) : Type 0 where
  pub at_once : (x : A) → is_among same x starts ≡ true → IsReached x
  pub further : (via x : A) → IsReached via → is_among same x (led via) ≡ true → IsReached x

-- a walk: what was reached, of which the first have been entered
pub record IsWalk {A : Type 0} (same : A → A → Bool) (led : A → List A) (starts : List A) (IsReached : A → Type 0) (reached : List A) (next : ℕ) : Type 0 where
  pub within : next ≤ length reached
  pub sound : (x : A) → is_among same x reached ≡ true → IsReached x
  pub first : (x : A) → is_among same x starts ≡ true → is_among same x reached ≡ true
  pub closed : (y x : A) → is_among same y (take next reached) ≡ true → is_among same x (led y) ≡ true → is_among same x reached ≡ true

module _ {A : Type 0} (same : A → A → Bool) (decides : (x y : A) → Decides (same x y) (x ≡ y)) (led : A → List A) where
  module _ (starts : List A) (IsReached : A → Type 0) (reaching : Reaching same led starts IsReached) where
    none-among : (x : A) → is_among same x [] ≡ true → ⊥
    none-among x h = cc

    pub walk_starts : (reached : List A) → reached ≡ with_all same [] starts → IsWalk same led starts IsReached reached 0
    walk_starts reached made = rw made (record {
      within = omega arith;
      sound = λ x h. elim (from_all same x [] starts h) [ inl nothing ↦ absurd (none-among x nothing) | inr new ↦ reaching.at_once x new ];
      first = λ x h. added_all same decides x [] starts h;
      closed = λ y x nothing h. absurd (none-among y nothing);
    })

    pub walk_goes : (reached more : List A) (next : ℕ) (it : A) → IsWalk same led starts IsReached reached next → slice_get reached next ≡ Some it
        → more ≡ with_all same reached (led it) → next < length reached → IsWalk same led starts IsReached more (next + 1)
    walk_goes reached more next it walk at made inside =
        let (rest, is) = grows same reached (led it) in
        let long : length (with_all same reached (led it)) ≡ length reached + length rest = ap length is ∙ length-append reached rest in
        let front : take (suc next) (with_all same reached (led it)) ≡ take (suc next) reached
        = ap (take (suc next)) is ∙ take-append-le (suc next) reached rest (omega arith) in
        rw (made, add-one) (record {
          within = omega arith;
          sound = λ x h. elim (from_all same x reached (led it) h) [
            | inl old ↦ walk.sound x old
            | inr new ↦ reaching.further it x (walk.sound it (among-take same decides reached next it at)) new
          ];
          first = λ x h. kept_all same x reached (led it) (walk.first x h);
          closed = λ y x there h.
              let here : is_among same y (take (suc next) reached) ≡ true = ap (is_among same y) (sym front) ∙ there in
              elim (among-more same decides reached next it y at here) [
                | inl old ↦ kept_all same x reached (led it) (walk.closed y x old h)
                | inr it-is ↦ added_all same decides x reached (led it) (ap (λ n. is_among same x (led n)) (sym it-is) ∙ h)
              ];
        })

  -- a walk ends: what is missing and what is to be entered falls
  pub walk_ends : (all reached more : List A) (next : ℕ) (it : A) → ((x : A) → is_among same x (led it) ≡ true → is_among same x all ≡ true)
      → more ≡ with_all same reached (led it) → next < length reached
      → (missing same all more + length more) - (next + 1) < (missing same all reached + length reached) - next
  walk_ends all reached more next it within made inside =
      let fewer = spent same decides all reached (led it) within in
      rw made (omega (arith, fewer))

-- a walk that has entered all that it reached leads nowhere else
pub walk_closed : {A : Type 0} (same : A → A → Bool) (led : A → List A) (starts : List A) (IsReached : A → Type 0) (reached : List A) (next : ℕ)
    → IsWalk same led starts IsReached reached next → length reached ≤ next → (y x : A) → is_among same y reached ≡ true → is_among same x (led y) ≡ true
    → is_among same x reached ≡ true
walk_closed same led starts IsReached reached next walk over y x there = walk.closed y x (ap (is_among same y) (take_all next reached over) ∙ there)
