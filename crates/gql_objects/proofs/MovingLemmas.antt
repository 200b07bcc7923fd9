-- The first ones of a list, moved to another.
use Rattle.std.proofs.Common.{◌≡◌, ℕ, ◌+◌, ◌<◌, List, [], ◌∷◌, ◌++◌, length, take, drop, ap, sym, ◌∙◌, arith, length-append, append_assoc}
use Rattle.std.proofs.lemmas.List.{drop_at, length_push, take_at}

module _ {X : Type 0} where
  -- the first so many of a list stand apart, and the others are left
  pub record IsMoved (all : List X) (count : ℕ) (before behind : List X) : Type 0 where
    pub joined : before ++ behind ≡ all
    pub counted : length before ≡ count

  -- nothing is moved yet
  pub moved_first : (all before behind : List X) → before ≡ [] → behind ≡ all → IsMoved all 0 before behind
  moved_first all before behind none is = record { joined = ap (λ xs. xs ++ behind) none ∙ is; counted = ap length none }

  -- one more is moved
  pub moved_more : (all : List X) (count : ℕ) (before before' behind behind' : List X) (x : X) → behind ≡ x ∷ behind'
      → before' ≡ before ++ x ∷ []
      → IsMoved all count before behind → IsMoved all (count + 1) before' behind'
  moved_more all count before before' behind behind' x taken added moved = record {
    joined = ap (λ xs. xs ++ behind') added ∙ append_assoc before (x ∷ []) behind' ∙ ap (λ xs. before ++ xs) (sym taken) ∙ moved.joined;
    counted = ap length added ∙ length_push before x ∙ ap (λ n. n + 1) moved.counted;
  }

  -- what stands apart
  pub moved_left : (all : List X) (count : ℕ) (before behind : List X) → IsMoved all count before behind → before ≡ take count all
  moved_left all count before behind moved = sym (take_at before behind count moved.counted) ∙ ap (take count) moved.joined

  -- what is left
  pub moved_behind : (all : List X) (count : ℕ) (before behind : List X) → IsMoved all count before behind → behind ≡ drop count all
  moved_behind all count before behind moved = sym (drop_at before behind count moved.counted) ∙ ap (drop count) moved.joined

  -- something is left before all that are wanted are moved
  pub moved_some : (all : List X) (count : ℕ) (before behind : List X) → IsMoved all count before behind → count < length all
      → length behind ≡ 0 → ⊥
  moved_some all count before behind moved within none =
      let long = ap length moved.joined in
      let counted = moved.counted in
      omega (arith, length-append before behind)

-- the steps of a move
pub ruleset moving = (moved_first, moved_more, moved_left, moved_behind, moved_some)
