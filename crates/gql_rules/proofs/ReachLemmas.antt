-- Walks over the places to which others lead.
use Rattle.std.proofs.Common.{◌≡◌, ℕ, zero, suc, ◌+◌, ◌-◌, ◌≤◌, ◌<◌, true, List, [], ◌∷◌, ◌++◌, length, Some, slice_get, ◌∙◌}
use Rattle.std.proofs.lemmas.Bool.{eq-eqb, eqb-true}
use Rattle.std.specs.Prelude.{◌==◌}
use Rattle.gql_lists.specs.Sets.{missing}
use Rattle.gql_lists.proofs.ReachLemmas.{IsWalk, Reaching}
use Rattle.gql_lists.proofs.ReachLemmas.{walk_closed, walk_ends as ends, walk_goes as goes, walk_starts as start_of}
use Rattle.gql_lists.proofs.SetLemmas.{among-append, or-left, or-right}
use Rattle.gql_rules.specs.Reaching.{AreReached, ReachesFrom, at_once, further, is_in, led_to, with_numbers}

pub same_number : (x n : ℕ) → ((x == n) ≡ true → x ≡ n) × (x ≡ n → (x == n) ≡ true)
same_number x n = (eqb-true x n, eq-eqb x n)

-- a walk from some places: the places that were reached, of which the first have been entered
abbrev pub PlacesWalk : List (List ℕ) → List ℕ → List ℕ → ℕ → Type 0
PlacesWalk graph starts = IsWalk ◌==◌ (led_to graph) starts (ReachesFrom graph starts)

module _ (graph : List (List ℕ)) (starts : List ℕ) where
  reaching : Reaching ◌==◌ (led_to graph) starts (ReachesFrom graph starts)
  reaching = record { at_once = at_once; further = further }

  pub walk_starts : (reached : List ℕ) → reached ≡ with_numbers [] starts → PlacesWalk graph starts reached 0
  walk_starts = start_of ◌==◌ same_number (led_to graph) starts (ReachesFrom graph starts) reaching

  pub walk_goes : (reached more : List ℕ) (next : ℕ) (name : ℕ) → PlacesWalk graph starts reached next → slice_get reached next ≡ Some name
      → more ≡ with_numbers reached (led_to graph name) → next < length reached → PlacesWalk graph starts more (next + 1)
  walk_goes = goes ◌==◌ same_number (led_to graph) starts (ReachesFrom graph starts) reaching

  reached-all : (reached : List ℕ) (next : ℕ) → PlacesWalk graph starts reached next → length reached ≤ next → (x : ℕ) → ReachesFrom graph starts x
      → is_in x reached ≡ true
  reached-all reached next walk over _ (at_once x need) = walk.first x need
  reached-all reached next walk over _ (further via x before need) =
      walk_closed ◌==◌ (led_to graph) starts (ReachesFrom graph starts) reached next walk over via x (reached-all reached next walk over via before) need

  pub walk_tells : (reached : List ℕ) (next : ℕ) → PlacesWalk graph starts reached next → length reached ≤ next → AreReached graph starts reached
  walk_tells reached next walk over = record {
    sound = walk.sound;
    all = λ x reaches. reached-all reached next walk over x reaches;
  }

-- the places to which some place leads
abbrev pub all_led : List (List ℕ) → List ℕ
all_led [] = []
all_led (ks ∷ graph) = ks ++ all_led graph

led_within : (graph : List (List ℕ)) (n x : ℕ) → is_in x (led_to graph n) ≡ true → is_in x (all_led graph) ≡ true
led_within [] n x there = cc
led_within (ks ∷ graph) zero x there = among-append ◌==◌ x ks (all_led graph) ∙ or-left _ _ there
led_within (ks ∷ graph) (suc n) x there = among-append ◌==◌ x ks (all_led graph) ∙ or-right _ _ (led_within graph n x there)

-- the walk ends: what is missing and what is to be entered falls
pub walk_ends : (graph : List (List ℕ)) (reached more : List ℕ) (next : ℕ) (name : ℕ) → more ≡ with_numbers reached (led_to graph name)
    → next < length reached → (missing ◌==◌ (all_led graph) more + length more) - (next + 1) < (missing ◌==◌ (all_led graph) reached + length reached) - next
walk_ends graph reached more next name made inside =
    ends ◌==◌ same_number (led_to graph) (all_led graph) reached more next name (λ x h. led_within graph name x h) made inside
