-- What is reached in a graph that leads from places to places.
use Rattle.std.specs.Prelude.{◌≡◌, ℕ, ◌<◌, Bool, true, List, [], ◌∷◌, ◌++◌}
use Rattle.std.specs.Prelude.{Some, length, slice_get, if◌then◌else◌}
pub use Rattle.gql_schema.specs.GraphRanks.{is_in, led_to}

-- numbers with one more after them, unless it is there
abbrev pub with_number : List ℕ → ℕ → List ℕ
with_number ns k = if is_in k ns then ns else ns ++ k ∷ []

-- the same with several, one by one
abbrev pub with_numbers : List ℕ → List ℕ → List ℕ
with_numbers ns [] = ns
with_numbers ns (k ∷ ks) = with_numbers (with_number ns k) ks

-- a place is among those at which a walk starts, or one to which a reached place leads
pub data ReachesFrom (graph : List (List ℕ)) (starts : List ℕ) : ℕ → Type 0 where
  at_once : (to : ℕ) → is_in to starts ≡ true → ReachesFrom graph starts to
  further : (via to : ℕ) → ReachesFrom graph starts via → is_in to (led_to graph via) ≡ true
      → ReachesFrom graph starts to

-- a place is reached from another, in one step or more
abbrev pub Reaches : List (List ℕ) → ℕ → ℕ → Type 0
Reaches graph start to = ReachesFrom graph (led_to graph start) to

-- exactly the places that are reached from some
pub record AreReached (graph : List (List ℕ)) (starts reached : List ℕ) : Type 0 where
  pub sound : (k : ℕ) → is_in k reached ≡ true → ReachesFrom graph starts k
  pub all : (k : ℕ) → ReachesFrom graph starts k → is_in k reached ≡ true

-- each place leads to places of the graph
pub record AreWithin (graph : List (List ℕ)) : Type 0 where
  pub within : (from to : ℕ) → is_in to (led_to graph from) ≡ true → to < length graph

-- numbers below a bound
pub record AreBelow (bound : ℕ) (ns : List ℕ) : Type 0 where
  pub below : (k : ℕ) → is_in k ns ≡ true → k < bound

-- each place is marked exactly where it is among those reached
pub record Marks (marks : List Bool) (reached : List ℕ) : Type 0 where
  pub marked : (k : ℕ) (mark : Bool) → slice_get marks k ≡ Some mark → mark ≡ is_in k reached
