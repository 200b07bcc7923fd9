-- How members of circles are told by two walks over the ways between places of one number: what a
-- head of these places leads to, and what leads to it.
use Rattle.std.specs.Prelude.{◌≡◌, ℕ, ◌<◌, Bool, true, List, [], ◌∷◌, ◌++◌, Some, length}
use Rattle.std.specs.Prelude.{slice_get, slice_set}
use Rattle.std.specs.Bool.{Decides}
use Rattle.gql_rules.specs.Reaching.{Reaches, is_in, led_to}
use Rattle.gql_schema.specs.GraphRanks.{rank_of}

-- beside each of the first places stands whether it reaches itself
pub record AreTold (graph : List (List ℕ)) (bound : ℕ) (circular : List Bool) : Type 0 where
  pub long : length circular ≡ bound
  pub told : (place : ℕ) (mark : Bool) → slice_get circular place ≡ Some mark
      → Decides mark (Reaches graph place place)

-- a place of both lists of marks reaches itself
pub record AreOnCircles (graph : List (List ℕ)) (behind before : List Bool) : Type 0 where
  pub behind_long : length behind ≡ length graph
  pub before_long : length before ≡ length graph
  pub reaches : (place : ℕ) → slice_get behind place ≡ Some true
      → slice_get before place ≡ Some true → Reaches graph place place

-- these places stand in the table at their own number, so that there is one for each number
pub record AreHeads (bound : ℕ) (ranks table heads : List ℕ) : Type 0 where
  pub below : (place : ℕ) → is_in place heads ≡ true → place < bound
  pub own : (place : ℕ) → is_in place heads ≡ true → rank_of table (rank_of ranks place) ≡ place

-- these are of some places, and have this number
pub record AreOfRank (places ranks : List ℕ) (rank : ℕ) (kept : List ℕ) : Type 0 where
  pub among : (place : ℕ) → is_in place kept ≡ true → is_in place places ≡ true
  pub ranked : (place : ℕ) → is_in place kept ≡ true → rank_of ranks place ≡ rank

-- so many places with ways of the graph between places of one number alone
pub record IsInner (graph : List (List ℕ)) (ranks : List ℕ) (bound : ℕ) (inner : List (List ℕ))
    : Type 0 where
  pub long : length inner ≡ bound
  pub within : (from to : ℕ) → is_in to (led_to inner from) ≡ true
      → is_in to (led_to graph from) ≡ true
  pub ranked : (from to : ℕ) → is_in to (led_to inner from) ≡ true
      → rank_of ranks to ≡ rank_of ranks from

-- so many places with ways of the graph alone, turned round
pub record AreTurned (graph : List (List ℕ)) (bound : ℕ) (turned : List (List ℕ)) : Type 0 where
  pub long : length turned ≡ bound
  pub turns : (to from : ℕ) → is_in from (led_to turned to) ≡ true
      → is_in to (led_to graph from) ≡ true

-- one way more, from a place to another
abbrev pub with_way : List (List ℕ) → ℕ → ℕ → List (List ℕ)
with_way graph from to = slice_set graph from (led_to graph from ++ to ∷ [])
