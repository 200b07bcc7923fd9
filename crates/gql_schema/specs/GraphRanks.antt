-- Numbers of the places of a graph, whose lists tell to what places each leads.
use Rattle.std.specs.Prelude.{◌≡◌, ℕ, ◌≤◌, Bool, true, false, ◌||◌, ◌==◌, List, [], ◌∷◌, nat_le}
use Rattle.std.specs.Prelude.{slice_index_or}
use Rattle.std.specs.List.{list_all}

-- whether a number is among others
abbrev pub is_in : ℕ → List ℕ → Bool
is_in k [] = false
is_in k (n ∷ ns) = (k == n) || is_in k ns

-- the places to which a place leads
abbrev pub led_to : List (List ℕ) → ℕ → List ℕ
led_to graph place = slice_index_or graph place []

-- the number of a place, and 0 where it has none
abbrev pub rank_of : List ℕ → ℕ → ℕ
rank_of ranks place = slice_index_or ranks place 0

-- whether all places have at most this number
abbrev pub all_at_most : List ℕ → ℕ → List ℕ → Bool
all_at_most ranks most places = list_all (λ place. nat_le (rank_of ranks place) most) places

-- no place leads to one of a higher number
pub record AreRanks (graph : List (List ℕ)) (ranks : List ℕ) : Type 0 where
  pub falls : (from to : ℕ) → is_in to (led_to graph from) ≡ true
      → rank_of ranks to ≤ rank_of ranks from
