-- The number of each live id beside the list of live starts.
use Rattle.std.specs.Prelude.{◌≡◌, ℕ, Bool, true, false, List, [], ◌∷◌, String, refl}
use Rattle.std.specs.Coded.{Coded, code_by, coded×, coded_list, coded_ℕ}
use Rattle.std.specs.BTreeMap as tree
use Rattle.std.specs.BTreeMap.{BTreeMap}
use Rattle.std.specs.Global.{Global}
use Rattle.gql_ws.specs.Found.{has_id, number_of}
use Rattle.gql_ws.specs.declared.live.Live.{Live}

-- no start passes the test, and at most one does
abbrev pub IsFree : (Live → Bool) → List Live → Type 0
IsFree test [] = Unit {0}
IsFree test (start ∷ rest) = (test start ≡ false) × IsFree test rest

abbrev pub IsSingle : (Live → Bool) → List Live → Type 0
IsSingle test [] = Unit {0}
IsSingle test (start ∷ rest) = (test start ≡ true → IsFree test rest) × IsSingle test rest

-- a tree has the number of each live id, and nothing else
abbrev pub HasNumbers : BTreeMap (String Global) ℕ → List Live → Type 0
HasNumbers numbers live = (id : List ℕ) → tree.get_by_text numbers id ≡ number_of id live

-- each id is live once at most
abbrev pub AreSingle : List Live → Type 0
AreSingle live = (id : List ℕ) → IsSingle (has_id id) live

-- what tells live starts apart
abbrev pub coded_live : Coded Live
coded_live =
    code_by (List ℕ × ℕ) (coded× (coded_list coded_ℕ) coded_ℕ) (λ s. (s.id, s.number))
    (λ p. record { id = p.0; number = p.1 }) (λ _. refl)
