-- The entries of one caller in a journal.
use Rattle.std.proofs.Common.{◌≡◌, ◌≢◌, ◌<◌, ◌++◌, ℕ, Bool, true, false, List, [], ◌∷◌, eq-eqb, ne_eqb, if◌then◌else◌, ◌==◌, refl, ap}
use Rattle.gql_tickets.specs.Turns.{AllBelow, entries_by}

module _ {E : Type 0} (by : E → ℕ) where
  entries_choose : (n : ℕ) (x : E) (xs ys : List E) → entries_by by n (xs ++ ys) ≡ entries_by by n xs ++ entries_by by n ys → (b : Bool)
      → (if b then x ∷ entries_by by n (xs ++ ys) else entries_by by n (xs ++ ys)) ≡
      (if b then x ∷ entries_by by n xs else entries_by by n xs) ++ entries_by by n ys
  entries_choose n x xs ys e true = ap (λ l. x ∷ l) e
  entries_choose n x xs ys e false = e

  -- the entries of one caller in a longer history
  pub entries_append : (n : ℕ) (xs ys : List E) → entries_by by n (xs ++ ys) ≡ entries_by by n xs ++ entries_by by n ys
  entries_append n [] ys = refl
  entries_append n (x ∷ xs) ys = entries_choose n x xs ys (entries_append n xs ys) (by x == n)

  pub entries_other : (n : ℕ) (e : E) → by e ≢ n → entries_by by n (e ∷ []) ≡ []
  entries_other n e other = ap (λ (b : Bool). if b then e ∷ [] else []) (ne_eqb (by e) n other)

  pub entries_own : (n : ℕ) (e : E) → by e ≡ n → entries_by by n (e ∷ []) ≡ e ∷ []
  entries_own n e own = ap (λ (b : Bool). if b then e ∷ [] else []) (eq-eqb (by e) n own)

  -- all callers stay below where one more is
  pub below_snoc : (seats : ℕ) (log : List E) (e : E) → AllBelow by seats log → by e < seats → AllBelow by seats (log ++ e ∷ [])
  below_snoc seats [] e all below = (below, tt)
  below_snoc seats (x ∷ xs) e all below = (all.0, below_snoc seats xs e all.1 below)
