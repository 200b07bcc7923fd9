-- Places by their numbers.
use Rattle.std.proofs.Common.{◌≡◌, ℕ, zero, suc, ◌<◌, ◌≤◌, List, [], ◌∷◌, ◌++◌, length, Option, Some, None, slice_get, slice_set, refl, ap, ◌∙◌, arith}
use Rattle.gql_objects.specs.PlaceStore.{stands_for, PutsAt}

-- the place that stands at a number
pub put_get : {P : Type 0} (os : List (Option P)) (n : ℕ) (o : Option P) → slice_get os n ≡ Some o → stands_for os n ≡ o
put_get [] n o is = absurd (cc)
put_get (p ∷ os) zero o is = (let e : p ≡ o = cc in e)
put_get (p ∷ os) (suc n) o is = put_get os n o is

-- an open place after others changes none
pub put_end : {P : Type 0} (os : List (Option P)) (k : ℕ) → stands_for (os ++ None ∷ []) k ≡ stands_for os k
put_end [] zero = refl
put_end [] (suc k) = refl
put_end (o ∷ os) zero = refl
put_end (o ∷ os) (suc k) = put_end os k

-- one more open place
pub put_more : {P : Type 0} (first os os' : List (Option P)) → os' ≡ os ++ None ∷ [] → ((k : ℕ) → stands_for os k ≡ stands_for first k)
    → (k : ℕ) → stands_for os' k ≡ stands_for first k
put_more first os os' added same k = ap (λ ps. stands_for ps k) added ∙ put_end os k ∙ same k

-- there is none past the end
put_past : {P : Type 0} (os : List (Option P)) (n : ℕ) → length os ≤ n → stands_for os n ≡ None
put_past [] n past = refl
put_past (o ∷ os) zero past = absurd (omega arith)
put_past (o ∷ os) (suc n) past = put_past os n (omega arith)

set_here : {P : Type 0} (o : Option P) (os : List (Option P)) (n : ℕ) → n < length os → stands_for (slice_set os n o) n ≡ o
set_here o [] n within = absurd (omega arith)
set_here o (p ∷ os) zero within = refl
set_here o (p ∷ os) (suc n) within = set_here o os n (omega arith)

set_others : {P : Type 0} (o : Option P) (os : List (Option P)) (n k : ℕ) → (k ≡ n → ⊥) → stands_for (slice_set os n o) k ≡ stands_for os k
set_others o [] n k differs = refl
set_others o (p ∷ os) zero zero differs = absurd (differs refl)
set_others o (p ∷ os) zero (suc k) differs = refl
set_others o (p ∷ os) (suc n) zero differs = refl
set_others o (p ∷ os) (suc n) (suc k) differs = set_others o os n k (λ e. differs (ap suc e))

-- a place in another's stead
pub puts_over : {P : Type 0} (o : Option P) (os os' : List (Option P)) (n : ℕ) → n < length os → os' ≡ slice_set os n o → PutsAt o n os os'
puts_over o os os' n within is = record {
  here = ap (λ ps. stands_for ps n) is ∙ set_here o os n within;
  others = λ k differs. ap (λ ps. stands_for ps k) is ∙ set_others o os n k differs;
}

end_here : {P : Type 0} (o : Option P) (os : List (Option P)) (n : ℕ) → length os ≡ n → stands_for (os ++ o ∷ []) n ≡ o
end_here o [] zero is = refl
end_here o [] (suc n) is = absurd (omega arith)
end_here o (p ∷ os) zero is = absurd (omega arith)
end_here o (p ∷ os) (suc n) is = end_here o os n (omega arith)

end_others : {P : Type 0} (o : Option P) (os : List (Option P)) (n k : ℕ) → length os ≡ n → (k ≡ n → ⊥)
    → stands_for (os ++ o ∷ []) k ≡ stands_for os k
end_others o [] zero zero is differs = absurd (differs refl)
end_others o [] zero (suc k) is differs = refl
end_others o [] (suc n) k is differs = absurd (omega arith)
end_others o (p ∷ os) zero k is differs = absurd (omega arith)
end_others o (p ∷ os) (suc n) zero is differs = refl
end_others o (p ∷ os) (suc n) (suc k) is differs = end_others o os n k (omega arith) (λ e. differs (ap suc e))

-- a place after all others, which are open as far as they weren't there
pub puts_behind : {P : Type 0} (o : Option P) (first os os' : List (Option P)) (n : ℕ) → ((k : ℕ) → stands_for os k ≡ stands_for first k)
    → length os ≡ n → os' ≡ os ++ o ∷ []
    → PutsAt o n first os'
puts_behind o first os os' n same long is = record {
  here = ap (λ ps. stands_for ps n) is ∙ end_here o os n long;
  others = λ k differs. ap (λ ps. stands_for ps k) is ∙ end_others o os n k long differs ∙ same k;
}

-- past the end each place is open
pub puts_none : {P : Type 0} (os : List (Option P)) (n : ℕ) → length os ≤ n → PutsAt None n os os
puts_none os n past = record { here = put_past os n past; others = λ k differs. refl }
