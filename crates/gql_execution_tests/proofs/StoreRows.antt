-- What is stored of tasks, on an example of three: the place of the first is there, the second has the third under it, and its place is open.
use Rattle.std.proofs.Common.{◌≡◌, ℕ, zero, suc, ◌+◌, List, [], ◌∷◌, Option, Some, None, refl, inl, inr, arith}
use Rattle.gql_objects.specs.PlaceStore.{IsStored, stands_for, Store}

two : List (Option ℕ)
two = Some 10 ∷ None ∷ []

-- a place that is there, one that is open, and what is past the end
first_is_there : stands_for two 0 ≡ Some 10
unfolding two
first_is_there = refl

second_is_open : stands_for two 1 ≡ None
unfolding two
second_is_open = refl

past_the_end : stands_for two 2 ≡ None
unfolding two
past_the_end = refl

abbrev fits : ℕ → ℕ → Type 0
fits job filled = filled ≡ 10 + job

abbrev beneath : ℕ → List ℕ
beneath zero = []
beneath (suc job) = 2 ∷ []

abbrev made : ℕ → ℕ → Type 0
made filled place = place ≡ filled

abbrev store : Store ℕ ℕ
store = record { entries = record { number = 1; first = 2; count = 1; filled = 11 } ∷ []; places = Some 10 ∷ None ∷ [] }

first_is_put : IsStored fits beneath made (0 ∷ 1 ∷ 2 ∷ []) store 0
first_is_put = inl (record { job = 0; there = refl; filled = 10; fits = refl; none = refl; place = 10; put = refl; made = refl })

second_is_left : IsStored fits beneath made (0 ∷ 1 ∷ 2 ∷ []) store 1
second_is_left = inr (record {
  held = record {
    job = 1;
    there = refl;
    kept = record { number = 1; first = 2; count = 1; filled = 11 };
    last = refl;
    fits = refl;
    within = omega arith;
    block = refl;
  };
  stays = refl;
})
