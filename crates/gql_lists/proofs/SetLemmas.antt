-- Sets kept as lists: what is among them once others are added, and that only so many can be.
use Rattle.std.proofs.Common.{◌≡◌, ◌⊎◌, inl, inr, ℕ, zero, suc, ◌+◌, ◌≤◌, Bool, true, false, ◌||◌, cond, List, [], ◌∷◌, ◌++◌, take, length, Some, slice_get, refl, ap, sym, ◌∙◌, arith, length-append, append-nil, append_assoc}
use Rattle.std.specs.Bool.{Decides}
use Rattle.gql_lists.specs.Sets.{is_among, missing, with_all, with_one}

pub or-right : (a b : Bool) → b ≡ true → (a || b) ≡ true
or-right true b h = refl
or-right false b h = h

pub or-left : (a b : Bool) → a ≡ true → (a || b) ≡ true
or-left true b h = refl
or-left false b h = cc

pub or-either : (a b : Bool) → (a || b) ≡ true → (a ≡ true) ⊎ (b ≡ true)
or-either true b h = inl refl
or-either false b h = inr h

module _ {A : Type 0} (same : A → A → Bool) where
  -- what is among two lists
  pub among-append : (x : A) (ns ms : List A) → is_among same x (ns ++ ms) ≡ (is_among same x ns || is_among same x ms)
  among-append x [] ms = refl
  among-append x (n ∷ ns) ms =
      let P : Bool → Type 0 = λ b. (b || is_among same x (ns ++ ms)) ≡ ((b || is_among same x ns) || is_among same x ms) in
      elim (same x n) as P [ true ↦ refl | false ↦ among-append x ns ms ]

  -- others are added one after another
  pub all-append : (ns xs ys : List A) → with_all same ns (xs ++ ys) ≡ with_all same (with_all same ns xs) ys
  all-append ns [] ys = refl
  all-append ns (x ∷ xs) ys = all-append (with_one same ns x) xs ys

  -- they are added after those there
  pub grows : (ns xs : List A) → (rest : List A) × (with_all same ns xs ≡ ns ++ rest)
  grows ns [] = ([], sym (append-nil ns))
  grows ns (n ∷ xs) =
      let P : Bool → Type 0 = λ b. (ms : List A) → ms ≡ cond b ns (ns ++ n ∷ []) → (rest : List A) × (with_all same ms xs ≡ ns ++ rest) in
      (elim (is_among same n ns) as P [
        | true ↦ λ ms is-same. let (rest, is) = grows ms xs in (rest, is ∙ ap (λ l. l ++ rest) is-same)
        | false ↦ λ ms is-same. let (rest, is) = grows ms xs in
            (n ∷ rest, is ∙ ap (λ l. l ++ rest) is-same ∙ append_assoc ns (n ∷ []) rest)
      ]) (with_one same ns n) refl

  -- what is there stays
  kept-one : (x n : A) (ns : List A) → is_among same x ns ≡ true → is_among same x (with_one same ns n) ≡ true
  kept-one x n ns there =
      let P : Bool → Type 0 = λ b. is_among same x (cond b ns (ns ++ n ∷ [])) ≡ true in
      elim (is_among same n ns) as P [ true ↦ there | false ↦ among-append x ns (n ∷ []) ∙ or-left (is_among same x ns) _ there ]

  pub kept_all : (x : A) (ns xs : List A) → is_among same x ns ≡ true → is_among same x (with_all same ns xs) ≡ true
  kept_all x ns [] there = there
  kept_all x ns (n ∷ xs) there = kept_all x (with_one same ns n) xs (kept-one x n ns there)

  -- what is there once others are added was there, or is one of them
  from-one : (x n : A) (ns : List A) → is_among same x (with_one same ns n) ≡ true → (is_among same x ns ≡ true) ⊎ (is_among same x (n ∷ []) ≡ true)
  from-one x n ns there =
      let P : Bool → Type 0 = λ b. is_among same x (cond b ns (ns ++ n ∷ [])) ≡ true → (is_among same x ns ≡ true) ⊎ (is_among same x (n ∷ []) ≡ true) in
      (elim (is_among same n ns) as P [ true ↦ λ h. inl h | false ↦ λ h. or-either (is_among same x ns) _ (sym (among-append x ns (n ∷ [])) ∙ h) ]) there

  pub from_all : (x : A) (ns xs : List A) → is_among same x (with_all same ns xs) ≡ true → (is_among same x ns ≡ true) ⊎ (is_among same x xs ≡ true)
  from_all x ns [] there = inl there
  from_all x ns (n ∷ xs) there =
      elim (from_all x (with_one same ns n) xs there) [
        | inl h ↦ elim (from-one x n ns h) [
          | inl old ↦ inl old
          | inr new ↦ inr (elim (or-either (same x n) false new) [ inl it ↦ or-left (same x n) _ it | inr nothing ↦ absurd (never nothing) ])
        ]
        | inr h ↦ inr (or-right (same x n) _ h)
      ]
    where
      never : false ≡ true → ⊥
      never e = cc

  missing-one : (b c : Bool) → cond (b || c) 0 1 ≤ cond b 0 1
  missing-one true c = omega arith
  missing-one false true = omega arith
  missing-one false false = omega arith

  missing-less : (us ns : List A) (n : A) → missing same us (ns ++ n ∷ []) ≤ missing same us ns
  missing-less [] ns n = omega arith
  missing-less (u ∷ us) ns n =
      let rest = missing-less us ns n in
      let here : cond (is_among same u (ns ++ n ∷ [])) 0 1 ≤ cond (is_among same u ns) 0 1 = rw (among-append u ns (n ∷ [])) (missing-one (is_among same u ns) (is_among same u (n ∷ []))) in
      omega (arith, rest, here)

  -- where a test tells exactly what is equal
  module _ (decides : (x y : A) → Decides (same x y) (x ≡ y)) where
    pub among-take : (xs : List A) (i : ℕ) (x : A) → slice_get xs i ≡ Some x → is_among same x xs ≡ true
    among-take [] i x at = cc
    among-take (y ∷ xs) zero x at =
        let it : y ≡ x = cc in
        rw it (or-left (same x x) _ ((decides x x).1 refl))
    among-take (y ∷ xs) (suc i) x at = or-right (same x y) _ (among-take xs i x at)

    -- what is among one more of the first
    pub among-more : (xs : List A) (i : ℕ) (x y : A) → slice_get xs i ≡ Some x → is_among same y (take (suc i) xs) ≡ true
        → (is_among same y (take i xs) ≡ true) ⊎ (y ≡ x)
    among-more [] i x y at there = cc
    among-more (z ∷ xs) zero x y at there =
        let it : z ≡ x = cc in
        let P : Bool → Type 0 = λ b. (b ≡ true → y ≡ z) → (b || false) ≡ true → (false ≡ true) ⊎ (y ≡ x) in
        (elim (same y z) as P [ true ↦ λ e h. inr (e refl ∙ it) | false ↦ λ e h. cc ]) (decides y z).0 there
    among-more (z ∷ xs) (suc i) x y at there =
        let P : Bool → Type 0 = λ b. (b || is_among same y (take (suc i) xs)) ≡ true → ((b || is_among same y (take i xs)) ≡ true) ⊎ (y ≡ x) in
        (elim (same y z) as P [ true ↦ λ h. inl refl | false ↦ λ h. among-more xs i x y at h ]) there

    -- what is added is there
    added-one : (n : A) (ns : List A) → is_among same n (with_one same ns n) ≡ true
    added-one n ns =
        let P : Bool → Type 0 = λ b. (is_among same n ns ≡ b) → is_among same n (cond b ns (ns ++ n ∷ [])) ≡ true in
        let itself : is_among same n (n ∷ []) ≡ true = or-left (same n n) false ((decides n n).1 refl) in
        (elim (is_among same n ns) as P [ true ↦ λ h. h | false ↦ λ h. among-append n ns (n ∷ []) ∙ or-right (is_among same n ns) _ itself ]) refl

    pub added_all : (x : A) (ns xs : List A) → is_among same x xs ≡ true → is_among same x (with_all same ns xs) ≡ true
    added_all x ns [] there = cc
    added_all x ns (n ∷ xs) there =
        let P : Bool → Type 0 = λ b. (b ≡ true → x ≡ n) → (b || is_among same x xs) ≡ true → is_among same x (with_all same (with_one same ns n) xs) ≡ true in
        (elim (same x n) as P [
          | true ↦ λ it h. rw (it refl) (kept_all n (with_one same ns n) xs (added-one n ns))
          | false ↦ λ it h. added_all x (with_one same ns n) xs h
        ]) (decides x n).0 there

    -- a new one that is added is one fewer that is missing
    missing-fewer : (us ns : List A) (n : A) → is_among same n us ≡ true → is_among same n ns ≡ false → suc (missing same us (ns ++ n ∷ [])) ≤ missing same us ns
    missing-fewer [] ns n there fresh = cc
    missing-fewer (u ∷ us) ns n there fresh =
        let P : Bool → Type 0 = λ b. (b ≡ true → n ≡ u) → (b || is_among same n us) ≡ true → suc (missing same (u ∷ us) (ns ++ n ∷ [])) ≤ missing same (u ∷ us) ns in
        (elim (same n u) as P [
          | true ↦ λ it h.
              let there : is_among same u (ns ++ n ∷ []) ≡ true = among-append u ns (n ∷ []) ∙ or-right (is_among same u ns) _ (or-left (same u n) _ ((decides u n).1 (sym (it refl)))) in
              let absent : is_among same u ns ≡ false = ap (λ m. is_among same m ns) (sym (it refl)) ∙ fresh in
              let rest = missing-less us ns n in
              rw (there, absent) (omega (arith, rest))
          | false ↦ λ it h.
              let rest = missing-fewer us ns n h fresh in
              let here : cond (is_among same u (ns ++ n ∷ [])) 0 1 ≤ cond (is_among same u ns) 0 1 = rw (among-append u ns (n ∷ [])) (missing-one (is_among same u ns) (is_among same u (n ∷ []))) in
              omega (arith, rest, here)
        ]) (decides n u).0 there

    spent-one : (us ns : List A) (n : A) → is_among same n us ≡ true → missing same us (with_one same ns n) + length (with_one same ns n) ≤ missing same us ns + length ns
    spent-one us ns n there =
        let P : Bool → Type 0 = λ b. (is_among same n ns ≡ b) → missing same us (cond b ns (ns ++ n ∷ [])) + length (cond b ns (ns ++ n ∷ [])) ≤ missing same us ns + length ns in
        (elim (is_among same n ns) as P [
          | true ↦ λ h. omega arith
          | false ↦ λ h. omega (arith, missing-fewer us ns n there h, length-append ns (n ∷ []))
        ]) refl

    -- those that are added are no longer missing
    pub spent : (us ns xs : List A) → ((x : A) → is_among same x xs ≡ true → is_among same x us ≡ true)
        → missing same us (with_all same ns xs) + length (with_all same ns xs) ≤ missing same us ns + length ns
    spent us ns [] within = omega arith
    spent us ns (n ∷ xs) within =
        let one = spent-one us ns n (within n (or-left (same n n) _ ((decides n n).1 refl))) in
        let rest = spent us (with_one same ns n) xs (λ x h. within x (or-right (same x n) _ h)) in
        omega (arith, one, rest)
