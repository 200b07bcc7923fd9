-- Names beside their values: what look-up, `put` and distinct names come to where the pairs are made of two lists.
use Rattle.std.proofs.Common.{◌≡◌, ℕ, zero, suc, ◌+◌, ◌<◌, ◌≤◌, Bool, true, false, cond, not, ◌&&◌, List, [], ◌∷◌, ◌++◌, length}
use Rattle.std.proofs.Common.{take, Option, Some, None, slice_get, slice_set, slice_index_or, refl, ap, sym, ◌∙◌, subst, arith}
use Rattle.std.proofs.Common.{length-append}
use Rattle.std.proofs.lemmas.Option.{slice_get_read, slice_get_within, get_or_from_slice_get}
use Rattle.std.proofs.lemmas.List.{take_more, map-append}
use Rattle.std.proofs.lemmas.Bool.Decides.{nat_tests}
use lib.ListN.{length-map}
use Rattle.std.specs.List.{zip, position, position_or_len}
use Rattle.std.specs.Str.{bytes_eq}
use Rattle.std.specs.Option.{option_map_or, option_and_then}
use Rattle.std.specs.Cmp.Lexicographic.{bytes_decides, pointwise}
use Rattle.gql_base.specs.Names.{place_of, AreDistinct}
use Rattle.gql_base.specs.Pairs.{under, put, names_of, values_of, HasDistinctNames, same_pair}
use Rattle.gql_base.proofs.NamesLemmas.{next, place_within}

-- a place that `position` answers is the first that passes, and where it answers none there is no such place
pub position-is : {X : Type 0} (p : X → Bool) (xs : List X) (i : ℕ) → Some i ≡ position p xs → (position_or_len p xs ≡ i) × (i < length xs)
position-is p xs i e = grind (arith, nat_tests)

pub position-none : {X : Type 0} (p : X → Bool) (xs : List X) → None ≡ position p xs → length xs ≤ position_or_len p xs
position-none p xs e = grind (arith, nat_tests)

-- there is an item at each place within
there : {T : Type 0} (vs : List T) (i : ℕ) → i < length vs → slice_get vs i ≡ None → ⊥
there [] i within none = omega arith
there (v ∷ vs) zero within none = cc
there (v ∷ vs) (suc i) within none = there vs i (omega arith) none

-- lists of as many names as values
module _ {T : Type 0} where
  pub length_zipped : (ks : List (List ℕ)) (vs : List T) → length vs ≡ length ks → length (zip ks vs) ≡ length ks
  length_zipped [] vs e = refl
  length_zipped (k ∷ ks) [] e = absurd (omega arith)
  length_zipped (k ∷ ks) (v ∷ vs) e = ap suc (length_zipped ks vs (omega arith))

  pub names_zipped : (ks : List (List ℕ)) (vs : List T) → length vs ≡ length ks → names_of (zip ks vs) ≡ ks
  names_zipped [] vs e = refl
  names_zipped (k ∷ ks) [] e = absurd (omega arith)
  names_zipped (k ∷ ks) (v ∷ vs) e = ap (λ ns. k ∷ ns) (names_zipped ks vs (omega arith))

  pub values_zipped : (ks : List (List ℕ)) (vs : List T) → length vs ≡ length ks → values_of (zip ks vs) ≡ vs
  values_zipped [] [] e = refl
  values_zipped [] (v ∷ vs) e = absurd (omega arith)
  values_zipped (k ∷ ks) [] e = absurd (omega arith)
  values_zipped (k ∷ ks) (v ∷ vs) e = ap (λ ns. v ∷ ns) (values_zipped ks vs (omega arith))

  pub zipped_again : (ps : List (List ℕ × T)) → zip (names_of ps) (values_of ps) ≡ ps
  zipped_again [] = refl
  zipped_again (p ∷ ps) = ap (λ qs. p ∷ qs) (zipped_again ps)

  pub zipped_at : (ks : List (List ℕ)) (vs : List T) (i : ℕ) (k : List ℕ) (v : T) → slice_get ks i ≡ Some k → slice_get vs i ≡ Some v
      → slice_get (zip ks vs) i ≡ Some (k, v)
  zipped_at [] vs i k v a b = cc
  zipped_at (x ∷ ks) [] i k v a b = cc
  zipped_at (x ∷ ks) (y ∷ vs) zero k v a b = cc
  zipped_at (x ∷ ks) (y ∷ vs) (suc i) k v a b = zipped_at ks vs i k v a b

  pub zipped_push : (ks : List (List ℕ)) (vs : List T) (k : List ℕ) (v : T) → length vs ≡ length ks
      → zip (ks ++ k ∷ []) (vs ++ v ∷ []) ≡ zip ks vs ++ (k, v) ∷ []
  zipped_push [] [] k v e = refl
  zipped_push [] (y ∷ vs) k v e = absurd (omega arith)
  zipped_push (x ∷ ks) [] k v e = absurd (omega arith)
  zipped_push (x ∷ ks) (y ∷ vs) k v e = ap (λ ps. (x, y) ∷ ps) (zipped_push ks vs k v (omega arith))

  under_next : (v : T) (vs : List T) (o : Option ℕ) → option_and_then (slice_get (v ∷ vs)) (next o) ≡ option_and_then (slice_get vs) o
  under_next v vs None = refl
  under_next v vs (Some i) = refl

  -- the value under a name stands at the place of that name, if any
  pub under_zipped : (sought : List ℕ) (ks : List (List ℕ)) (vs : List T) → length vs ≡ length ks
      → under sought (zip ks vs) ≡ option_and_then (slice_get vs) (place_of sought ks)
  under_zipped sought [] vs e = refl
  under_zipped sought (k ∷ ks) [] e = absurd (omega arith)
  under_zipped sought (k ∷ ks) (v ∷ vs) e =
      let P : Bool → Type 0 = λ b. cond b (Some v) (under sought (zip ks vs)) ≡ option_and_then (slice_get (v ∷ vs)) (cond b (Some 0) (next (place_of sought ks))) in
      elim (bytes_eq sought k) as P [ true ↦ refl | false ↦ under_zipped sought ks vs (omega arith) ∙ sym (under_next v vs (place_of sought ks)) ]

  pub distinct_zipped : (ks : List (List ℕ)) (vs : List T) → length vs ≡ length ks → AreDistinct ks → HasDistinctNames (zip ks vs)
  distinct_zipped [] vs e distinct = tt
  distinct_zipped (k ∷ ks) [] e distinct = absurd (omega arith)
  distinct_zipped (k ∷ ks) (v ∷ vs) e (fresh, distinct) =
      let same : length vs ≡ length ks = omega arith in
      (under_zipped k ks vs same ∙ ap (option_and_then (slice_get vs)) fresh, distinct_zipped ks vs same distinct)

  put_next : (k : List ℕ) (y v : T) (ks : List (List ℕ)) (vs : List T) (qs : List (List ℕ × T)) (o : Option ℕ) (i : ℕ)
      → ((j : ℕ) → o ≡ Some j → qs ≡ zip ks (slice_set vs j v)) → next o ≡ Some i → (k, y) ∷ qs ≡ zip (k ∷ ks) (slice_set (y ∷ vs) i v)
  put_next k y v ks vs qs None i each found = cc
  put_next k y v ks vs qs (Some j) i each found =
      let at : suc j ≡ i = ap (λ o. option_map_or (λ n. n) o 0) found in
      rw (sym at) (ap (λ ps. (k, y) ∷ ps) (each j refl))

  pub put_zipped : (sought : List ℕ) (ks : List (List ℕ)) (vs : List T) (v : T) (i : ℕ) → length vs ≡ length ks
      → place_of sought ks ≡ Some i
      → put (zip ks vs) sought v ≡ zip ks (slice_set vs i v)
  put_zipped sought [] vs v i e found = cc
  put_zipped sought (k ∷ ks) [] v i e found = absurd (omega arith)
  put_zipped sought (k ∷ ks) (y ∷ vs) v i e found =
      let P : Bool → Type 0 = λ b. cond b (Some 0) (next (place_of sought ks)) ≡ Some i
      → cond b ((k, v) ∷ zip ks vs) ((k, y) ∷ put (zip ks vs) sought v) ≡ zip (k ∷ ks) (slice_set (y ∷ vs) i v) in
      (elim (bytes_eq sought k) as P [
        | true ↦ λ h. (let at : 0 ≡ i = ap (λ o. option_map_or (λ n. n) o 0) h in rw (sym at) refl)
        | false ↦ λ h. put_next k y v ks vs (put (zip ks vs) sought v) (place_of sought ks) i (λ j there. put_zipped sought ks vs v j (omega arith) there) h
      ]) found

-- the same of pairs that are seen as one list
module _ {T : Type 0} (ks : List (List ℕ)) (vs : List T) (ps : List (List ℕ × T)) (same : length vs ≡ length ks) (made : zip ks vs ≡ ps) where
  pub pairs_long : length ps ≡ length ks
  pairs_long = ap length (sym made) ∙ length_zipped ks vs same

  pub pairs_distinct : AreDistinct ks → HasDistinctNames ps
  pairs_distinct distinct = subst HasDistinctNames made (distinct_zipped ks vs same distinct)

  pub pairs_names : names_of ps ≡ ks
  pairs_names = ap names_of (sym made) ∙ names_zipped ks vs same

  pub pairs_values : values_of ps ≡ vs
  pairs_values = ap values_of (sym made) ∙ values_zipped ks vs same

  -- what a name and a value at one place are as a pair
  pub pair_at : (i : ℕ) (k : List ℕ) (v : T) → i < length ps → slice_get ks i ≡ Some k → v ≡ slice_index_or vs i v
      → slice_get ps i ≡ Some (k, v)
  pair_at i k v within named value =
      let long = pairs_long in
      ap (λ qs. slice_get qs i) (sym made) ∙ zipped_at ks vs i k v named (slice_get_read vs (length ks) i v (sym same) (omega (arith, long)) value)

module _ {T : Type 0} (sought : List ℕ) (ks : List (List ℕ)) (vs : List T) (ps : List (List ℕ × T)) (same : length vs ≡ length ks) (made : zip ks vs ≡ ps) where
  under_place : under sought ps ≡ option_and_then (slice_get vs) (place_of sought ks)
  under_place = ap (under sought) (sym made) ∙ under_zipped sought ks vs same

  pub under_missing : None ≡ place_of sought ks → None ≡ under sought ps
  under_missing missing = sym (under_place ∙ ap (option_and_then (slice_get vs)) (sym missing))

  pub under_found : (i : ℕ) (v : T) → Some i ≡ place_of sought ks → v ≡ slice_index_or vs i v → Some v ≡ under sought ps
  under_found i v found read =
      let within : i < length ks = place_within sought ks i (sym found) in
      sym (under_place ∙ ap (option_and_then (slice_get vs)) (sym found) ∙ slice_get_read vs (length ks) i v (sym same) within read)

  fresh_at : (o : Option ℕ) → place_of sought ks ≡ o → under sought ps ≡ None → o ≡ None
  fresh_at None at none = refl
  fresh_at (Some i) at none =
      let within : i < length ks = place_within sought ks i at in
      let v : slice_get vs i ≡ None = sym (ap (option_and_then (slice_get vs)) at) ∙ sym under_place ∙ none in
      absurd (there vs i (omega (arith, same)) v)

  -- where nothing stands under a name, it has no place
  pub fresh_place : under sought ps ≡ None → place_of sought ks ≡ None
  fresh_place none = fresh_at (place_of sought ks) refl none

  pub put_found : (i : ℕ) (v : T) → Some i ≡ place_of sought ks → zip ks (slice_set vs i v) ≡ put ps sought v
  put_found i v found = sym (put_zipped sought ks vs v i same (sym found)) ∙ ap (λ qs. put qs sought v) made

-- the same of pairs as their names beside their values
module _ {T : Type 0} (sought : List ℕ) (ps : List (List ℕ × T)) where
  same_lengths : length (values_of ps) ≡ length (names_of ps)
  same_lengths = length-map ps (λ p. p.1) ∙ sym (length-map ps (λ p. p.0))

  pub put_in_place : (i : ℕ) (v : T) → Some i ≡ place_of sought (names_of ps)
      → zip (names_of ps) (slice_set (values_of ps) i v) ≡ put ps sought v
  put_in_place i v found = put_found sought (names_of ps) (values_of ps) ps same_lengths (zipped_again ps) i v found

  pub under_in_place : (i : ℕ) (v : T) → Some i ≡ place_of sought (names_of ps) → slice_get (values_of ps) i ≡ Some v
      → Some v ≡ under sought ps
  under_in_place i v found at =
      sym (under_place sought (names_of ps) (values_of ps) ps same_lengths (zipped_again ps) ∙ ap (option_and_then (slice_get (values_of ps))) (sym found) ∙ at)

  pub under_no_place : None ≡ place_of sought (names_of ps) → None ≡ under sought ps
  under_no_place missing = under_missing sought (names_of ps) (values_of ps) ps same_lengths (zipped_again ps) missing

-- names and values that got one more each
pub pushed_same : {K T : Type 0} (ks : List K) (vs : List T) (k : K) (v : T) (ks' : List K) (vs' : List T) → length vs ≡ length ks
    → ks' ≡ ks ++ k ∷ [] → vs' ≡ vs ++ v ∷ [] → length vs' ≡ length ks'
pushed_same ks vs k v ks' vs' same keys values =
    omega (arith, ap length keys, ap length values, length-append ks (k ∷ []), length-append vs (v ∷ []))

pub pairs_pushed : {T : Type 0} (ks : List (List ℕ)) (vs : List T) (ps : List (List ℕ × T)) (k : List ℕ) (v : T) (ks' : List (List ℕ)) (vs' : List T)
    → length vs ≡ length ks → zip ks vs ≡ ps → ks' ≡ ks ++ k ∷ [] → vs' ≡ vs ++ v ∷ [] → zip ks' vs' ≡ ps ++ (k, v) ∷ []
pairs_pushed ks vs ps k v ks' vs' same made keys values =
    (λ i. zip (keys i) (values i)) ∙ zipped_push ks vs k v same ∙ ap (λ qs. qs ++ (k, v) ∷ []) made

-- pairs with distinct names, added one by one
pub put-fresh : {T : Type 0} (ps : List (List ℕ × T)) (n : List ℕ) (x : T) → under n ps ≡ None → put ps n x ≡ ps ++ (n, x) ∷ []
put-fresh [] n x fresh = refl
put-fresh (p ∷ ps) n x fresh =
    let P : Bool → Type 0 = λ b. cond b (Some p.1) (under n ps) ≡ None → cond b ((p.0, x) ∷ ps) (p ∷ put ps n x) ≡ p ∷ (ps ++ (n, x) ∷ []) in
    (elim (bytes_eq n p.0) as P [ true ↦ λ h. cc | false ↦ λ h. ap (λ qs. p ∷ qs) (put-fresh ps n x h) ]) fresh

-- a name that stands among pairs has a value there
under-present : {T : Type 0} (ps : List (List ℕ × T)) (i : ℕ) (n : List ℕ) (x : T) → slice_get ps i ≡ Some (n, x) → under n ps ≡ None → ⊥
under-present [] i n x at none = cc
under-present (p ∷ ps) zero n x at none =
    let named : p.0 ≡ n = ap (λ o. option_map_or (λ q. q.0) o n) at in
    let same : bytes_eq n p.0 ≡ true = rw named ((bytes_decides n n).1 refl) in
    let found : Some p.1 ≡ None = rw same at none in
    cc
under-present (p ∷ ps) (suc i) n x at none =
    let P : Bool → Type 0 = λ b. cond b (Some p.1) (under n ps) ≡ None → ⊥ in
    (elim (bytes_eq n p.0) as P [ true ↦ λ h. cc | false ↦ λ h. under-present ps i n x at h ]) none

-- a name at a place isn't among the names before it
under-front : {T : Type 0} (ps : List (List ℕ × T)) (i : ℕ) (n : List ℕ) (x : T) → HasDistinctNames ps → slice_get ps i ≡ Some (n, x)
    → under n (take i ps) ≡ None
under-front [] i n x distinct at = cc
under-front (p ∷ ps) zero n x distinct at = refl
under-front (p ∷ ps) (suc i) n x (fresh, distinct) at =
    let P : Bool → Type 0 = λ b. (b ≡ true → n ≡ p.0) → cond b (Some p.1) (under n (take i ps)) ≡ None in
    (elim (bytes_eq n p.0) as P [
      | true ↦ λ same. absurd (under-present ps i n x at (ap (λ m. under m ps) (same refl) ∙ fresh))
      | false ↦ λ same. under-front ps i n x distinct at
    ]) (λ h. (bytes_decides n p.0).0 h)

pub put_more : {T : Type 0} (ps : List (List ℕ × T)) (i : ℕ) (n : List ℕ) (x : T) → HasDistinctNames ps → slice_get ps i ≡ Some (n, x)
    → put (take i ps) n x ≡ take (i + 1) ps
put_more ps i n x distinct at =
    put-fresh (take i ps) n x (under-front ps i n x distinct at)
    ∙ sym (take_more ps i (n, x) (slice_get_within ps i (n, x) at) ∙ ap (λ p. take i ps ++ p ∷ []) (get_or_from_slice_get ps i (n, x) (n, x) at))

-- two lists that begin alike and have the same item next
pub take-more-same : {X : Type 0} (xs ys : List X) (i : ℕ) (x y : X) → slice_get xs i ≡ Some x → slice_get ys i ≡ Some y → x ≡ y
    → take i xs ≡ take i ys → take (i + 1) xs ≡ take (i + 1) ys
take-more-same {X} xs ys i x y here there same front =
    let step : (zs : List X) (z : X) → slice_get zs i ≡ Some z → take (i + 1) zs ≡ take i zs ++ z ∷ []
    = λ zs z at. take_more zs i z (slice_get_within zs i z at) ∙ ap (λ w. take i zs ++ w ∷ []) (get_or_from_slice_get zs i z z at) in
    step xs x here ∙ (λ j. front j ++ same j ∷ []) ∙ sym (step ys y there)

pub same-name : (m n : List ℕ) → false ≡ not (bytes_eq m n) → m ≡ n
same-name m n told =
    let P : Bool → Type 0 = λ b. (b ≡ true → m ≡ n) → false ≡ not b → m ≡ n in
    (elim (bytes_eq m n) as P [ true ↦ λ h e. h refl | false ↦ λ h e. cc ]) (bytes_decides m n).0 told

and-swap : (a b c d : Bool) → ((a && b) && (c && d)) ≡ ((a && c) && (b && d))
and-swap true true c d = refl
and-swap true false true d = refl
and-swap true false false d = refl
and-swap false b c d = refl

-- pairs are equal where their names are, and their values
same_zipped : {T : Type 0} (E : T → T → Bool) (ks js : List (List ℕ)) (vs ws : List T) → length vs ≡ length ks → length ws ≡ length js
    → pointwise (same_pair E) (zip ks vs) (zip js ws) ≡ (pointwise bytes_eq ks js && pointwise E vs ws)
same_zipped E [] [] [] [] d e = refl
same_zipped E [] [] [] (w ∷ ws) d e = absurd (omega arith)
same_zipped E [] (j ∷ js) [] [] d e = absurd (omega arith)
same_zipped E [] (j ∷ js) [] (w ∷ ws) d e = refl
same_zipped E [] js (v ∷ vs) ws d e = absurd (omega arith)
same_zipped E (k ∷ ks) js [] ws d e = absurd (omega arith)
same_zipped E (k ∷ ks) [] (v ∷ vs) [] d e = refl
same_zipped E (k ∷ ks) [] (v ∷ vs) (w ∷ ws) d e = absurd (omega arith)
same_zipped E (k ∷ ks) (j ∷ js) (v ∷ vs) [] d e = absurd (omega arith)
same_zipped E (k ∷ ks) (j ∷ js) (v ∷ vs) (w ∷ ws) d e =
    ap (λ rest. (bytes_eq k j && E v w) && rest) (same_zipped E ks js vs ws (omega arith) (omega arith))
    ∙ and-swap (bytes_eq k j) (E v w) (pointwise bytes_eq ks js) (pointwise E vs ws)

-- the same by what two tests have told
module _ {T : Type 0} (E : T → T → Bool) (ks js : List (List ℕ)) (vs ws : List T) (ps qs : List (List ℕ × T)) where
  pub same_pairs : (named valued : Bool) → named ≡ pointwise bytes_eq ks js → valued ≡ pointwise E vs ws
      → length vs ≡ length ks → length ws ≡ length js
      → zip ks vs ≡ ps → zip js ws ≡ qs → (named && valued) ≡ pointwise (same_pair E) ps qs
  same_pairs named valued told-names told-values one two made-one made-two =
      (λ i. told-names i && told-values i) ∙ sym (same_zipped E ks js vs ws one two)
      ∙ (λ i. pointwise (same_pair E) (made-one i) (made-two i))

pub values_taken : {T : Type 0} (ps : List (List ℕ × T)) (i : ℕ) (n : List ℕ) (x : T) → slice_get ps i ≡ Some (n, x)
    → values_of (take (i + 1) ps) ≡ values_of (take i ps) ++ x ∷ []
values_taken ps i n x at =
    let more = take_more ps i (n, x) (slice_get_within ps i (n, x) at) ∙ ap (λ p. take i ps ++ p ∷ []) (get_or_from_slice_get ps i (n, x) (n, x) at) in
    ap values_of more ∙ map-append (λ p. p.1) (take i ps) ((n, x) ∷ [])
