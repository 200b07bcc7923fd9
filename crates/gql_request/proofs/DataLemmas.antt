-- Keys beside their values: what look-up and `put_key` come to where the pairs are made of two lists.
use Rattle.std.proofs.Common.{◌≡◌, ℕ, suc, ◌+◌, ◌<◌, ◌≤◌, ◌==◌, Bool, true, false, cond, not, List, [], ◌∷◌, ◌++◌, length, Some, None, slice_get, slice_set, slice_index_or, drop, map, refl, ap, sym, ◌∙◌, arith, ◌↔◌}
use Rattle.std.proofs.lemmas.Option.{slice_get_past, slice_get_read}
use Rattle.std.proofs.lemmas.List.{drop_more}
use Rattle.std.specs.List.{zip}
use Rattle.gql_request.specs.Data.{under_key, put_key, put_keys}
use Rattle.gql_request.specs.KeyTree.{first_place}

one-more : (n : ℕ) → 1 + n ≡ suc n
one-more n = omega arith

-- there are no pairs exactly where there are no values
none-zipped : {T : Type 0} (ks : List ℕ) (vs : List T) → length vs ≡ length ks → (length vs ≡ 0) ↔ (zip ks vs ≡ [])
none-zipped [] [] e = (λ h. refl, λ h. refl)
none-zipped [] (v ∷ vs) e = absurd (omega arith)
none-zipped (k ∷ ks) [] e = absurd (omega arith)
none-zipped (k ∷ ks) (v ∷ vs) e = (λ h. absurd (omega arith), λ h. cc)

pub none_among : {T : Type 0} (ks : List ℕ) (vs : List T) (ps : List (ℕ × T)) (n : ℕ) → length vs ≡ length ks → zip ks vs ≡ ps → n ≡ length vs
    → (n ≡ 0) ↔ (ps ≡ [])
none_among ks vs ps n same made long =
    let each = none-zipped ks vs same in
    (λ h. sym made ∙ each.0 (sym long ∙ h), λ h. long ∙ each.1 (made ∙ h))

module _ {T : Type 0} (sought : ℕ) where
  zipped-push : (ks : List ℕ) (vs : List T) (k : ℕ) (v : T) → length vs ≡ length ks → zip (ks ++ k ∷ []) (vs ++ v ∷ []) ≡ zip ks vs ++ (k, v) ∷ []
  zipped-push [] [] k v e = refl
  zipped-push [] (y ∷ vs) k v e = absurd (omega arith)
  zipped-push (x ∷ ks) [] k v e = absurd (omega arith)
  zipped-push (x ∷ ks) (y ∷ vs) k v e = ap (λ ps. (x, y) ∷ ps) (zipped-push ks vs k v (omega arith))

  -- the value under a key stands at the first place of that key, if any
  under-zipped : (ks : List ℕ) (vs : List T) → length vs ≡ length ks → under_key sought (zip ks vs) ≡ slice_get vs (first_place sought ks)
  under-zipped [] [] e = refl
  under-zipped [] (v ∷ vs) e = absurd (omega arith)
  under-zipped (k ∷ ks) [] e = absurd (omega arith)
  under-zipped (k ∷ ks) (v ∷ vs) e =
      let P : Bool → Type 0 = λ b. cond b (Some v) (under_key sought (zip ks vs)) ≡ slice_get (v ∷ vs) (cond (not b) (1 + first_place sought ks) 0) in
      let step : under_key sought (zip ks vs) ≡ slice_get vs (first_place sought ks) = under-zipped ks vs (omega arith) in
      elim (sought == k) as P [ true ↦ refl | false ↦ rw (one-more (first_place sought ks)) step ]

  put-zipped : (ks : List ℕ) (vs : List T) (v : T) → length vs ≡ length ks → first_place sought ks < length ks
      → put_key (zip ks vs) sought v ≡ zip ks (slice_set vs (first_place sought ks) v)
  put-zipped [] vs v e within = absurd (omega arith)
  put-zipped (k ∷ ks) [] v e within = absurd (omega arith)
  put-zipped (k ∷ ks) (y ∷ vs) v e within =
      let P : Bool → Type 0 = λ b. cond (not b) (1 + first_place sought ks) 0 < suc (length ks)
      → cond b ((k, v) ∷ zip ks vs) ((k, y) ∷ put_key (zip ks vs) sought v)
      ≡ zip (k ∷ ks) (slice_set (y ∷ vs) (cond (not b) (1 + first_place sought ks) 0) v) in
      (elim (sought == k) as P [
        | true ↦ λ h. refl
        | false ↦ λ h. rw (one-more (first_place sought ks)) (ap (λ ps. (k, y) ∷ ps) (put-zipped ks vs v (omega arith) (omega arith)))
      ]) within

  put-absent : (ks : List ℕ) (vs : List T) (v : T) → length vs ≡ length ks → length ks ≤ first_place sought ks
      → put_key (zip ks vs) sought v ≡ zip ks vs ++ (sought, v) ∷ []
  put-absent [] [] v e past = refl
  put-absent [] (y ∷ vs) v e past = absurd (omega arith)
  put-absent (k ∷ ks) [] v e past = absurd (omega arith)
  put-absent (k ∷ ks) (y ∷ vs) v e past =
      let P : Bool → Type 0 = λ b. suc (length ks) ≤ cond (not b) (1 + first_place sought ks) 0
      → cond b ((k, v) ∷ zip ks vs) ((k, y) ∷ put_key (zip ks vs) sought v) ≡ (k, y) ∷ (zip ks vs ++ (sought, v) ∷ []) in
      (elim (sought == k) as P [
        | true ↦ λ h. absurd (omega arith)
        | false ↦ λ h. ap (λ ps. (k, y) ∷ ps) (put-absent ks vs v (omega arith) (omega arith))
      ]) past

-- in the form in which the search finds them: what the lists make comes first
pub finds : {T : Type 0} (sought : ℕ) (ks : List ℕ) (vs : List T) (ps : List (ℕ × T)) (i : ℕ) (v : T) → zip ks vs ≡ ps → first_place sought ks ≡ i
    → length vs ≡ length ks → i < length ks → v ≡ slice_index_or vs i v → Some v ≡ under_key sought ps
finds sought ks vs ps i v made at same within read =
    sym (ap (under_key sought) (sym made) ∙ under-zipped sought ks vs same ∙ ap (slice_get vs) at ∙ slice_get_read vs (length ks) i v (sym same) within read)

pub misses : {T : Type 0} (sought : ℕ) (ks : List ℕ) (vs : List T) (ps : List (ℕ × T)) → zip ks vs ≡ ps → length ks ≤ first_place sought ks
    → length vs ≡ length ks → None ≡ under_key sought ps
misses sought ks vs ps made past same =
    sym (ap (under_key sought) (sym made) ∙ under-zipped sought ks vs same ∙ slice_get_past vs _ (omega arith))

pub put_found : {T : Type 0} (sought : ℕ) (ks : List ℕ) (vs : List T) (ps : List (ℕ × T)) (i : ℕ) (v : T) → zip ks vs ≡ ps → first_place sought ks ≡ i
    → length vs ≡ length ks → i < length ks → zip ks (slice_set vs i v) ≡ put_key ps sought v
put_found sought ks vs ps i v made at same within =
    ap (λ j. zip ks (slice_set vs j v)) (sym at) ∙ sym (put-zipped sought ks vs v same (omega arith)) ∙ ap (λ qs. put_key qs sought v) made

pub inserts : {T : Type 0} (sought : ℕ) (ks ks' : List ℕ) (vs vs' : List T) (ps : List (ℕ × T)) (v : T) → zip ks vs ≡ ps → length ks ≤ first_place sought ks
    → length vs ≡ length ks → ks' ≡ ks ++ sought ∷ [] → vs' ≡ vs ++ v ∷ [] → zip ks' vs' ≡ put_key ps sought v
inserts sought ks ks' vs vs' ps v made past same keys values =
    (λ i. zip (keys i) (values i)) ∙ zipped-push sought ks vs sought v same ∙ sym (put-absent sought ks vs v same past) ∙ ap (λ qs. put_key qs sought v) made

-- one pair of the others is put, and those after it are left
pub puts_more : {T : Type 0} (ks : List ℕ) (place : ℕ) (k : ℕ) (v : T) (rest rest' : List T) (ps ps' whole : List (ℕ × T)) → place < length ks
    → k ≡ slice_index_or ks place k → rest ≡ v ∷ rest' → ps' ≡ put_key ps k v → put_keys ps (zip (drop place ks) rest) ≡ whole
    → put_keys ps' (zip (drop (place + 1) ks) rest') ≡ whole
puts_more ks place k v rest rest' ps ps' whole within read next put left =
    let keys : drop place ks ≡ k ∷ drop (place + 1) ks = drop_more ks place k within ∙ ap (λ j. j ∷ drop (place + 1) ks) (sym read) in
    ap (λ qs. put_keys qs (zip (drop (place + 1) ks) rest')) put ∙ sym (λ i. put_keys ps (zip (keys i) (next i))) ∙ left

-- where no value is left, no pair is
pub puts_none : {T : Type 0} (ks : List ℕ) (rest : List T) (ps whole : List (ℕ × T)) → rest ≡ [] → put_keys ps (zip ks rest) ≡ whole → ps ≡ whole
puts_none {T} [] rest ps whole none left = left
puts_none {T} (k ∷ ks) rest ps whole none left = sym (ap (λ vs. put_keys ps (zip (k ∷ ks) vs)) none) ∙ left

-- pairs are equal exactly where their keys are, and their values
module _ {T : Type 0} where
  keys-zipped : (ks : List ℕ) (vs : List T) → length vs ≡ length ks → map (λ p. p.0) (zip ks vs) ≡ ks
  keys-zipped [] vs e = refl
  keys-zipped (k ∷ ks) [] e = absurd (omega arith)
  keys-zipped (k ∷ ks) (v ∷ vs) e = ap (λ js. k ∷ js) (keys-zipped ks vs (omega arith))

  values-zipped : (ks : List ℕ) (vs : List T) → length vs ≡ length ks → map (λ p. p.1) (zip ks vs) ≡ vs
  values-zipped [] [] e = refl
  values-zipped [] (v ∷ vs) e = absurd (omega arith)
  values-zipped (k ∷ ks) [] e = absurd (omega arith)
  values-zipped (k ∷ ks) (v ∷ vs) e = ap (λ ws. v ∷ ws) (values-zipped ks vs (omega arith))

  pub same_data : (ks js : List ℕ) (vs ws : List T) (ps qs : List (ℕ × T)) → length vs ≡ length ks → length ws ≡ length js → zip ks vs ≡ ps → zip js ws ≡ qs
      → (ps ≡ qs) ↔ ((ks ≡ js) × (vs ≡ ws))
  same_data ks js vs ws ps qs here there made-here made-there = (
    λ same.
        let pairs = made-here ∙ same ∙ sym made-there in (
          sym (keys-zipped ks vs here) ∙ ap (map (λ p. p.0)) pairs ∙ keys-zipped js ws there,
          sym (values-zipped ks vs here) ∙ ap (map (λ p. p.1)) pairs ∙ values-zipped js ws there,
        ),
    λ (keys, values). sym made-here ∙ (λ i. zip (keys i) (values i)) ∙ made-there,
  )
