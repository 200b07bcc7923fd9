-- Values under their names, where names and values are two lists.
use Rattle.std.proofs.Common.{◌≡◌, ℕ, suc, Bool, true, false, cond, List, [], ◌∷◌, ◌++◌, length, Option, Some, None, slice_get, slice_set, refl, ap, sym, ◌∙◌, subst, arith}
use Rattle.std.specs.List.{zip}
use Rattle.std.specs.Option.{option_map_or, option_map}
use Rattle.std.specs.Str.{bytes_eq}
use Rattle.gql_base.specs.Names.{place_of}
use Rattle.gql_base.specs.Pairs.{names_of, unite}
use Rattle.gql_lists.proofs.SliceLemmas.{map_length}

module _ {T : Type 0} (j : T → T → T) where
  unite_next : (k : List ℕ) (y : T) (ks : List (List ℕ)) (vs : List T) (qs : List (List ℕ × T)) (w : T) (o : Option ℕ) (i : ℕ)
      → ((n : ℕ) → o ≡ Some n → qs ≡ zip ks (slice_set vs n w)) → option_map (λ n. suc n) o ≡ Some i
      → (k, y) ∷ qs ≡ zip (k ∷ ks) (slice_set (y ∷ vs) i w)
  unite_next k y ks vs qs w None i each found = cc
  unite_next k y ks vs qs w (Some n) i each found =
      let at : suc n ≡ i = ap (λ o. option_map_or (λ m. m) o 0) found in
      rw (sym at) (ap (λ ps. (k, y) ∷ ps) (each n refl))

  -- a value joins the one that stands at the place of its name
  pub unite_found : (sought : List ℕ) (ks : List (List ℕ)) (vs : List T) (i : ℕ) (v w : T) → length vs ≡ length ks
      → place_of sought ks ≡ Some i → slice_get vs i ≡ Some v
      → unite j (zip ks vs) sought w ≡ zip ks (slice_set vs i (j v w))
  unite_found sought [] vs i v w e found at = cc
  unite_found sought (k ∷ ks) [] i v w e found at = absurd (omega arith)
  unite_found sought (k ∷ ks) (y ∷ vs) i v w e found at =
      let P : Bool → Type 0 = λ b. cond b (Some 0) (option_map (λ n. suc n) (place_of sought ks)) ≡ Some i
      → cond b ((k, j y w) ∷ zip ks vs) ((k, y) ∷ unite j (zip ks vs) sought w) ≡ zip (k ∷ ks) (slice_set (y ∷ vs) i (j v w)) in
      (elim (bytes_eq sought k) as P [
        | true ↦ λ h.
            let first : 0 ≡ i = ap (λ o. option_map_or (λ n. n) o 0) h in
            let same : y ≡ v = let e : slice_get (y ∷ vs) 0 ≡ Some v = ap (λ n. slice_get (y ∷ vs) n) first ∙ at in cc in
            rw (sym first) (ap (λ x. (k, j x w) ∷ zip ks vs) same)
        | false ↦ λ h.
            unite_next k y ks vs (unite j (zip ks vs) sought w) (j v w) (place_of sought ks) i
            (λ n there.
            let later : suc n ≡ i = ap (λ o. option_map_or (λ m. m) o 0) (ap (option_map (λ m. suc m)) (sym there) ∙ h) in
            unite_found sought ks vs n v w (omega arith) there (subst (λ m. slice_get (y ∷ vs) m ≡ Some v) (sym later) at))
            h
      ]) found

  -- a value whose name isn't there comes to the end
  pub unite_fresh : (sought : List ℕ) (ks : List (List ℕ)) (vs : List T) (w : T) → length vs ≡ length ks
      → place_of sought ks ≡ None → unite j (zip ks vs) sought w ≡ zip (ks ++ sought ∷ []) (vs ++ w ∷ [])
  unite_fresh sought [] [] w e none = refl
  unite_fresh sought [] (y ∷ vs) w e none = absurd (omega arith)
  unite_fresh sought (k ∷ ks) [] w e none = absurd (omega arith)
  unite_fresh sought (k ∷ ks) (y ∷ vs) w e none =
      let P : Bool → Type 0 = λ b. cond b (Some 0) (option_map (λ n. suc n) (place_of sought ks)) ≡ None
      → cond b ((k, j y w) ∷ zip ks vs) ((k, y) ∷ unite j (zip ks vs) sought w) ≡ (k, y) ∷ zip (ks ++ sought ∷ []) (vs ++ w ∷ []) in
      (elim (bytes_eq sought k) as P [
        | true ↦ λ h. cc
        | false ↦ λ h. ap (λ ps. (k, y) ∷ ps) (unite_fresh sought ks vs w (omega arith) (none_before (place_of sought ks) h))
      ]) none
    where
      none_before : (o : Option ℕ) → option_map (λ n. suc n) o ≡ None → o ≡ None
      none_before None h = refl
      none_before (Some n) h = cc

-- a key more is a name more
pub names_last : (keys : List (List ℕ × Unit {0})) (key : List ℕ) → names_of (keys ++ (key, tt) ∷ []) ≡ names_of keys ++ key ∷ []
names_last [] key = refl
names_last (k ∷ keys) key = ap (λ ks. k.0 ∷ ks) (names_last keys key)

pub names_long : (keys : List (List ℕ × Unit {0})) → length (names_of keys) ≡ length keys
names_long keys = map_length (λ (p : List ℕ × Unit {0}). p.0) keys
