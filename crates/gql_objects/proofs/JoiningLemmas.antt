-- Places under keys, and what is joined onto a value that stands under one.
use Rattle.std.proofs.Common.{◌≡◌, ℕ, ◌+◌, ◌<◌, List, [], ◌∷◌, length, drop, get_or, None, Some, refl, ap, sym, ◌∙◌, arith, Bool, true, false, cond, Result, Ok, Err, OnOk}
use Rattle.std.proofs.lemmas.List.{drop_more}
use Rattle.std.specs.List.{zip}
use Rattle.std.specs.Str.{bytes_eq}
use Rattle.gql_base.specs.Pairs.{HasDistinctNames, names_of, under, unite, unite_all, put}
use Rattle.gql_place.specs.Join.{join}
use Rattle.gql_place.specs.declared.place.Place.{Place}
use Rattle.gql_select.proofs.UnitingLemmas.{either, united_distinct}
use Rattle.gql_objects.specs.Members.{united_members}

module _ {T : Type 0} (join : T → T → T) where
  -- to put the joined value where the first stood is to unite
  put_united : (ps : List (List ℕ × T)) (key : List ℕ) (x y : T) → under key ps ≡ Some x → put ps key (join x y) ≡ unite join ps key y
  put_united [] key x y = λ at. absurd (let e : None ≡ Some x = at in cc)
  put_united (p ∷ ps) key x y =
      let P : Bool → Type 0 = λ b. cond b (Some p.1) (under key ps) ≡ Some x
      → cond b ((p.0, join x y) ∷ ps) (p ∷ put ps key (join x y)) ≡ cond b ((p.0, join p.1 y) ∷ ps) (p ∷ unite join ps key y) in
      elim (bytes_eq key p.0) as P [
        | true ↦ λ at. let same : x ≡ p.1 = cc in λ i. (p.0, join (same i) y) ∷ ps
        | false ↦ λ at. ap (λ qs. p ∷ qs) (put_united ps key x y at)
      ]

  pub put_joined : {E : Type 0} (result : Result (Unit {0}) E) (ps : List (List ℕ × T)) (key : List ℕ) (x y new : T) → under key ps ≡ Some x
      → OnOk result (new ≡ join x y) → OnOk result (put ps key new ≡ unite join ps key y)
  put_joined (Err e) ps key x y new at joined = tt
  put_joined (Ok u) ps key x y new at joined = ap (put ps key) joined ∙ put_united ps key x y at

-- a list that is its own rest is empty
pub nil_from_rest : {A : Type 0} (xs : List A) → xs ≡ drop 1 xs → xs ≡ []
nil_from_rest [] same = refl
nil_from_rest (x ∷ xs) same = let e : length (x ∷ xs) ≡ length xs = ap length same in absurd (omega (arith, e))

module _ {A T : Type 0} where
  absent_zip : (k : List ℕ) (keys : List (List ℕ × A)) (values : List T) → under k keys ≡ None → under k (zip (names_of keys) values) ≡ None
  absent_zip k [] values none = refl
  absent_zip k (p ∷ keys) [] none = refl
  absent_zip k (p ∷ keys) (v ∷ values) none =
      either (bytes_eq k p.0) (under k (zip (names_of (p ∷ keys)) (v ∷ values)) ≡ None)
      (λ e. let found : under k (p ∷ keys) ≡ Some p.1 = rw e refl in cc)
      (λ e. let past : under k (p ∷ keys) ≡ under k keys = rw e refl in
      let rest : under k (zip (names_of keys) values) ≡ None = absent_zip k keys values (sym past ∙ none) in rw e rest)

  -- values under distinct names
  pub distinct_zip : (keys : List (List ℕ × A)) (values : List T) → HasDistinctNames keys → HasDistinctNames (zip (names_of keys) values)
  distinct_zip [] values d = tt
  distinct_zip (p ∷ keys) [] d = tt
  distinct_zip (p ∷ keys) (v ∷ values) d = (absent_zip p.0 keys values d.0, distinct_zip keys values d.1)

-- places under keys that stand once each have nothing to be joined
pub once_united : (keys : List (List ℕ × Unit {0})) (own : List Place) (made : List (List ℕ × Place)) → HasDistinctNames keys
    → made ≡ zip (names_of keys) own → made ≡ united_members (names_of keys) own
once_united keys own made distinct is = is ∙ sym (united_distinct join (zip (names_of keys) own) (distinct_zip keys own distinct))

-- one more place comes under its key
pub joined_more : (names : List (List ℕ)) (i : ℕ) (name : List ℕ) (own rest : List Place) (place : Place)
    (members members' all : List (List ℕ × Place))
    → i < length names → name ≡ get_or names i name → own ≡ place ∷ rest → members' ≡ unite join members name place
    → unite_all join members (zip (drop i names) own) ≡ all
    → unite_all join members' (zip (drop (i + 1) names) rest) ≡ all
joined_more names i name own rest place members members' all within read is added before =
    let next : drop i names ≡ name ∷ drop (i + 1) names = drop_more names i name within ∙ ap (λ n. n ∷ drop (i + 1) names) (sym read) in
    ap (λ ms. unite_all join ms (zip (drop (i + 1) names) rest)) added
    ∙ (λ k. unite_all join members (zip (sym next k) (sym is k)))
    ∙ before

zip_none : {T : Type 0} (names : List (List ℕ)) → zip names (let none : List T = [] in none) ≡ []
zip_none [] = refl
zip_none (n ∷ names) = refl

-- no place is left
pub joined_none : (names : List (List ℕ)) (i : ℕ) (own own' : List Place) (members all : List (List ℕ × Place)) → own ≡ [] → own' ≡ own
    → unite_all join members (zip (drop i names) own) ≡ all
    → unite_all join members (zip (drop (i + 1) names) own') ≡ all
joined_none names i own own' members all none same before =
    ap (λ ps. unite_all join members (zip (drop (i + 1) names) ps)) (same ∙ none)
    ∙ ap (unite_all join members) (zip_none (drop (i + 1) names) ∙ sym (zip_none (drop i names)))
    ∙ ap (λ ps. unite_all join members (zip (drop i names) ps)) (sym none)
    ∙ before
