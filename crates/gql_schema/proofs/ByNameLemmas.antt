-- Items that stand under names of their own.
use Rattle.std.proofs.Common.{◌≡◌, ℕ, Bool, true, false, cond, List, [], ◌∷◌, ◌++◌, map, refl, sym}
use Rattle.std.specs.Str.{bytes_eq}
use Rattle.std.specs.Cmp.Lexicographic.{bytes_decides}
use Rattle.gql_base.specs.Pairs.{put, names_of}

pub put_keyed : {T : Type 0} (name : T → List ℕ) (ps : List (List ℕ × T)) (x : T) → names_of ps ≡ map (λ p. name p.1) ps
    → names_of (put ps (name x) x) ≡ map (λ p. name p.1) (put ps (name x) x)
put_keyed name [] x keyed = refl
put_keyed name (p ∷ ps) x keyed =
    let here : p.0 ≡ name p.1 = cc in
    let behind : names_of ps ≡ map (λ q. name q.1) ps = cc in
    let P : Bool → Type 0 = λ b. (b ≡ true → name x ≡ p.0)
    → names_of (cond b ((p.0, x) ∷ ps) (p ∷ put ps (name x) x)) ≡ map (λ q. name q.1) (cond b ((p.0, x) ∷ ps) (p ∷ put ps (name x) x)) in
    (elim (bytes_eq (name x) p.0) as P [
      | true ↦ λ same. λ i. sym (same refl) i ∷ behind i
      | false ↦ λ same. λ i. here i ∷ put_keyed name ps x behind i
    ]) (bytes_decides (name x) p.0).0

pub added_keyed : {T : Type 0} (name : T → List ℕ) (ps : List (List ℕ × T)) (x : T) → names_of ps ≡ map (λ p. name p.1) ps
    → names_of (ps ++ (name x, x) ∷ []) ≡ map (λ p. name p.1) (ps ++ (name x, x) ∷ [])
added_keyed name [] x keyed = refl
added_keyed name (p ∷ ps) x keyed =
    let here : p.0 ≡ name p.1 = cc in
    let behind : names_of ps ≡ map (λ q. name q.1) ps = cc in
    λ i. here i ∷ added_keyed name ps x behind i
