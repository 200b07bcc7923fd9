-- The proper prefixes of a path, and those of its longest one.
use Rattle.std.proofs.Common.{◌≡◌, ℕ, zero, suc, ◌-◌, ◌<◌, ◌≤◌, List, [], ◌∷◌, take, length, refl, ap, sym, arith, length-take-le, subst}
use Rattle.std.proofs.lemmas.List.{take-take}
use Rattle.gql_request.specs.Path.{prefixes_from, proper_prefixes}

-- the prefixes of a prefix are those of the whole
pub prefixes_from-take : {A : Type 0} (n m : ℕ) (xs : List A) → n ≤ m → prefixes_from n (take m xs) ≡ prefixes_from n xs
prefixes_from-take zero m xs within = refl
prefixes_from-take (suc n) m xs within =
    let first = take-take (suc n) m xs within in
    let rest = prefixes_from-take n m xs (omega arith) in
    λ i. first i ∷ rest i

-- the longest proper prefix comes first, and then those of it
pub proper_prefixes_step : {A : Type 0} (xs : List A) → 1 < length xs
    → proper_prefixes xs ≡ take (length xs - 1) xs ∷ proper_prefixes (take (length xs - 1) xs)
proper_prefixes_step [] long = absurd (omega arith)
proper_prefixes_step (x ∷ []) long = absurd (omega arith)
proper_prefixes_step {A} (x ∷ y ∷ ys) long =
    let xs : List A = x ∷ y ∷ ys in
    let longest : length xs - 1 ≡ suc (length ys) = omega arith in
    let short : length (take (suc (length ys)) xs) - 1 ≡ length ys = omega (arith, length-take-le (suc (length ys)) xs (omega arith)) in
    let P : ℕ → Type 0 = λ n. prefixes_from n xs ≡ take n xs ∷ prefixes_from (length (take n xs) - 1) (take n xs) in
    let Q : ℕ → Type 0 = λ n. prefixes_from (suc (length ys)) xs ≡ take (suc (length ys)) xs ∷ prefixes_from n (take (suc (length ys)) xs) in
    subst P (sym longest) (subst Q (sym short)
    (ap (λ ps. take (suc (length ys)) xs ∷ ps) (sym (prefixes_from-take (length ys) (suc (length ys)) xs (omega arith)))))

-- one segment alone has none
pub proper_prefixes_none : {A : Type 0} (xs : List A) → length xs < 2 → proper_prefixes xs ≡ []
proper_prefixes_none [] short = refl
proper_prefixes_none (x ∷ []) short = refl
proper_prefixes_none (x ∷ y ∷ ys) short = absurd (omega arith)
