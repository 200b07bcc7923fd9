-- Sums of numbers of 64 bits with a sign.
use Rattle.std.proofs.Common.{◌≡◌, ◌<◌, ℕ, suc, ◌+◌, ◌*◌, ◌^◌, ℤ, pos, ◌+ℤ◌, ◌≤ℤ◌, neg_ℤ, List, ◌∷◌, length, drop, drop-cons, get_or, Some, option_and_then, FitsSigned, sym, ap, ◌∙◌, add-one, arith}
use Rattle.std.proofs.lemmas.Int.{ints}
use Rattle.std.specs.Int.{w64}
use Rattle.gql_base.specs.declared.value.Value.{Value}
use Rattle.gql_form.specs.declared.path.Path.{Path}
use Rattle.gql_bench.specs.Sum.{number_at, sum_behind}

-- the sum of so many numbers of 64 bits with a sign
pub record IsSmall (total : ℤ) (count : ℕ) : Type 0 where
  pub low : neg_ℤ (pos (count * 2 ^ 63)) ≤ℤ total
  pub high : total ≤ℤ pos (count * 2 ^ 63)

-- one more number
small_more : (total number more : ℤ) (count : ℕ) → more ≡ total +ℤ number → IsSmall total count → FitsSigned w64 number → IsSmall more (count + 1)
small_more total number more count added small fits = record { low = omega (arith, ints); high = omega (arith, ints) }

-- a loop that adds the number at one more path
module _ (arguments : List (List ℕ × Value)) (paths : List Path) (k : ℕ) (path : Path) (total number more : ℤ) where
  next_left : k < length paths → path ≡ get_or paths k path → drop k paths ≡ path ∷ drop (k + 1) paths
  next_left within is = drop-cons paths k path within ∙ ap (λ p. p ∷ drop (suc k) paths) (sym is) ∙ ap (λ n. path ∷ drop n paths) (sym (add-one k))

  pub total_more : k < length paths → path ≡ get_or paths k path → number_at arguments path ≡ Some number → more ≡ total +ℤ number → FitsSigned w64 number
      → IsSmall total k → sum_behind arguments (pos 0) paths ≡ sum_behind arguments total (drop k paths)
      → (sum_behind arguments (pos 0) paths ≡ sum_behind arguments more (drop (k + 1) paths)) × IsSmall more (k + 1)
  total_more within is found added fits small so_far = (
    so_far ∙ ap (sum_behind arguments total) (next_left within is)
        ∙ ap (option_and_then (λ n. sum_behind arguments (total +ℤ n) (drop (k + 1) paths))) found
        ∙ ap (λ t. sum_behind arguments t (drop (k + 1) paths)) (sym added),
    small_more total number more k added small fits,
  )
