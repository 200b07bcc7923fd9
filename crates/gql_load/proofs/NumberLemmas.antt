-- Numbers in order, one after another.
use Rattle.std.proofs.Common.{◌≡◌, ℕ, suc, ◌+◌, List, [], ◌∷◌, ◌++◌, map, refl, ap, sym, ◌∙◌, arith}
use Rattle.std.proofs.lemmas.List.{map_push}
use Rattle.gql_load.specs.Numbers.{numbers}

numbers-none : numbers 0 ≡ []
unfolding numbers
numbers-none = refl

numbers-suc : (n : ℕ) → numbers (suc n) ≡ numbers n ++ n ∷ []
unfolding numbers
numbers-suc n = refl

module _ {X : Type 0} (f : ℕ → X) where
  -- before the first number there is none
  pub mapped_none : [] ≡ map f (numbers 0)
  mapped_none = ap (map f) (sym numbers-none)

  -- what stands for the numbers so far, and then for the next one
  pub mapped_more : (xs : List X) (n : ℕ) → xs ≡ map f (numbers n) → xs ++ f n ∷ [] ≡ map f (numbers (n + 1))
  mapped_more xs n so_far =
      let next : suc n ≡ n + 1 = omega arith in
      ap (λ ys. ys ++ f n ∷ []) so_far ∙ sym (map_push f (numbers n) n) ∙ ap (map f) (sym (numbers-suc n)) ∙ ap (λ m. map f (numbers m)) next
