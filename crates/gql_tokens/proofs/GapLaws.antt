-- What is ignored before a token is determined.
use Rattle.std.proofs.Common.{◌≡◌, ℕ, Bool, true, false, List, [], ◌∷◌, ◌++◌, refl, sym, arith, subst}
use Rattle.std.proofs.lemmas.Bool.Decides.{nat_tests}
use Rattle.gql_tokens.specs.Gap.{goes_on, Passes, IsGap}
use Rattle.gql_tokens.proofs.Lists.{head_is, tail_is, with_head, begins_not}

-- what is ignored goes on with what is ignored before it
passes_on : (b : Bool) (c : ℕ) (d : Bool) → Passes b c d → goes_on b c ≡ true
passes_on false c false h = grind (arith, nat_tests)
passes_on false c true h = grind (arith, nat_tests)
passes_on true c true h = grind (arith, nat_tests)
passes_on true c false h = grind (arith, nat_tests)

passes_unique : (b : Bool) (c : ℕ) (d e : Bool) → Passes b c d → Passes b c e → d ≡ e
passes_unique b c false false h k = refl
passes_unique b c true true h k = refl
passes_unique false c false true h k = absurd (grind (arith, nat_tests))
passes_unique false c true false h k = absurd (grind (arith, nat_tests))
passes_unique true c false true h k = absurd (grind (arith, nat_tests))
passes_unique true c true false h k = absurd (grind (arith, nat_tests))

one_stops : (b : Bool) (c : ℕ) (g x rest : List ℕ) → IsGap b [] rest → IsGap b (c ∷ g) x → rest ≡ c ∷ g ++ x → ⊥
one_stops b c g x rest stops goes e =
    let h = begins_not (goes_on b) rest c (g ++ x) stops e in let t = passes_on b c goes.0 goes.1 in cc

-- text is ignored in one way
pub gap_unique : (b : Bool) (g k x y : List ℕ) → IsGap b g x → IsGap b k y → g ++ x ≡ k ++ y → (g ≡ k) × (x ≡ y)
gap_unique b [] [] x y p q e = (refl, e)
gap_unique b [] (d ∷ k) x y p q e = absurd (one_stops b d k y x p q e)
gap_unique b (c ∷ g) [] x y p q e = absurd (one_stops b c g x y q p (sym e))
gap_unique b (c ∷ g) (d ∷ k) x y p q e =
    let same = passes_unique b d p.0 q.0 (subst (λ a. Passes b a p.0) (head_is e) p.1) q.1 in
    with_head (head_is e) (gap_unique q.0 g k x y (subst (λ a. IsGap a g x) same p.2) q.2 (tail_is e))
