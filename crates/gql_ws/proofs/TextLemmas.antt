-- A text that was made piece by piece.
use Rattle.std.proofs.Common.{◌≡◌, ℕ, List, ◌++◌, ap, ◌∙◌}
use Rattle.std.proofs.lemmas.List.{append_assoc}

-- what stands between a front and an end
pub enclosed : (front payload end first second third : List ℕ) → first ≡ front → second ≡ first ++ payload → third ≡ second ++ end
    → third ≡ front ++ (payload ++ end)
enclosed front payload end first second third e f g =
    g ∙ (ap (λ (xs : List ℕ). xs ++ end) (f ∙ ap (λ (xs : List ℕ). xs ++ payload) e) ∙ append_assoc front payload end)
