-- What was asked of an object, one name after another.
use Rattle.std.proofs.Common.{◌≡◌, ℕ, List, [], ◌∷◌, ◌++◌, ap, ◌∙◌}

-- one more name was asked after those that are known
pub also_asked : (name : List ℕ) {before middle later : List (List ℕ)} → later ≡ middle ++ name ∷ [] → middle ≡ before → later ≡ before ++ name ∷ []
also_asked name now earlier = now ∙ ap (λ names. names ++ name ∷ []) earlier
