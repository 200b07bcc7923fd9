-- Occurrences of a field behind references, and the one field that stands for them.
use Rattle.std.proofs.Common.{◌≡◌, List, [], ◌∷◌, ◌++◌, refl, ap}
use Rattle.std.specs.Borrow.{Bor}
use Rattle.gql_doc.specs.declared.document.Field.{Field}
use Rattle.gql_doc.specs.declared.document.Positioned.{Positioned}
use Rattle.gql_select.specs.Behind.{all_behind}
use Rattle.gql_select.specs.Documents.{both, with_others}

-- one more occurrence after the others
pub with_one_more : (f : Positioned Field) (gs : List (Positioned Field)) (g : Positioned Field)
    → with_others f (gs ++ g ∷ []) ≡ both (with_others f gs) g
with_one_more f [] g = refl
with_one_more f (x ∷ gs) g = with_one_more (both f x) gs g

-- values behind references, one list after another
pub behind_append : {X : Type 0} (one other : List (Bor X)) → all_behind (one ++ other) ≡ all_behind one ++ all_behind other
behind_append [] other = refl
behind_append (x ∷ one) other = ap (λ ys. x.now ∷ ys) (behind_append one other)
