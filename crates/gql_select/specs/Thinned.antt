-- Lists without some later repetitions.
use Rattle.std.specs.Prelude.{List, [], ◌∷◌, ◌++◌}
use Rattle.std.specs.List.{Contains}

-- the second list is the first without some items that stand before, too
pub data Thinned (X : Type 0) : List X → List X → Type 0 where
  -- nothing
  empty : Thinned X [] []
  -- one more item stays
  stays : {xs ys : List X} (x : X) → Thinned X xs ys → Thinned X (xs ++ x ∷ []) (ys ++ x ∷ [])
  -- one more stands before, and is left out
  goes : {xs ys : List X} (x : X) → Thinned X xs ys → Contains ys x → Thinned X (xs ++ x ∷ []) ys
