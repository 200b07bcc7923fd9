-- Values under keys, in order of insertion. A key is a number.
use Rattle.std.specs.Prelude.{ℕ, List, [], ◌∷◌, Option, None, nat_eq}
use Rattle.std.specs.Option.{option_or}
use Rattle.gql_base.specs.Pairs.{under_by, put_by}

-- the value of the first pair of this key
abbrev pub under_key : {T : Type 0} → ℕ → List (ℕ × T) → Option T
under_key key ps = under_by nat_eq key ps

-- the pairs once this key has this value: a key that is there keeps its place, another goes to the
-- end
abbrev pub put_key : {T : Type 0} → List (ℕ × T) → ℕ → T → List (ℕ × T)
put_key ps key value = put_by nat_eq ps key value

-- the pairs once each key of the others has its value, one after another
abbrev pub put_keys : {T : Type 0} → List (ℕ × T) → List (ℕ × T) → List (ℕ × T)
put_keys ps [] = ps
put_keys ps (q ∷ qs) = put_keys (put_key ps q.0 q.1) qs

-- the value of a key in the first layer that has the key
abbrev pub found : {T : Type 0} → ℕ → List (List (ℕ × T)) → Option T
found key [] = None
found key (layer ∷ layers) = option_or (under_key key layer) (found key layers)
