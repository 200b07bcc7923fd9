-- Lists that may be told.
use Rattle.std.specs.Prelude.{List, ◌++◌, Option, option_map}

-- what is told, with more after it; where nothing is told, nothing is told after
abbrev pub with_more : {A : Type 0} → Option (List A) → List A → Option (List A)
with_more told more = option_map (λ before. before ++ more) told
