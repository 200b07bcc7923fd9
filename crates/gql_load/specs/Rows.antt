-- The rows of the constant list.
use Rattle.std.specs.Prelude.{ℕ, ◌%◌, pos, List, [], ◌∷◌, ◌++◌, map, codes}
use Rattle.std.specs.Fmt.{decimal}
use Rattle.gql_base.specs.declared.value.Value.{Value}
use Rattle.gql_base.specs.declared.value.Value.TheVariants as value
use Rattle.gql_load.specs.Numbers.{numbers}

-- the tag of the row at a place
abbrev pub load_tag : ℕ → List ℕ
load_tag place = codes "t" ++ decimal (place % 7)

-- the row at a place: `{"id":i,"tag":"tK"}`
abbrev pub load_row : ℕ → Value
load_row place =
    value.Object
    ((codes "id", value.Number (pos place)) ∷ (codes "tag", value.String (load_tag place)) ∷ [])

-- so many rows
abbrev pub load_rows : ℕ → List Value
load_rows count = map load_row (numbers count)
