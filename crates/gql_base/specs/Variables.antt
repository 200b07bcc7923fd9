-- How `Variables` keeps its members: in an object that others may hold, too, or, where there is no object, as none.
use Rattle.std.specs.Prelude.{List, ℕ}
use Rattle.gql_base.specs.declared.value.Value.{Value}
use Rattle.gql_base.specs.declared.variables.Kept.{Kept}
use Rattle.gql_base.specs.declared.variables.Kept.TheVariants as kept

-- the members
abbrev pub kept_members : Kept → List (List ℕ × Value)
kept_members (kept.Object members) = members
kept_members (kept.None members) = members
