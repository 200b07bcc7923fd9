-- What a union shows: its name, and its members in the order in which they were added.
use Rattle.std.specs.Prelude.{ℕ, List}
use Rattle.gql_schema.specs.NameSet.{with_name}
use Rattle.gql_schema.specs.declared.union.Union.{Union}

abbrev pub union_name : Union → List ℕ
union_name union_type = union_type.name

abbrev pub members_of : Union → List (List ℕ)
members_of union_type = union_type.members

abbrev pub new_union : List ℕ → List (List ℕ) → Union
new_union name members = record { name = name; members = members }

-- the same with one more; one that is there changes nothing
abbrev pub with_member : Union → List ℕ → Union
with_member union_type name = record union_type { members = with_name union_type.members name }
