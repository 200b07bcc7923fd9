-- Merged sets: what stands beneath a key on each object of the key's type.
use Rattle.std.specs.Prelude.{◌≡◌, ℕ, List}
use Rattle.gql_select.specs.Collected.{own_selections}
use Rattle.gql_conflicts.specs.Groups.{united}
use Rattle.gql_conflicts.specs.Sets.{HaveSame, sets_at}
use Rattle.gql_conflicts.specs.Walk.{type_tells}
use Rattle.gql_conflicts.specs.declared.conflict.Conflict.{Conflict}
use Rattle.gql_conflicts.specs.declared.group.Group.{Group}
use Rattle.gql_conflicts.specs.declared.known.Known.{Known}
use Rattle.gql_conflicts.specs.declared.merged.Merged.{Merged}
use Rattle.gql_conflicts.specs.declared.reader.Reader.{Reader}

-- the sets that a reader knows by numbers
abbrev pub known_by : Reader → List Known
known_by reader = reader.sets.known.items

-- what a merged set tells
abbrev pub merged_tells : Reader → Merged → List Conflict
merged_tells reader merged =
    type_tells reader merged.left merged.ty.now (sets_at (known_by reader) merged.sets.items)

-- the merged set of a group, beneath which so many levels are left
pub record IsMergedOf (reader : Reader) (left : ℕ) (ty : List ℕ) (group : Group) (merged : Merged)
    : Type 0 where
  pub left_is : merged.left ≡ left
  pub ty_is : merged.ty.now ≡ ty
  pub has : HaveSame (sets_at (known_by reader) merged.sets.items) (own_selections (united group))

-- two merged sets that are looked up alike
pub record IsLike (one other : Merged) : Type 0 where
  pub left_is : one.left ≡ other.left
  pub ty_is : one.ty.now ≡ other.ty.now
  pub sets_are : one.sets.items ≡ other.sets.items
