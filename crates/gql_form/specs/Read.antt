-- What a part of a bench's JSON is read as: a value, or the steps from outside to the first bad
-- place.
use Rattle.std.specs.Prelude.{ℕ, ◌==◌, List, [], ◌∷◌, ◌++◌, length, codes, Option, Some, None, Ok}
use Rattle.std.specs.Prelude.{Err, if◌then◌else◌, ⊤}
use Rattle.std.specs.List.{list_any}
use Rattle.std.specs.Str.{bytes_eq}
use Rattle.serde_json.specs.Data.{Data, Items, no_items, item, Members, no_members}
use Rattle.serde_json.specs.Data.{member as one_member}
use Rattle.serde_json.specs.Events.{items_len}
use Rattle.serde_json.specs.Find.{get, at, as_object, as_array}
use Rattle.gql_base.specs.ReadJson.{Reading, inside}
use Rattle.gql_base.specs.Pairs.{put, under}
use Rattle.gql_base.specs.declared.path_segment.PathSegment.TheVariants.{Field, Index}
use Rattle.gql_form.specs.Plain.{needed, name_of, ◌>>=◌}

-- what is read of a part that has to be there
abbrev pub there : {A : Type 0} → (Data → Reading A) → Option Data → Reading A
there read found = needed found >>= read

-- what is read of a part that may be missing
abbrev pub perhaps : {A : Type 0} → (Data → Reading A) → Option Data → Reading (Option A)
perhaps read None = Ok None
perhaps read (Some json) = do
  value ← read json
  Ok (Some value)

-- the member of this name, which has to be there: where it isn't, its place is bad
abbrev pub member : {A : Type 0} → List ℕ → (Data → Reading A) → Data → Reading A
member name read json = do
  _ ← needed (as_object json)
  inside (Field name) (there read (get name json))

-- the member of this name, if there is one
abbrev pub optional : {A : Type 0} → List ℕ → (Data → Reading A) → Data → Reading (Option A)
optional name read json = do
  _ ← needed (as_object json)
  inside (Field name) (perhaps read (get name json))

-- the items of a list, after those that were read before
abbrev pub items_behind : {A : Type 0} → (Data → Reading A) → List A → Items → Reading (List A)
items_behind read earlier no_items = Ok earlier
items_behind read earlier (item json items) = do
  value ← inside (Index (length earlier)) (read json)
  items_behind read (earlier ++ value ∷ []) items

-- a list, each item by this reading
abbrev pub each : {A : Type 0} → (Data → Reading A) → Data → Reading (List A)
each read json = do
  items ← needed (as_array json)
  items_behind read [] items

abbrev pub items_or_none : {A : Type 0} → Option (List A) → List A
items_or_none None = []
items_or_none (Some items) = items

-- the list that is the member of this name; without one it is empty
abbrev pub listed : {A : Type 0} → List ℕ → (Data → Reading A) → Data → Reading (List A)
listed name read json = do
  found ← optional name (each read) json
  Ok (items_or_none found)

-- a name under which nothing was read before: where something was, it is bad
abbrev pub is_fresh : {A : Type 0} → List ℕ → Option A → Reading (List ℕ)
is_fresh name None = Ok name
is_fresh name (Some found) = Err (Field (codes "name") ∷ [])

-- an object under its member `name`, which is bad where a pair of that name was read before
abbrev pub named_item : {A : Type 0} → (Data → Reading A) → List (List ℕ × A) → Data
    → Reading (List ℕ × A)
named_item behind earlier json = do
  name ← member (codes "name") name_of json
  fresh ← is_fresh name (under name earlier)
  value ← behind json
  Ok (fresh, value)

-- the items of a list of named objects, after those that were read before
abbrev pub named_behind : {A : Type 0} → (Data → Reading A) → List (List ℕ × A) → Items
    → Reading (List (List ℕ × A))
named_behind behind earlier no_items = Ok earlier
named_behind behind earlier (item json items) = do
  pair ← inside (Index (length earlier)) (named_item behind earlier json)
  named_behind behind (put earlier pair.0 pair.1) items

-- a list of objects with distinct names, each by its name and then by this reading
abbrev pub named : {A : Type 0} → (Data → Reading A) → Data → Reading (List (List ℕ × A))
named behind json = do
  items ← needed (as_array json)
  named_behind behind [] items

-- the first member of another name is bad; they stand in byte order of their names
abbrev pub first_other : List (List ℕ) → Members → Reading ⊤
first_other names no_members = Ok tt
first_other names (one_member name json members) =
    if list_any (bytes_eq name) names then first_other names members else Err (Field name ∷ [])

-- an object has members of these names alone
abbrev pub only : List (List ℕ) → Data → Reading ⊤
only names json = do
  members ← needed (as_object json)
  first_other names members

-- a value, where an object has members of these names alone
abbrev pub only_then : {A : Type 0} → List (List ℕ) → Data → A → Reading A
only_then names json value = do
  _ ← only names json
  Ok value

abbrev pub with_found : List ℕ → Option Data → List (List ℕ) → List (List ℕ)
with_found name None others = others
with_found name (Some json) others = name ∷ others

-- those of the names that an object has
abbrev pub present : List (List ℕ) → Data → List (List ℕ)
present [] json = []
present (name ∷ names) json = with_found name (get name json) (present names json)

abbrev pub the_only : {A : Type 0} → List A → Option A
the_only [] = None
the_only (value ∷ []) = Some value
the_only (value ∷ other ∷ others) = None

-- the one of these names that an object has; where it has none or two, the object is bad
abbrev pub sole : List (List ℕ) → Data → Reading (List ℕ)
sole names json = do
  _ ← needed (as_object json)
  needed (the_only (present names json))

-- a list of so many items
abbrev pub long : ℕ → Data → Reading ⊤
long count json = do
  items ← needed (as_array json)
  if items_len items == count then Ok tt else Err []

-- the item at a place, counted from 0
abbrev pub nth : {A : Type 0} → ℕ → (Data → Reading A) → Data → Reading A
nth place read json = inside (Index place) (there read (at place json))
