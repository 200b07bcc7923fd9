-- What a bench answers: plain JSON, or one of the special objects, which count at the top, in
-- `$list` and under `of`.
use Rattle.std.specs.Prelude.{ℕ, Bool, false, ◌&&◌, ◌||◌, List, [], ◌∷◌, ◌++◌, length, codes, Ok}
use Rattle.std.specs.Prelude.{Err, if◌then◌else◌}
use Rattle.std.specs.Str.{bytes_eq}
use Rattle.serde_json.specs.Data.{Data, null, boolean, number, string, array, object, Items}
use Rattle.serde_json.specs.Data.{no_items, item, Members, no_members, member}
use Rattle.gql_base.specs.ReadJson.{Reading, inside, read_in}
use Rattle.gql_base.specs.declared.path_segment.PathSegment.TheVariants.{Field, Index}
use Rattle.gql_base.specs.declared.read_json.EnumForm.TheVariants.{Plain}
use Rattle.gql_base.specs.declared.value.Value.TheVariants as value
use Rattle.gql_form.specs.declared.answered.Answered as answered
use Rattle.gql_form.specs.declared.answered.Answered.{Answered}
use Rattle.gql_form.specs.Plain.{name_of, signed_of, ◌>>=◌}

-- `{"$own":n}`, `{"$list":L}`, `{"$type":"T","of":A}` and `{"$enum":"A"}`
abbrev pub own_word : List ℕ
own_word = codes "$own"

abbrev pub list_word : List ℕ
list_word = codes "$list"

abbrev pub type_word : List ℕ
type_word = codes "$type"

abbrev pub enum_word : List ℕ
enum_word = codes "$enum"

abbrev pub of_word : List ℕ
of_word = codes "of"

abbrev pub is_special : List ℕ → Bool
is_special name =
    bytes_eq name own_word || bytes_eq name list_word || bytes_eq name type_word
    || bytes_eq name enum_word

-- whether an object has a member that makes it special
abbrev pub has_special : Members → Bool
has_special no_members = false
has_special (member name json members) = is_special name || has_special members

-- a value that is no special object
abbrev pub plain_of : Data → Reading Answered
plain_of json = do
  value ← read_in Plain json
  Ok (answered.Value value)

-- a value of the caller's type
abbrev pub own_of : Data → Reading Answered
own_of json = do
  own ← signed_of json
  Ok (answered.Own own)

-- an enum
abbrev pub enum_of : Data → Reading Answered
enum_of json = do
  name ← name_of json
  Ok (answered.Value (value.Enum name))

-- a type without its value: the value's place is bad
abbrev pub without_of : List ℕ → Data → Reading Answered
without_of name json = do
  _ ← inside (Field name) (name_of json)
  Err (Field of_word ∷ [])

abbrev mutual
  pub answered_of : Data → Reading Answered
  answered_of null = plain_of null
  answered_of (boolean truth) = plain_of (boolean truth)
  answered_of (number n) = plain_of (number n)
  answered_of (string text) = plain_of (string text)
  answered_of (array items) = plain_of (array items)
  answered_of (object members) =
      if has_special members then special_of members else plain_of (object members)

  -- an object with a special member has no other but `of` beside `$type`
  pub special_of : Members → Reading Answered
  special_of no_members = Err []
  special_of (member name json no_members) =
      if bytes_eq name own_word then inside (Field name) (own_of json)
      else (if bytes_eq name list_word then inside (Field name) (parts_of json)
      else (if bytes_eq name enum_word then inside (Field name) (enum_of json)
      else without_of name json))
  special_of (member name json (member other inner no_members)) =
      if bytes_eq name type_word && bytes_eq other of_word then (do
        ty ← inside (Field type_word) (name_of json)
        value ← inside (Field of_word) (answered_of inner)
        Ok (answered.Typed ty value))
      else Err []
  special_of (member name json (member other inner (member third more _))) = Err []

  pub parts_of : Data → Reading Answered
  parts_of null = Err []
  parts_of (boolean truth) = Err []
  parts_of (number n) = Err []
  parts_of (string text) = Err []
  parts_of (array items) = do
    parts ← parts_behind [] items
    Ok (answered.List parts)
  parts_of (object _) = Err []

  -- after the parts that were read before
  pub parts_behind : List Answered → Items → Reading (List Answered)
  parts_behind earlier no_items = Ok earlier
  parts_behind earlier (item json items) = do
    part ← inside (Index (length earlier)) (answered_of json)
    parts_behind (earlier ++ part ∷ []) items

-- a type, and the value under it
abbrev pub typed_of : Data → Data → Reading Answered
typed_of json inner = do
  ty ← inside (Field type_word) (name_of json)
  value ← inside (Field of_word) (answered_of inner)
  Ok (answered.Typed ty value)
