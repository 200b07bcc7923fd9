-- The value of a JSON value that was read: the same value, where each of its numbers is a whole
-- number from -2^63 to 2^64-1, and otherwise the place of the first that isn't.
use Rattle.std.specs.Prelude.{ℕ, ◌||◌, pos, Bool, false, List, [], ◌∷◌, ◌++◌, length, codes}
use Rattle.std.specs.Prelude.{if◌then◌else◌, Option, Result, Ok, Err}
use Rattle.std.specs.Result.{result_ok}
use Rattle.std.specs.Str.{bytes_eq}
use Rattle.serde_json.specs.Data.{Num, unsigned, negative, float, Data, null, boolean, number}
use Rattle.serde_json.specs.Data.{string, array, object}
use Rattle.serde_json.specs.Data.{Items, no_items, item, Members, no_members, member}
use Rattle.gql_base.specs.Letters.{is_name}
use Rattle.gql_base.specs.Pairs.{put}
use Rattle.gql_base.specs.declared.path_segment.PathSegment.{PathSegment}
use Rattle.gql_base.specs.declared.path_segment.PathSegment.TheVariants.{Field, Index}
use Rattle.gql_base.specs.declared.read_json.EnumForm.{EnumForm}
use Rattle.gql_base.specs.declared.read_json.EnumForm.TheVariants.{Plain, Marked}
use Rattle.gql_base.specs.declared.value.Value.{Value}
use Rattle.gql_base.specs.declared.value.Value.TheVariants as value

-- what was read, or the steps from outside to the first bad place
abbrev pub Reading : Type 0 → Type 0
Reading A = Result A (List PathSegment)

-- a reading of what lies behind one step, seen from before it
abbrev pub inside : {A : Type 0} → PathSegment → Reading A → Reading A
inside step (Ok read) = Ok read
inside step (Err place) = Err (step ∷ place)

-- what is read next, once this one is there
abbrev pub and_then : {A B : Type 0} → Reading A → (A → Reading B) → Reading B
and_then (Ok read) next = next read
and_then (Err place) next = Err place

abbrev pub number_in : Num → Reading Value
number_in (unsigned n) = Ok (value.Number (pos n))
number_in (negative z) = Ok (value.Number z)
number_in (float x) = Err []

-- the name that marks an enum: `{"$enum":"A"}`
abbrev pub enum_mark : List ℕ
enum_mark = codes "$enum"

abbrev pub has_mark : Members → Bool
has_mark no_members = false
has_mark (member name json members) = bytes_eq name enum_mark || has_mark members

-- whether an object is to be an enum
abbrev pub is_marked : EnumForm → Members → Bool
is_marked Plain _ = false
is_marked Marked members = has_mark members

-- the text under the mark is a name
abbrev pub enum_text_in : Data → Reading Value
enum_text_in (string text) = if is_name text then Ok (value.Enum text) else Err []
enum_text_in _ = Err []

-- a marked object has no other member
abbrev pub enum_in : Members → Reading Value
enum_in (member name json no_members) = inside (Field name) (enum_text_in json)
enum_in _ = Err []

-- the members of an object stand in byte order of their names, as `serde_json` has them
abbrev mutual
  pub read_in : EnumForm → Data → Reading Value
  read_in form null = Ok value.Null
  read_in form (boolean truth) = Ok (value.Boolean truth)
  read_in form (number n) = number_in n
  read_in form (string text) = Ok (value.String text)
  read_in form (array items) = and_then (items_in form [] items) (λ read. Ok (value.List read))
  read_in form (object members) =
      if is_marked form members then enum_in members
      else and_then (members_in form [] members) (λ read. Ok (value.Object read))

  -- after the items that were read before
  pub items_in : EnumForm → List Value → Items → Reading (List Value)
  items_in form earlier no_items = Ok earlier
  items_in form earlier (item json items) =
      and_then (inside (Index (length earlier)) (read_in form json))
      (λ read. items_in form (earlier ++ read ∷ []) items)

  pub members_in : EnumForm → List (List ℕ × Value) → Members → Reading (List (List ℕ × Value))
  members_in form earlier no_members = Ok earlier
  members_in form earlier (member name json members) =
      and_then (inside (Field name) (read_in form json))
      (λ read. members_in form (put earlier name read) members)

-- the value, if it is one
abbrev pub value_of : Data → Option Value
value_of json = result_ok (read_in Plain json)
