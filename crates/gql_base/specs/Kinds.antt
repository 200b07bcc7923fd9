-- A value as one of its kinds (GraphQL, October 2021, section 2.9), where it is of that kind.
use Rattle.std.specs.Prelude.{ℕ, ℤ, Bool, true, false, List, [], Option, Some, None}
use Rattle.std.specs.Prelude.{option_and_then}
use Rattle.gql_base.specs.Number.{unsigned_of}
use Rattle.gql_base.specs.declared.value.Value.{Value, out-Value}
use Rattle.gql_base.specs.declared.value.Value.TheOpen.{Value-F}

abbrev pub null_here : Value-F Value → Bool
null_here Value-F.Null = true
null_here _ = false

-- whether it is null
abbrev pub is_null : Value → Bool
is_null value = null_here (out-Value value)

abbrev pub boolean_here : Value-F Value → Option Bool
boolean_here (Value-F.Boolean truth) = Some truth
boolean_here _ = None

-- the truth value
abbrev pub boolean_of : Value → Option Bool
boolean_of value = boolean_here (out-Value value)

abbrev pub number_here : Value-F Value → Option ℤ
number_here (Value-F.Number number) = Some number
number_here _ = None

-- the whole number
abbrev pub number_of : Value → Option ℤ
number_of value = number_here (out-Value value)

-- the whole number that isn't negative
abbrev pub unsigned_number_of : Value → Option ℕ
unsigned_number_of value = option_and_then unsigned_of (number_of value)

abbrev pub string_here : Value-F Value → Option (List ℕ)
string_here (Value-F.String text) = Some text
string_here _ = None

-- the text of a string
abbrev pub string_of : Value → Option (List ℕ)
string_of value = string_here (out-Value value)

abbrev pub enum_name_here : Value-F Value → Option (List ℕ)
enum_name_here (Value-F.String text) = Some text
enum_name_here (Value-F.Enum name) = Some name
enum_name_here _ = None

-- the name of an enum's value, which may stand in a string
abbrev pub enum_name_of : Value → Option (List ℕ)
enum_name_of value = enum_name_here (out-Value value)

abbrev pub list_here : Value-F Value → Option (List Value)
list_here (Value-F.List items) = Some items
list_here _ = None

-- the items of a list
abbrev pub list_of : Value → Option (List Value)
list_of value = list_here (out-Value value)

abbrev pub object_here : Value-F Value → Option (List (List ℕ × Value))
object_here (Value-F.Object members) = Some members
object_here _ = None

-- the members of an object
abbrev pub object_of : Value → Option (List (List ℕ × Value))
object_of value = object_here (out-Value value)

abbrev pub no_members : Option (List (List ℕ × Value)) → List (List ℕ × Value)
no_members None = []
no_members (Some members) = members

-- the members of an object, and of any other value none (section 6.1.2)
abbrev pub members_of_value : Value → List (List ℕ × Value)
members_of_value value = no_members (object_of value)
