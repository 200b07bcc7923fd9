-- Which values the rule of a scalar takes (GraphQL, October 2021, section 3.5).
use Rattle.std.specs.Prelude.{◌≡◌, ℕ, ℤ, pos, ◌||◌, Bool, true, false, List, [], ◌∷◌, codes, refl}
pub use Rattle.gql_base.specs.Number.{is_between, is_int32}
use Rattle.gql_base.specs.declared.value.Value.{Value, out-Value}
use Rattle.gql_base.specs.declared.value.Value.TheOpen.{Value-F}
use Rattle.gql_schema.specs.NameSet.{is_among}
use Rattle.gql_schema.specs.declared.scalar_rule.ScalarRule.{ScalarRule}
use Rattle.gql_schema.specs.declared.scalar_rule.ScalarRule.TheVariants as rules

-- a value without what stands inside it
abbrev pub bare : {X : Type 0} → Value-F X → Value-F (Unit {0})
bare Value-F.Null = Value-F.Null
bare (Value-F.Boolean truth) = Value-F.Boolean truth
bare (Value-F.Number number) = Value-F.Number number
bare (Value-F.String text) = Value-F.String text
bare (Value-F.Enum name) = Value-F.Enum name
bare (Value-F.List items) = Value-F.List []
bare (Value-F.Object members) = Value-F.Object []

abbrev pub bare_of : Value → Value-F (Unit {0})
bare_of value = bare (out-Value value)

abbrev pub is_boolean : Value-F (Unit {0}) → Bool
is_boolean (Value-F.Boolean truth) = true
is_boolean _ = false

-- whether it is a whole number that passes a test
abbrev pub is_number : (ℤ → Bool) → Value-F (Unit {0}) → Bool
is_number test (Value-F.Number number) = test number
is_number test _ = false

-- whether it is a string that passes a test
abbrev pub is_string : (List ℕ → Bool) → Value-F (Unit {0}) → Bool
is_string test (Value-F.String text) = test text
is_string test _ = false

abbrev pub always : {A : Type 0} → A → Bool
always x = true

abbrev pub takes_bare : ScalarRule → Value-F (Unit {0}) → Bool
takes_bare rules.Any value = true
takes_bare rules.Bool value = is_boolean value
takes_bare rules.Int value = is_number is_int32 value
takes_bare rules.Text value = is_string always value
takes_bare rules.Id value = is_string always value || is_number always value
takes_bare (rules.IntBetween least most) value = is_number (is_between least most) value
takes_bare (rules.OneOf texts) value = is_string (λ text. is_among text texts) value

-- whether a scalar of this rule takes a value
abbrev pub takes : ScalarRule → Value → Bool
takes rule value = takes_bare rule (bare_of value)

-- the last whole number of 32 bits, and the first after it
pub last_int : takes_bare rules.Int (Value-F.Number (pos 2147483647)) ≡ true
last_int = refl

pub past_int : takes_bare rules.Int (Value-F.Number (pos 2147483648)) ≡ false
past_int = refl

pub other_string : takes_bare (rules.OneOf (codes "A" ∷ [])) (Value-F.String (codes "B")) ≡ false
other_string = refl
