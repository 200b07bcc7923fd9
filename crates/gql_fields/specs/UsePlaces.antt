-- Which places of a document matter to the uses of variables: those with a variable in their
-- arguments, and spreads.
use Rattle.std.specs.Prelude.{ℕ, Bool, true, false, ◌&&◌, not, List, [], ◌∷◌, map}
use Rattle.std.specs.Prelude.{if◌then◌else◌}
use Rattle.std.specs.List.{flat_map, list_all}
use Rattle.gql_doc.specs.declared.document.Argument.{Argument}
use Rattle.gql_doc.specs.declared.document.DocValue.{DocValue}
use Rattle.gql_doc.specs.declared.document.DocValue.TheOpen.{DocValue-F}
use Rattle.gql_doc.specs.declared.document.DocValue.TheFolds.{fold-DocValue}
use Rattle.gql_fields.specs.Breaches.{is_condition}
use Rattle.gql_fields.specs.Places.{Place, OnCondition, OnDirective, OnField, OnSpread}

-- whether no variable stands in a value
abbrev pub constant_step : DocValue-F Bool → Bool
constant_step (DocValue-F.Variable name) = false
constant_step (DocValue-F.List items) = list_all (λ constant. constant) items
constant_step (DocValue-F.Object members) = list_all (λ member. member.1) members
constant_step _ = true

abbrev pub is_constant : DocValue → Bool
is_constant = fold-DocValue Bool constant_step

-- in the items of a list, and in the members of an object
abbrev pub items_constant : List DocValue → Bool
items_constant items = list_all (λ constant. constant) (map is_constant items)

abbrev pub constant_member : List ℕ × DocValue → List ℕ × Bool
constant_member (name, value) = (name, is_constant value)

abbrev pub members_constant : List (List ℕ × DocValue) → Bool
members_constant members = list_all (λ member. member.1) (map constant_member members)

-- in arguments
abbrev pub are_constant : List Argument → Bool
are_constant arguments = list_all (λ argument. is_constant argument.value.node) arguments

-- whether a variable stands in the arguments of a field, of `@skip` or of `@include`, or a fragment
-- is spread
abbrev pub matters : Place → Bool
matters (OnField field) = not (are_constant field.arguments)
matters (OnSpread pos name) = true
matters (OnCondition pos name) = false
matters (OnDirective selects directive) =
    (selects && is_condition directive.node) && not (are_constant directive.node.arguments)

abbrev pub kept_at : Place → List Place
kept_at place = if matters place then place ∷ [] else []

-- those of some places that matter
abbrev pub kept : List Place → List Place
kept places = flat_map kept_at places
