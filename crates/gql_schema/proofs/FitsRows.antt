-- Values and the types that they fit, computed.
use Rattle.std.proofs.Common.{◌≡◌, true, false, [], ◌∷◌, codes, rules}
use Rattle.gql_base.specs.declared.type_ref.TypeRef.{the_lemmas as type_lemmas}
use Rattle.gql_base.specs.declared.type_ref.TypeRef.TheVariants as refs
use Rattle.gql_base.specs.declared.value.Value.{the_lemmas as value_lemmas}
use Rattle.gql_base.specs.declared.value.Value.TheVariants as values
use Rattle.gql_schema.specs.Fits.{fits}
use Rattle.gql_schema.proofs.Example.{example, named, needed, number}

-- each rule of a scalar, at what it takes and what it doesn't
any_takes_a_list : fits example (values.List (number 1 ∷ [])) (named (codes "Any")) ≡ true
any_takes_a_list = search (rules, value_lemmas, type_lemmas)

boolean_takes_truth : fits example (values.Boolean true) (named (codes "Boolean")) ≡ true
boolean_takes_truth = search (rules, value_lemmas, type_lemmas)

boolean_takes_no_number : fits example (number 1) (named (codes "Boolean")) ≡ false
boolean_takes_no_number = search (rules, value_lemmas, type_lemmas)

int_takes_the_last : fits example (number 2147483647) (named (codes "Int")) ≡ true
int_takes_the_last = search (rules, value_lemmas, type_lemmas)

int_takes_none_past_it : fits example (number 2147483648) (named (codes "Int")) ≡ false
int_takes_none_past_it = search (rules, value_lemmas, type_lemmas)

string_takes_a_string : fits example (values.String (codes "a")) (named (codes "String")) ≡ true
string_takes_a_string = search (rules, value_lemmas, type_lemmas)

string_takes_no_enum : fits example (values.Enum (codes "a")) (named (codes "String")) ≡ false
string_takes_no_enum = search (rules, value_lemmas, type_lemmas)

id_takes_a_number : fits example (number 7) (named (codes "ID")) ≡ true
id_takes_a_number = search (rules, value_lemmas, type_lemmas)

id_takes_no_truth : fits example (values.Boolean true) (named (codes "ID")) ≡ false
id_takes_no_truth = search (rules, value_lemmas, type_lemmas)

day_takes_31 : fits example (number 31) (named (codes "Day")) ≡ true
day_takes_31 = search (rules, value_lemmas, type_lemmas)

day_takes_no_32 : fits example (number 32) (named (codes "Day")) ≡ false
day_takes_no_32 = search (rules, value_lemmas, type_lemmas)

side_takes_left : fits example (values.String (codes "left")) (named (codes "Side")) ≡ true
side_takes_left = search (rules, value_lemmas, type_lemmas)

side_takes_no_up : fits example (values.String (codes "up")) (named (codes "Side")) ≡ false
side_takes_no_up = search (rules, value_lemmas, type_lemmas)

-- an enum takes its items
enum_takes_its_item : fits example (values.Enum (codes "A")) (named (codes "E")) ≡ true
enum_takes_its_item = search (rules, value_lemmas, type_lemmas)

enum_takes_no_other : fits example (values.Enum (codes "B")) (named (codes "E")) ≡ false
enum_takes_no_other = search (rules, value_lemmas, type_lemmas)

-- null fits what is nullable
null_fits_a_nullable : fits example values.Null (named (codes "Int")) ≡ true
null_fits_a_nullable = search (rules, value_lemmas, type_lemmas)

null_fits_no_non_null : fits example values.Null (needed (codes "Int")) ≡ false
null_fits_no_non_null = search (rules, value_lemmas, type_lemmas)

-- a value that is no list fits a list of what it fits, at any depth; the items of a list fit the type of the items
one_value_is_a_list : fits example (number 1) (refs.List (named (codes "Int"))) ≡ true
one_value_is_a_list = search (rules, value_lemmas, type_lemmas)

one_value_is_a_list_of_lists : fits example (number 1) (refs.List (refs.List (named (codes "Int")))) ≡ true
one_value_is_a_list_of_lists = search (rules, value_lemmas, type_lemmas)

a_list_of_numbers : fits example (values.List (number 1 ∷ values.Null ∷ [])) (refs.List (named (codes "Int"))) ≡ true
a_list_of_numbers = search (rules, value_lemmas, type_lemmas)

a_list_of_others : fits example (values.List ((values.String (codes "a")) ∷ [])) (refs.List (named (codes "Int"))) ≡ false
a_list_of_others = search (rules, value_lemmas, type_lemmas)

a_list_at_no_list : fits example (values.List (number 1 ∷ [])) (named (codes "Int")) ≡ false
a_list_at_no_list = search (rules, value_lemmas, type_lemmas)

a_flat_list_of_lists : fits example (values.List (number 1 ∷ [])) (refs.List (refs.List (named (codes "Int")))) ≡ true
a_flat_list_of_lists = search (rules, value_lemmas, type_lemmas)

-- a field without a default has to be given; a field that isn't declared may not be
what_is_given_suffices : fits example (values.Object ((codes "a", number 1) ∷ [])) (named (codes "In")) ≡ true
what_is_given_suffices = search (rules, value_lemmas, type_lemmas)

what_is_needed_lacks : fits example (values.Object ((codes "b", number 1) ∷ [])) (named (codes "In")) ≡ false
what_is_needed_lacks = search (rules, value_lemmas, type_lemmas)

an_undeclared_member : fits example (values.Object ((codes "a", number 1) ∷ (codes "c", number 1) ∷ [])) (named (codes "In")) ≡ false
an_undeclared_member = search (rules, value_lemmas, type_lemmas)

a_member_that_doesnt_fit : fits example (values.Object ((codes "a", values.String (codes "a")) ∷ [])) (named (codes "In")) ≡ false
a_member_that_doesnt_fit = search (rules, value_lemmas, type_lemmas)

-- exactly one member, which isn't null
one_of_one : fits example (values.Object ((codes "a", number 1) ∷ [])) (named (codes "One")) ≡ true
one_of_one = search (rules, value_lemmas, type_lemmas)

one_of_two : fits example (values.Object ((codes "a", number 1) ∷ (codes "b", number 1) ∷ [])) (named (codes "One")) ≡ false
one_of_two = search (rules, value_lemmas, type_lemmas)

one_of_none : fits example (values.Object ([])) (named (codes "One")) ≡ false
one_of_none = search (rules, value_lemmas, type_lemmas)

one_of_null : fits example (values.Object ((codes "a", values.Null) ∷ [])) (named (codes "One")) ≡ false
one_of_null = search (rules, value_lemmas, type_lemmas)

-- no value fits a type of outputs, nor one that isn't there
no_output_takes_a_value : fits example (values.Object ([])) (named (codes "O")) ≡ false
no_output_takes_a_value = search (rules, value_lemmas, type_lemmas)

no_unknown_takes_a_value : fits example (number 1) (named (codes "Nope")) ≡ false
no_unknown_takes_a_value = search (rules, value_lemmas, type_lemmas)
