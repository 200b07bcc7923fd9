-- Faults of types in a table, with their texts, computed.
use Rattle.std.proofs.Common.{◌≡◌, ℕ, true, false, List, [], ◌∷◌, Option, Some, None, codes, rules}
use Rattle.gql_base.specs.declared.type_ref.TypeRef.{the_lemmas as type_lemmas}
use Rattle.gql_base.specs.declared.type_ref.TypeRef.TheVariants as refs
use Rattle.gql_base.specs.declared.value.Value.{the_lemmas as value_lemmas}
use Rattle.gql_base.specs.declared.value.Value.TheVariants as values
use Rattle.gql_schema.specs.Faults.{fault_of}
use Rattle.gql_schema.specs.Sound.{ContainsItself, at_once, further}
use Rattle.gql_schema.specs.TableReading.{TypeTable}
use Rattle.gql_schema.specs.declared.schema_error.SchemaError.{SchemaError}
use Rattle.gql_schema.proofs.Example.{a_field, a_union, an_enum, an_input, an_object, example, input, named, needed, number}

abbrev told : ℕ → List ℕ → Option SchemaError
told rule text = Some (record { rule = rule; text = text })

-- each rule, broken at one place
a_type_that_isnt_there : fault_of example false (an_object (codes "Q") (a_field (codes "f") (named (codes "Nope")) [] ∷ []) []) ≡ told 1 (codes "Type \"Nope\" not found")
a_type_that_isnt_there = search (rules, value_lemmas, type_lemmas)

an_input_at_an_output : fault_of example false (an_object (codes "Q") (a_field (codes "f") (named (codes "In")) [] ∷ []) []) ≡ told 2 (codes "Type \"In\" cannot be used here")
an_input_at_an_output = search (rules, value_lemmas, type_lemmas)

a_doubled_non_null : fault_of example false (an_object (codes "Q") (a_field (codes "f") (refs.NonNull (needed (codes "Int"))) [] ∷ []) []) ≡ told 3 (codes "Type \"Int!!\" is doubly non-null")
a_doubled_non_null = search (rules, value_lemmas, type_lemmas)

a_needed_field_of_a_oneof : fault_of example false (an_input (codes "One") (input (codes "a") (needed (codes "Int")) None ∷ []) true) ≡ told 4 (codes "Field \"One.a\" must be nullable")
a_needed_field_of_a_oneof = search (rules, value_lemmas, type_lemmas)

a_default_in_a_oneof : fault_of example false (an_input (codes "One") (input (codes "a") (named (codes "Int")) (Some (number 1)) ∷ []) true) ≡ told 4 (codes "Field \"One.a\" must not have a default value")
a_default_in_a_oneof = search (rules, value_lemmas, type_lemmas)

a_promise_that_isnt_kept : fault_of example false (an_object (codes "Q") (a_field (codes "f") (named (codes "String")) [] ∷ []) (codes "I" ∷ [])) ≡ told 5 (codes "Object \"Q\" does not satisfy interface \"I\" at field \"f\"")
a_promise_that_isnt_kept = search (rules, value_lemmas, type_lemmas)

an_argument_that_isnt_promised : fault_of example false (an_object (codes "Q") (a_field (codes "f") (named (codes "Int")) (input (codes "a") (needed (codes "Int")) None ∷ []) ∷ []) (codes "I" ∷ [])) ≡ told 5 (codes "Object \"Q\" does not satisfy interface \"I\" at field \"f\"")
an_argument_that_isnt_promised = search (rules, value_lemmas, type_lemmas)

a_member_that_is_no_object : fault_of example false (a_union (codes "V") (codes "U" ∷ [])) ≡ told 6 (codes "Union \"V\" has member \"U\" that is no object")
a_member_that_is_no_object = search (rules, value_lemmas, type_lemmas)

an_input_in_itself : fault_of example true (an_input (codes "Loop") [] false) ≡ told 7 (codes "Input object \"Loop\" contains itself")
an_input_in_itself = search (rules, value_lemmas, type_lemmas)

a_name_without_support : fault_of example false (an_enum (codes "Upload") (codes "A" ∷ [])) ≡ told 8 (codes "Type \"Upload\" is not supported")
a_name_without_support = search (rules, value_lemmas, type_lemmas)

a_default_that_doesnt_fit : fault_of example false (an_input (codes "Q") (input (codes "a") (named (codes "Int")) (Some (values.Boolean true)) ∷ []) false) ≡ told 9 (codes "Default of \"Q.a\" does not fit")
a_default_that_doesnt_fit = search (rules, value_lemmas, type_lemmas)

a_default_of_an_argument : fault_of example false (an_object (codes "Q") (a_field (codes "f") (named (codes "Int")) (input (codes "a") (named (codes "Int")) (Some (values.Boolean true)) ∷ []) ∷ []) []) ≡ told 9 (codes "Default of \"Q.f.a\" does not fit")
a_default_of_an_argument = search (rules, value_lemmas, type_lemmas)

-- two input objects that need each other: each contains itself
abbrev circle : TypeTable
circle =
    (codes "A", an_input (codes "A") (input (codes "b") (needed (codes "B")) None ∷ []) false)
    ∷ (codes "B", an_input (codes "B") (input (codes "a") (needed (codes "A")) None ∷ []) false) ∷ []

both_contain_themselves : ContainsItself circle (an_input (codes "A") (input (codes "b") (needed (codes "B")) None ∷ []) false)
both_contain_themselves =
    further (codes "B") (codes "A") (at_once (codes "B") (search (rules, type_lemmas))) (search (rules, type_lemmas))
