-- Types that stand where others are promised, and the objects that types can be, computed.
use Rattle.std.proofs.Common.{◌≡◌, true, false, [], ◌∷◌, codes, refl, rules}
use Rattle.gql_base.specs.declared.type_ref.TypeRef.{the_lemmas as type_lemmas}
use Rattle.gql_base.specs.declared.type_ref.TypeRef.TheVariants as refs
use Rattle.gql_base.specs.declared.value.Value.{the_lemmas as value_lemmas}
use Rattle.gql_schema.specs.Covariance.{is_covariant}
use Rattle.gql_schema.specs.TableReading.{is_possible, possible}
use Rattle.gql_schema.proofs.Example.{example, named, needed}

-- a type stands where itself, an interface or a union that has it is promised, and not the other way round
covariant_to_itself : is_covariant example (named (codes "O")) (named (codes "O")) ≡ true
covariant_to_itself = search (rules, value_lemmas, type_lemmas)

covariant_to_an_interface : is_covariant example (named (codes "O")) (named (codes "I")) ≡ true
covariant_to_an_interface = search (rules, value_lemmas, type_lemmas)

covariant_to_a_union : is_covariant example (named (codes "O")) (named (codes "U")) ≡ true
covariant_to_a_union = search (rules, value_lemmas, type_lemmas)

no_interface_to_its_object : is_covariant example (named (codes "I")) (named (codes "O")) ≡ false
no_interface_to_its_object = search (rules, value_lemmas, type_lemmas)

covariant_to_no_other_object : is_covariant example (named (codes "O")) (named (codes "P")) ≡ false
covariant_to_no_other_object = search (rules, value_lemmas, type_lemmas)

-- a non-null stands where a nullable or a non-null type is promised
non_null_to_nullable : is_covariant example (needed (codes "O")) (named (codes "I")) ≡ true
non_null_to_nullable = search (rules, value_lemmas, type_lemmas)

non_null_to_non_null : is_covariant example (needed (codes "O")) (needed (codes "I")) ≡ true
non_null_to_non_null = search (rules, value_lemmas, type_lemmas)

nullable_to_no_non_null : is_covariant example (named (codes "O")) (needed (codes "O")) ≡ false
nullable_to_no_non_null = search (rules, value_lemmas, type_lemmas)

-- lists stand by what is in them
lists_to_lists : is_covariant example (refs.List (named (codes "O"))) (refs.List (named (codes "I"))) ≡ true
lists_to_lists = search (rules, value_lemmas, type_lemmas)

lists_of_non_null : is_covariant example (refs.List (needed (codes "O"))) (refs.List (named (codes "I"))) ≡ true
lists_of_non_null = search (rules, value_lemmas, type_lemmas)

lists_to_no_item : is_covariant example (refs.List (named (codes "O"))) (named (codes "O")) ≡ false
lists_to_no_item = search (rules, value_lemmas, type_lemmas)

items_to_no_list : is_covariant example (named (codes "O")) (refs.List (named (codes "O"))) ≡ false
items_to_no_list = search (rules, value_lemmas, type_lemmas)

-- the objects that a type can be, in the order of their registration
possible_of_a_union : possible example (codes "U") ≡ codes "O" ∷ codes "P" ∷ []
possible_of_a_union = refl

possible_of_an_interface : possible example (codes "I") ≡ codes "O" ∷ []
possible_of_an_interface = refl

possible_of_an_object : possible example (codes "P") ≡ codes "P" ∷ []
possible_of_an_object = refl

possible_of_an_enum : possible example (codes "E") ≡ []
possible_of_an_enum = refl

is_possible_of_a_union : is_possible example (codes "U") (codes "P") ≡ true
is_possible_of_a_union = refl

is_no_possible_of_an_interface : is_possible example (codes "I") (codes "P") ≡ false
is_no_possible_of_an_interface = refl
