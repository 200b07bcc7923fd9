-- Occurrences that ask the same: it is a matter of their names and of what each argument is given.
use Rattle.std.proofs.Common.{◌≡◌, ℕ, Bool, true, false, ◌&&◌, List, [], ◌∷◌, ◌++◌, Option, Some, None, refl, ap, sym, ◌∙◌, subst}
use Rattle.std.specs.Prelude.{◌⊎◌}
use Rattle.std.proofs.Common.{inl, inr}
use Rattle.std.specs.Bool.{Decides}
use Rattle.std.specs.List.{list_all}
use Rattle.std.specs.Str.{bytes_eq}
use Rattle.std.specs.Cmp.Lexicographic.{bytes_decides}
use Rattle.gql_base.specs.Same.{is_same-decides}
use Rattle.gql_base.specs.declared.value.Value.{Value}
use Rattle.gql_doc.specs.contracts.document.DocValue.{the_row}
use Rattle.gql_doc.specs.declared.document.Argument.{Argument}
use Rattle.gql_doc.specs.declared.document.DocValue.{DocValue}
use Rattle.gql_doc.specs.declared.document.Field.{Field}
use Rattle.gql_doc.specs.declared.document.Positioned.{Positioned}
use Rattle.gql_select.specs.Alike.{alike, arguments_of, name_of, same_arguments, same_written}
use Rattle.gql_select.specs.Constants.{constant, constants, Declared, given}
use Rattle.gql_select.proofs.UnitingLemmas.{either}

pub both_true : (a b : Bool) → a ≡ true → b ≡ true → (a && b) ≡ true
both_true true b p q = q
both_true false b p q = cc

pub parts_true : (a b : Bool) → (a && b) ≡ true → (a ≡ true) × (b ≡ true)
parts_true true b e = (refl, e)
parts_true false b e = cc

same_written-decides : (a b : Option DocValue) → Decides (same_written a b) (a ≡ b)
same_written-decides None None = (λ e. refl, λ e. refl)
same_written-decides None (Some b) = (λ e. cc, λ e. cc)
same_written-decides (Some a) None = (λ e. cc, λ e. cc)
same_written-decides (Some a) (Some b) =
    (λ e. ap Some ((is_same-decides the_row.coded a b).0 e), λ e. let same : a ≡ b = cc in (is_same-decides the_row.coded a b).1 same)

-- an argument is given by no item of a list, or one of the list has its name
given_or_not : (name : List ℕ) (test : Argument → Bool) (xs : List Argument) → list_all test xs ≡ true
    → (given name xs ≡ None) ⊎ ((a : Argument) × (test a ≡ true) × (a.name.node ≡ name))
given_or_not name test [] all = inl refl
given_or_not name test (x ∷ xs) all =
    let parts = parts_true (test x) (list_all test xs) all in
    either (bytes_eq x.name.node name) ((given name (x ∷ xs) ≡ None) ⊎ ((a : Argument) × (test a ≡ true) × (a.name.node ≡ name)))
    (λ e. inr (x, parts.0, (bytes_decides x.name.node name).0 e))
    (λ e. let past : given name (x ∷ xs) ≡ given name xs = rw e refl in
    elim (given_or_not name test xs parts.1) [ inl none ↦ inl (past ∙ none) | inr there ↦ inr there ])

all_append : {A : Type 0} (test : A → Bool) (xs ys : List A) → list_all test (xs ++ ys) ≡ true → (list_all test xs ≡ true) × (list_all test ys ≡ true)
all_append test [] ys all = (refl, all)
all_append test (x ∷ xs) ys all =
    let parts = parts_true (test x) (list_all test (xs ++ ys)) all in
    let rest = all_append test xs ys parts.1 in
    (both_true (test x) (list_all test xs) parts.0 rest.0, rest.1)

-- where two lists of arguments are the same, each argument is given the same
pub given_same : (one other : List Argument) → same_arguments one other ≡ true → (name : List ℕ) → given name one ≡ given name other
given_same one other same name =
    let test : Argument → Bool = λ argument. same_written (given argument.name.node one) (given argument.name.node other) in
    let parts = all_append test one other same in
    let G : Type 0 = given name one ≡ given name other in
    let by : (a : Argument) → test a ≡ true → a.name.node ≡ name → G
    = λ a passed named. subst (λ n. given n one ≡ given n other) named ((same_written-decides (given a.name.node one) (given a.name.node other)).0 passed) in
    elim (given_or_not name test one parts.0) as (λ _. G) [
      | inr there ↦ by there.0 there.1 there.2
      | inl none ↦ elim (given_or_not name test other parts.1) as (λ _. G) [ inr there ↦ by there.0 there.1 there.2 | inl missing ↦ none ∙ sym missing ]
    ]

all_true : {A : Type 0} (test : A → Bool) (xs : List A) → ((a : A) → test a ≡ true) → list_all test xs ≡ true
all_true test [] each = refl
all_true test (x ∷ xs) each = both_true (test x) (list_all test xs) (each x) (all_true test xs each)

same_from_given : (one other : List Argument) → ((name : List ℕ) → given name one ≡ given name other) → same_arguments one other ≡ true
same_from_given one other same =
    all_true (λ argument. same_written (given argument.name.node one) (given argument.name.node other)) (one ++ other)
    (λ a. (same_written-decides (given a.name.node one) (given a.name.node other)).1 (same a.name.node))

-- two occurrences are alike where names and given arguments are equal
pub alike_says : (f g : Positioned Field) → alike f g ≡ true
    → (name_of f ≡ name_of g) × ((name : List ℕ) → given name (arguments_of f) ≡ given name (arguments_of g))
alike_says f g same =
    let parts = parts_true (bytes_eq (name_of f) (name_of g)) (same_arguments (arguments_of f) (arguments_of g)) same in
    ((bytes_decides (name_of f) (name_of g)).0 parts.0, given_same (arguments_of f) (arguments_of g) parts.1)

pub alike_from : (f g : Positioned Field) → name_of f ≡ name_of g → ((name : List ℕ) → given name (arguments_of f) ≡ given name (arguments_of g))
    → alike f g ≡ true
alike_from f g named same =
    both_true (bytes_eq (name_of f) (name_of g)) (same_arguments (arguments_of f) (arguments_of g)) ((bytes_decides (name_of f) (name_of g)).1 named)
    (same_from_given (arguments_of f) (arguments_of g) same)

pub alike_turned : (f g : Positioned Field) → alike f g ≡ true → alike g f ≡ true
alike_turned f g same = let h = alike_says f g same in alike_from g f (sym h.0) (λ name. sym (h.1 name))

pub alike_through : (f g h : Positioned Field) → alike f g ≡ true → alike g h ≡ true → alike f h ≡ true
alike_through f g h one two =
    let a = alike_says f g one in let b = alike_says g h two in
    alike_from f h (a.0 ∙ b.0) (λ name. a.1 name ∙ b.1 name)

-- occurrences that ask the same have the same constants
pub constants_same : (known : List ℕ → Value) (declared : List Declared) (one other : List Argument)
    → ((name : List ℕ) → given name one ≡ given name other) → constants known declared one ≡ constants known declared other
constants_same known [] one other same = refl
constants_same known (d ∷ ds) one other same =
    λ i. constant known d.0 (same d.0 i) d.1 ++ constants_same known ds one other same i
