-- Arguments that are found by their names, and what two lists of them have in common.
use Rattle.std.proofs.Common.{◌≡◌, ℕ, Bool, true, false, cond, List, [], ◌∷◌, ◌++◌, map, Option, Some, None, option_map, Result, Ok, Err, OnOk, refl, ap, sym, ◌∙◌, subst}
use Rattle.std.specs.Borrow.{Bor}
use Rattle.std.specs.Prelude.{◌⊎◌}
use Rattle.std.proofs.Common.{inl, inr}
use Rattle.std.specs.Bool.{Decides, one_answer}
use Rattle.std.specs.List.{list_all}
use Rattle.std.specs.Option.{option_or}
use Rattle.std.specs.Str.{bytes_eq}
use Rattle.std.specs.Cmp.Lexicographic.{bytes_decides}
use Rattle.gql_base.specs.Pairs.{under}
use Rattle.gql_base.specs.Same.{is_same-decides}
use Rattle.gql_doc.specs.Document.{argument_named}
use Rattle.gql_doc.specs.contracts.document.DocValue.{the_row}
use Rattle.gql_doc.specs.declared.document.Argument.{Argument}
use Rattle.gql_doc.specs.declared.document.DocValue.{DocValue}
use Rattle.gql_select.specs.Alike.{same_arguments, same_written}
use Rattle.gql_select.specs.Constants.{given}
use Rattle.gql_select.specs.Given.{argument_same, as_written, IsIndex, pair_same, name_same, value_behind}
use Rattle.gql_select.proofs.AlikeLemmas.{both_true, parts_true}
use Rattle.gql_select.proofs.UnitingLemmas.{either}

-- what is given of one argument more, at the front
given_step : (name : List ℕ) (x : Argument) (xs : List Argument) → given name (x ∷ xs) ≡ cond (bytes_eq x.name.node name) (Some x.value.node) (given name xs)
given_step name x xs =
    let P : Bool → Type 0 = λ b. option_map (λ (argument : Argument). argument.value.node) (cond b (Some x) (argument_named name xs)) ≡ cond b (Some x.value.node) (given name xs) in
    elim (bytes_eq x.name.node name) as P [ true ↦ refl | false ↦ refl ]

-- lists that are written out alike give the same
given_out : (one other : List Argument) → map as_written one ≡ map as_written other → (name : List ℕ) → given name one ≡ given name other
given_out [] [] e name = refl
given_out [] (y ∷ ys) e name = cc
given_out (x ∷ xs) [] e name = cc
given_out (x ∷ xs) (y ∷ ys) e name =
    let head : as_written x ≡ as_written y = cc in
    let tail : map as_written xs ≡ map as_written ys = cc in
    given_step name x xs ∙ (λ i. cond (bytes_eq (head i).0 name) (Some (head i).1) (given_out xs ys tail name i)) ∙ sym (given_step name y ys)

same_itself : (value : Option DocValue) → same_written value value ≡ true
same_itself None = refl
same_itself (Some value) = (is_same-decides the_row.coded value value).1 refl

all_true : {A : Type 0} (test : A → Bool) (xs : List A) → ((a : A) → test a ≡ true) → list_all test xs ≡ true
all_true test [] each = refl
all_true test (x ∷ xs) each = rw (each x) (all_true test xs each)

pub same_written_out : (one other : List Argument) → map as_written one ≡ map as_written other → true ≡ same_arguments one other
same_written_out one other e =
    sym (all_true (λ argument. same_written (given argument.name.node one) (given argument.name.node other)) (one ++ other)
    (λ a. subst (λ value. same_written (given a.name.node one) value ≡ true) (given_out one other e a.name.node) (same_itself (given a.name.node one))))

-- what is given of one argument more, at the end
given_more : (name : List ℕ) (xs : List Argument) (a : Argument)
    → given name (xs ++ a ∷ []) ≡ option_or (given name xs) (cond (bytes_eq a.name.node name) (Some a.value.node) None)
given_more name [] a = given_step name a []
given_more name (x ∷ xs) a =
    let last : Option DocValue = cond (bytes_eq a.name.node name) (Some a.value.node) None in
    let P : Bool → Type 0 = λ b. cond b (Some x.value.node) (option_or (given name xs) last) ≡ option_or (cond b (Some x.value.node) (given name xs)) last in
    given_step name x (xs ++ a ∷ []) ∙ ap (cond (bytes_eq x.name.node name) (Some x.value.node)) (given_more name xs a)
    ∙ (elim (bytes_eq x.name.node name) as P [ true ↦ refl | false ↦ refl ])
    ∙ ap (λ o. option_or o last) (sym (given_step name x xs))

-- what stands under a name with one pair more, at the end
under_more : {T : Type 0} (name : List ℕ) (ps : List (List ℕ × T)) (k : List ℕ) (v : T) → under name (ps ++ (k, v) ∷ []) ≡ option_or (under name ps) (cond (bytes_eq name k) (Some v) None)
under_more name [] k v = refl
under_more name (p ∷ ps) k v =
    let last = cond (bytes_eq name k) (Some v) None in
    let P : Bool → Type 0 = λ b. cond b (Some p.1) (under name (ps ++ (k, v) ∷ [])) ≡ option_or (cond b (Some p.1) (under name ps)) last in
    elim (bytes_eq name p.0) as P [ true ↦ refl | false ↦ under_more name ps k v ]

turned : (a b : List ℕ) → bytes_eq a b ≡ bytes_eq b a
turned a b =
    let d = bytes_decides b a in
    one_answer (bytes_eq a b) (bytes_eq b a) (bytes_decides a b) (λ e. sym (d.0 e), λ e. d.1 (sym e))

behind_or : (o p : Option (Bor DocValue)) → option_map value_behind (option_or o p) ≡ option_or (option_map value_behind o) (option_map value_behind p)
behind_or None p = refl
behind_or (Some v) p = refl

behind_if : (b : Bool) (v : Bor DocValue) → option_map value_behind (cond b (Some v) None) ≡ cond b (Some (value_behind v)) None
behind_if true v = refl
behind_if false v = refl

module _ (before : List Argument) (index : List (List ℕ × Bor DocValue)) (is : IsIndex before index) (a : Argument) where
  -- an argument whose name is there changes nothing
  pub index_kept : (v : Bor DocValue) → under a.name.node index ≡ Some v → IsIndex (before ++ a ∷ []) index
  index_kept v there = λ name.
      let last : Option DocValue = cond (bytes_eq a.name.node name) (Some a.value.node) None in
      let stands : given a.name.node before ≡ Some (value_behind v) = sym (is a.name.node) ∙ ap (option_map value_behind) there in
      let P : Bool → Type 0 = λ b. (b ≡ true → a.name.node ≡ name) → given name before ≡ option_or (given name before) (cond b (Some a.value.node) None) in
      is name
      ∙ (elim (bytes_eq a.name.node name) as P [
        | true ↦ λ same.
            let here : given name before ≡ Some (value_behind v) = ap (λ n. given n before) (sym (same refl)) ∙ stands in
            rw here refl
        | false ↦ λ same. or_none (given name before)
      ]) (bytes_decides a.name.node name).0
      ∙ sym (given_more name before a)
    where
      or_none : (o : Option DocValue) → o ≡ option_or o None
      or_none None = refl
      or_none (Some v) = refl

  -- another comes at the end
  pub index_added : (v : Bor DocValue) → value_behind v ≡ a.value.node → IsIndex (before ++ a ∷ []) (index ++ (a.name.node, v) ∷ [])
  index_added v shows = λ name.
      ap (option_map value_behind) (under_more name index a.name.node v)
      ∙ behind_or (under name index) (cond (bytes_eq name a.name.node) (Some v) None)
      ∙ (λ i. option_or (is name i) (behind_if (bytes_eq name a.name.node) v i))
      ∙ (λ i. option_or (given name before) (cond (turned name a.name.node i) (Some (shows i)) None))
      ∙ sym (given_more name before a)

-- what comes of adding one, where memory wasn't wanting
pub index_joined : {E : Type 0} (r : Result (Unit {0}) E) (index new : List (List ℕ × Bor DocValue)) (a : Argument) (name : List ℕ) (v : Bor DocValue) → name ≡ a.name.node
    → value_behind v ≡ a.value.node → OnOk r (new ≡ index ++ (name, v) ∷ [])
    → OnOk r ((before : List Argument) → IsIndex before index → IsIndex (before ++ a ∷ []) new)
index_joined (Ok tt) index new a name v named shows added =
    λ before is. subst (IsIndex (before ++ a ∷ [])) (sym (added ∙ ap (λ n. index ++ (n, v) ∷ []) named)) (index_added before index is a v shows)
index_joined (Err e) index new a name v named shows added = tt

mapped_none : (o : Option (Bor DocValue)) → option_map value_behind o ≡ None → o ≡ None
mapped_none None e = refl
mapped_none (Some v) e = cc

-- a test of names that all pairs of an index pass, and all arguments
module _ (test : List ℕ → Bool) where
  under_or_not : (name : List ℕ) (ps : List (List ℕ × Bor DocValue)) → list_all (λ (p : List ℕ × Bor DocValue). test p.0) ps ≡ true → (under name ps ≡ None) ⊎ (test name ≡ true)
  under_or_not name [] all = inl refl
  under_or_not name (p ∷ ps) all =
      let parts = parts_true (test p.0) (list_all (λ (q : List ℕ × Bor DocValue). test q.0) ps) all in
      either (bytes_eq name p.0) ((under name (p ∷ ps) ≡ None) ⊎ (test name ≡ true))
      (λ e. inr (ap test ((bytes_decides name p.0).0 e) ∙ parts.0))
      (λ e. let past : under name (p ∷ ps) ≡ under name ps = rw e refl in
      elim (under_or_not name ps parts.1) [ inl none ↦ inl (past ∙ none) | inr passed ↦ inr passed ])

  all_under : (ps : List (List ℕ × Bor DocValue)) → ((name : List ℕ) → (under name ps ≡ None) ⊎ (test name ≡ true)) → list_all (λ (p : List ℕ × Bor DocValue). test p.0) ps ≡ true
  all_under [] each = refl
  all_under (p ∷ ps) each = both_true (test p.0) (list_all (λ (q : List ℕ × Bor DocValue). test q.0) ps) head (all_under ps tail)
    where
      here : under p.0 (p ∷ ps) ≡ Some p.1
      here = rw ((bytes_decides p.0 p.0).1 refl) refl

      head : test p.0 ≡ true
      head = elim (each p.0) as (λ _. test p.0 ≡ true) [ inl none ↦ (let never : Some p.1 ≡ None = sym here ∙ none in cc) | inr passed ↦ passed ]

      tail : (name : List ℕ) → (under name ps ≡ None) ⊎ (test name ≡ true)
      tail name =
          let G : Type 0 = (under name ps ≡ None) ⊎ (test name ≡ true) in
          elim (each name) as (λ _. G) [
            | inr passed ↦ inr passed
            | inl none ↦ either (bytes_eq name p.0) G (λ e. inr (ap test ((bytes_decides name p.0).0 e) ∙ head))
                (λ e. let past : under name (p ∷ ps) ≡ under name ps = rw e refl in inl (sym past ∙ none))
          ]

  given_or_not : (name : List ℕ) (xs : List Argument) → list_all (λ (a : Argument). test a.name.node) xs ≡ true → (given name xs ≡ None) ⊎ (test name ≡ true)
  given_or_not name [] all = inl refl
  given_or_not name (x ∷ xs) all =
      let parts = parts_true (test x.name.node) (list_all (λ (a : Argument). test a.name.node) xs) all in
      either (bytes_eq x.name.node name) ((given name (x ∷ xs) ≡ None) ⊎ (test name ≡ true))
      (λ e. inr (ap test (sym ((bytes_decides x.name.node name).0 e)) ∙ parts.0))
      (λ e. let past : given name (x ∷ xs) ≡ given name xs = given_step name x xs ∙ ap (λ b. cond b (Some x.value.node) (given name xs)) e in
      elim (given_or_not name xs parts.1) [ inl none ↦ inl (past ∙ none) | inr passed ↦ inr passed ])

  all_given : (xs : List Argument) → ((name : List ℕ) → (given name xs ≡ None) ⊎ (test name ≡ true)) → list_all (λ (a : Argument). test a.name.node) xs ≡ true
  all_given [] each = refl
  all_given (x ∷ xs) each = both_true (test x.name.node) (list_all (λ (a : Argument). test a.name.node) xs) head (all_given xs tail)
    where
      here : given x.name.node (x ∷ xs) ≡ Some x.value.node
      here = given_step x.name.node x xs ∙ ap (λ b. cond b (Some x.value.node) (given x.name.node xs)) ((bytes_decides x.name.node x.name.node).1 refl)

      head : test x.name.node ≡ true
      head = elim (each x.name.node) as (λ _. test x.name.node ≡ true) [ inl none ↦ (let never : Some x.value.node ≡ None = sym here ∙ none in cc) | inr passed ↦ passed ]

      tail : (name : List ℕ) → (given name xs ≡ None) ⊎ (test name ≡ true)
      tail name =
          let G : Type 0 = (given name xs ≡ None) ⊎ (test name ≡ true) in
          elim (each name) as (λ _. G) [
            | inr passed ↦ inr passed
            | inl none ↦ either (bytes_eq x.name.node name) G (λ e. inr (ap test (sym ((bytes_decides x.name.node name).0 e)) ∙ head))
                (λ e. let past : given name (x ∷ xs) ≡ given name xs = given_step name x xs ∙ ap (λ b. cond b (Some x.value.node) (given name xs)) e in inl (sym past ∙ none))
          ]

  -- the names of an index are those of the arguments
  names_tested : (ps : List (List ℕ × Bor DocValue)) (xs : List Argument) → IsIndex xs ps
      → list_all (λ (p : List ℕ × Bor DocValue). test p.0) ps ≡ list_all (λ (a : Argument). test a.name.node) xs
  names_tested ps xs is = one_answer (list_all (λ (p : List ℕ × Bor DocValue). test p.0) ps) (list_all (λ (a : Argument). test a.name.node) xs) by_pairs by_arguments
    where
      by_arguments : Decides (list_all (λ (a : Argument). test a.name.node) xs) ((name : List ℕ) → (given name xs ≡ None) ⊎ (test name ≡ true))
      by_arguments = (λ all name. given_or_not name xs all, all_given xs)

      to_given : (name : List ℕ) → (under name ps ≡ None) ⊎ (test name ≡ true) → (given name xs ≡ None) ⊎ (test name ≡ true)
      to_given name (inl none) = inl (sym (is name) ∙ ap (option_map value_behind) none)
      to_given name (inr passed) = inr passed

      to_under : (name : List ℕ) → (given name xs ≡ None) ⊎ (test name ≡ true) → (under name ps ≡ None) ⊎ (test name ≡ true)
      to_under name (inl none) = inl (mapped_none (under name ps) (is name ∙ none))
      to_under name (inr passed) = inr passed

      by_pairs : Decides (list_all (λ (p : List ℕ × Bor DocValue). test p.0) ps) ((name : List ℕ) → (given name xs ≡ None) ⊎ (test name ≡ true))
      by_pairs = (λ all name. to_given name (under_or_not name ps all), λ each. all_under ps (λ name. to_under name (each name)))

pub indexed_names : (one other some : List Argument) (index : List (List ℕ × Bor DocValue)) (passed : Bool) → IsIndex some index
    → passed ≡ list_all (pair_same one other) index → passed ≡ list_all (argument_same one other) some
indexed_names one other some index passed is told = told ∙ names_tested (name_same one other) index some is
