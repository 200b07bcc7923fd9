-- Sets of which the fields that their object doesn't declare are left out.
use Rattle.std.proofs.Common.{◌≡◌, ◌<◌, ◌≤◌, ◌+◌, ◌-◌, ℕ, zero, suc, Bool, true, false, cond, List, [], ◌∷◌, ◌++◌, length, filter, Option, Some, slice_get, ltb, ltb-true, ltb-false, refl, sym, ap, subst, ◌∙◌, arith}
use Rattle.std.specs.Borrow.{Bor}
use Rattle.std.proofs.lemmas.List.Elements.{filter-append}
use Rattle.std.specs.List.{Contains}
use Rattle.gql_doc.specs.declared.document.Field.{Field}
use Rattle.gql_doc.specs.declared.document.Positioned.{Positioned}
use Rattle.gql_doc.specs.declared.document.Selection.{Selection}
use Rattle.gql_collect.specs.DeclaredFields.{AreDeclared, declared_among, declared_reading, declares}
use Rattle.gql_collect.specs.Execution.{Execution}
use Rattle.gql_select.proofs.DocumentLemmas.{is_reading}
use Rattle.gql_select.proofs.MergeLemmas.{first_in, later_in}
use Rattle.gql_select.specs.Alike.{name_of}
use Rattle.gql_select.specs.Behind.{all_behind}
use Rattle.gql_select.specs.Collected.{collect, own_selections, Setting}
use Rattle.gql_select.specs.Conflicts.{Agree}
use Rattle.gql_select.specs.Documents.{reading}
use Rattle.gql_select.specs.Reading.{IsReading}

module _ {A : Type 0} (keeps : A → Bool) where
  -- what a test leaves stood there before
  in_first : (b : Bool) (x : A) (xs kept : List A) (y : A) → (Contains kept y → Contains xs y) → Contains (cond b (x ∷ kept) kept) y → Contains (x ∷ xs) y
  in_first false x xs kept y rest at = later_in x y xs (rest at)
  in_first true x xs kept y rest (zero, within, at) = (zero, omega arith, at)
  in_first true x xs kept y rest (suc k, within, at) = later_in x y xs (rest (k, omega arith, at))

  pub in_kept : (xs : List A) (y : A) → Contains (filter keeps xs) y → Contains xs y
  in_kept [] y at = at
  in_kept (x ∷ xs) y at = in_first (keeps x) x xs (filter keeps xs) y (in_kept xs y) at

module _ (execution : Execution) (setting : Setting) where
  -- sets are read as their parts are
  pub is_declared_reading : IsReading (declared_reading execution setting)
  is_declared_reading =
      let is = is_reading setting in
      record {
        fields_of_both = λ o xs ys. ap (declared_among execution o) (is.fields_of_both o xs ys)
            ∙ filter-append (λ field. declares execution o (name_of field)) (collect setting o xs) (collect setting o ys);
        set_of_both = is.set_of_both;
        both_of_both = is.both_of_both;
        objects_of_both = is.objects_of_both;
        objects_of_alike = is.objects_of_alike;
        alike_both = is.alike_both;
        both_alike = is.both_alike;
        alike_turned = is.alike_turned;
        alike_through = is.alike_through;
      }

  -- sets that agree agree on what is declared
  pub agree_declared : (n : ℕ) (object : List ℕ) (one other : List (Positioned Selection))
      → Agree (reading setting) n object one other
      → Agree (declared_reading execution setting) n object one other
  agree_declared zero object one other agree = tt
  agree_declared (suc n) object one other agree = λ f g in_f in_g same.
      let declared : Positioned Field → Bool = λ field. declares execution object (name_of field) in
      let h = agree f g (in_kept declared (collect setting object one) f in_f) (in_kept declared (collect setting object other) g in_g) same in
      (h.0, λ inner at. agree_declared n inner (own_selections f) (own_selections g) (h.1 inner at))

module _ (execution : Execution) (object : List ℕ) where
  -- one occurrence more is of a field that the object has
  pub declared_more : (fields : List (Bor (Positioned Field))) (place : ℕ) (field : Bor (Positioned Field)) → AreDeclared execution object fields place
      → slice_get fields place ≡ Some field → declares execution object (name_of field.now) ≡ true → AreDeclared execution object fields (place + 1)
  declared_more fields place field before at here = λ k other below there. by k other below there (ltb k place) refl
    where
      by : (k : ℕ) (other : Bor (Positioned Field)) → k < place + 1 → slice_get fields k ≡ Some other → (b : Bool) → ltb k place ≡ b
          → declares execution object (name_of other.now) ≡ true
      by k other below there true test = before k other (ltb-true k place test) there
      by k other below there false test =
          let past : place ≤ k = ltb-false k place test in
          let same : k ≡ place = omega arith in
          let one : Some field ≡ Some other = sym at ∙ sym (ap (slice_get fields) same) ∙ there in
          let is : field ≡ other = cc in
          subst (λ (f : Bor (Positioned Field)). declares execution object (name_of f.now) ≡ true) is here

  -- so is one of the same name as the occurrence before it
  pub declared_again : (fields : List (Bor (Positioned Field))) (place : ℕ) (one field : Bor (Positioned Field)) → 0 < place
      → AreDeclared execution object fields place → slice_get fields (place - 1) ≡ Some one → slice_get fields place ≡ Some field
      → name_of one.now ≡ name_of field.now → AreDeclared execution object fields (place + 1)
  declared_again fields place one field past before there at same =
      declared_more fields place field before at
      (subst (λ name. declares execution object name ≡ true) same (before (place - 1) one (omega arith) there))

  -- where the object has the fields of all, none is left out
  pub all_declared : (fields : List (Bor (Positioned Field))) → AreDeclared execution object fields (length fields)
      → declared_among execution object (all_behind fields) ≡ all_behind fields
  all_declared [] are = refl
  all_declared (field ∷ fields) are =
      let rest = all_declared fields (λ k other below at. are (suc k) other (omega arith) at) in
      ap (λ b. cond b (field.now ∷ declared_among execution object (all_behind fields)) (declared_among execution object (all_behind fields)))
      (are 0 field (omega arith) refl)
      ∙ ap (λ fs. field.now ∷ fs) rest
