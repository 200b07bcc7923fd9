-- The values of arguments, made one by one.
use Rattle.std.proofs.Common.{◌≡◌, ℕ, zero, suc, ◌+◌, Bool, true, false, cond, List, [], ◌∷◌, ◌++◌, take, Option, Some, None, slice_get, refl, ap, sym, ◌∙◌, append_assoc}
use Rattle.std.proofs.lemmas.List.{append-nil, take_more}
use Rattle.std.proofs.lemmas.Option.{slice_get_within, get_or_from_slice_get}
use Rattle.std.specs.Option.{option_map_or}
use Rattle.std.specs.Str.{bytes_eq}
use Rattle.gql_base.specs.Pairs.{HasDistinctNames, later, under, unite_all}
use Rattle.gql_base.specs.declared.value.Value.{Value}
use Rattle.std.specs.Cmp.Lexicographic.{bytes_decides}
use Rattle.gql_base.proofs.PairLemmas.{put-fresh}
use Rattle.gql_doc.specs.declared.document.Argument.{Argument}
use Rattle.gql_doc.specs.declared.document.DocValue.{DocValue}
use Rattle.gql_schema.specs.InputValue.{default_of}
use Rattle.gql_schema.specs.declared.input_value.InputValue.{InputValue}
use Rattle.gql_select.specs.Constants.{constant, constants, given}
use Rattle.gql_collect.specs.CoerceArguments.{declared_of}

-- a name that stands among pairs has a value there
present : {T : Type 0} (ps : List (List ℕ × T)) (i : ℕ) (n : List ℕ) (x : T) → slice_get ps i ≡ Some (n, x) → under n ps ≡ None → ⊥
present [] i n x at none = cc
present (p ∷ ps) zero n x at none =
    let named : p.0 ≡ n = ap (λ o. option_map_or (λ q. q.0) o n) at in
    let same : bytes_eq n p.0 ≡ true = rw named ((bytes_decides n n).1 refl) in
    let found : Some p.1 ≡ None = rw same at none in
    cc
present (p ∷ ps) (suc i) n x at none =
    let P : Bool → Type 0 = λ b. cond b (Some p.1) (under n ps) ≡ None → ⊥ in
    (elim (bytes_eq n p.0) as P [ true ↦ λ h. cc | false ↦ λ h. present ps i n x at h ]) none

-- a name at a place isn't among the names before it
pub under_front : {T : Type 0} (ps : List (List ℕ × T)) (i : ℕ) (n : List ℕ) (x : T) → HasDistinctNames ps → slice_get ps i ≡ Some (n, x)
    → under n (take i ps) ≡ None
under_front [] i n x distinct at = cc
under_front (p ∷ ps) zero n x distinct at = refl
under_front (p ∷ ps) (suc i) n x (fresh, distinct) at =
    let P : Bool → Type 0 = λ b. (b ≡ true → n ≡ p.0) → cond b (Some p.1) (under n (take i ps)) ≡ None in
    (elim (bytes_eq n p.0) as P [
      | true ↦ λ same. absurd (present ps i n x at (ap (λ m. under m ps) (same refl) ∙ fresh))
      | false ↦ λ same. under_front ps i n x distinct at
    ]) (λ h. (bytes_decides n p.0).0 h)

module _ (known : List ℕ → Value) (written : List Argument) where
  -- what a declared argument has for its value
  own : List ℕ × InputValue → List (List ℕ × Value)
  own argument = constant known argument.0 (given argument.0 written) (default_of argument.1)

  all : List (List ℕ × InputValue) → List (List ℕ × Value)
  all arguments = constants known (declared_of arguments) written

  absent_past : (name other : List ℕ) (o : Option DocValue) (p : Option Value) (rest : List (List ℕ × Value)) → bytes_eq name other ≡ false
      → under name rest ≡ None → under name (constant known other o p ++ rest) ≡ None
  absent_past name other (Some w) p rest apart none = rw apart none
  absent_past name other None (Some v) rest apart none = rw apart none
  absent_past name other None None rest apart none = none

  -- a name that no argument has is no name of a value
  absent : (name : List ℕ) (arguments : List (List ℕ × InputValue)) → under name arguments ≡ None → under name (all arguments) ≡ None
  unfolding all
  absent name [] none = refl
  absent name (a ∷ arguments) none =
      let P : Bool → Type 0 = λ b. bytes_eq name a.0 ≡ b → cond b (Some a.1) (under name arguments) ≡ None → under name (all (a ∷ arguments)) ≡ None in
      (elim (bytes_eq name a.0) as P [
        | true ↦ λ is h. cc
        | false ↦ λ is h. absent_past name a.0 (given a.0 written) (default_of a.1) (all arguments) is (absent name arguments h)
      ]) refl none

  appended : (arguments : List (List ℕ × InputValue)) (a : List ℕ × InputValue) → all (arguments ++ a ∷ []) ≡ all arguments ++ own a
  unfolding all own
  appended [] a = append-nil (own a)
  appended (b ∷ arguments) a = ap (λ xs. own b ++ xs) (appended arguments a) ∙ sym (append_assoc (own b) (all arguments) (own a))

  added : (ps : List (List ℕ × Value)) (name : List ℕ) (o : Option DocValue) (p : Option Value) → under name ps ≡ None
      → unite_all later ps (constant known name o p) ≡ ps ++ constant known name o p
  added ps name (Some w) p none = put-fresh ps name _ none
  added ps name None (Some v) none = put-fresh ps name v none
  added ps name None None none = nil ps
    where
      nil : (xs : List (List ℕ × Value)) → xs ≡ xs ++ []
      nil [] = refl
      nil (x ∷ xs) = ap (λ ys. x ∷ ys) (nil xs)

  -- one more argument is looked at
  pub argument_more : (arguments : List (List ℕ × InputValue)) (i : ℕ) (name : List ℕ) (input : InputValue) (old new : List (List ℕ × Value))
      → HasDistinctNames arguments → slice_get arguments i ≡ Some (name, input)
      → old ≡ constants known (declared_of (take i arguments)) written
      → new ≡ unite_all later old (constant known name (given name written) (default_of input))
      → new ≡ constants known (declared_of (take (i + 1) arguments)) written
  unfolding all own
  argument_more arguments i name input old new distinct at before step =
      let fresh = absent name (take i arguments) (under_front arguments i name input distinct at) in
      let more : take (i + 1) arguments ≡ take i arguments ++ (name, input) ∷ []
      = take_more arguments i (name, input) (slice_get_within arguments i (name, input) at) ∙ ap (λ p. take i arguments ++ p ∷ []) (get_or_from_slice_get arguments i (name, input) (name, input) at) in
      step
      ∙ ap (λ ps. unite_all later ps (constant known name (given name written) (default_of input))) before
      ∙ added (all (take i arguments)) name (given name written) (default_of input) fresh
      ∙ sym (appended (take i arguments) (name, input))
      ∙ ap all (sym more)
