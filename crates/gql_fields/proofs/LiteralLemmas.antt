-- What members of a literal fit, and which of them are there.
use Rattle.std.proofs.Common.{◌≡◌, ◌≢◌, ℕ, Bool, true, false, ◌||◌, ◌&&◌, cond, List, [], ◌∷◌, Some, is_some, slice_get, length, arith, refl}
use Rattle.std.specs.List.{list_all}
use Rattle.std.specs.Str.{bytes_eq}
use Rattle.gql_base.specs.Pairs.{under}
use Rattle.gql_base.specs.TypeRef.{is_nullable}
use Rattle.gql_doc.specs.declared.document.DocValue.{DocValue}
use Rattle.gql_schema.specs.Fits.{are_given, is_given, is_non_null, is_one}
use Rattle.gql_schema.specs.InputObject.{input_fields}
use Rattle.gql_schema.specs.InputValue.{input_type, default_of}
use Rattle.gql_schema.specs.TableReading.{TypeTable}
use Rattle.gql_schema.specs.declared.input_object.InputObject.{InputObject}
use Rattle.gql_schema.specs.declared.input_value.InputValue.{InputValue}
use Rattle.gql_fields.specs.Literals.{fitting_member, fittings, is_single, literal_fitting}

-- a name is there where it is among the members with what they fit
pub under_fittings : (table : TypeTable) (n : List ℕ) (ms : List (List ℕ × DocValue))
    → is_some (under n (fittings table ms)) ≡ is_some (under n ms)
under_fittings table n [] = refl
under_fittings table n (m ∷ ms) =
    let P : Bool → Type 0 = λ b. is_some (cond b (Some (fitting_member table m).1) (under n (fittings table ms)))
    ≡ is_some (cond b (Some m.1) (under n ms)) in
    elim (bytes_eq n m.0) as P [ true ↦ refl | false ↦ under_fittings table n ms ]

module _ (table : TypeTable) (ms : List (List ℕ × DocValue)) where
  given-each : (fs : List (List ℕ × InputValue)) → list_all (is_given (fittings table ms)) fs ≡ list_all (is_given ms) fs
  given-each [] = refl
  given-each (f ∷ fs) = λ i. (is_nullable (input_type f.1) || is_some (default_of f.1) || under_fittings table f.0 ms i) && given-each fs i

  pub given_fittings : (input : InputObject) → are_given input (fittings table ms) ≡ are_given input ms
  given_fittings input = given-each (input_fields input)

-- an object of one member
pub one_member : (table : TypeTable) (input : InputObject) (ms : List (List ℕ × DocValue)) (n : List ℕ) (v : DocValue) → length ms ≡ 1
    → slice_get ms 0 ≡ Some (n, v) → is_one input (fittings table ms) ≡ is_non_null (literal_fitting table v) (under n (input_fields input))
one_member table input [] n v long at = cc
one_member table input (m ∷ []) n v long at =
    let same : m ≡ (n, v) = cc in
    rw same refl
one_member table input (m ∷ (o ∷ ms)) n v long at = absurd (omega arith)

-- whether there is exactly one, by the length
pub single_length : {A : Type 0} (xs : List A) (long : ℕ) → long ≡ length xs → long ≡ 1 → true ≡ is_single xs
single_length [] long is one = absurd (omega arith)
single_length (x ∷ []) long is one = refl
single_length (x ∷ (y ∷ xs)) long is one = absurd (omega arith)

pub other_length : {A : Type 0} (xs : List A) (long : ℕ) → long ≡ length xs → long ≢ 1 → false ≡ is_single xs
other_length [] long is other = refl
other_length (x ∷ []) long is other = absurd (other is)
other_length (x ∷ (y ∷ xs)) long is other = refl

-- whether a length is one
pub ruleset one_or_other_length = (single_length, other_length)
