-- What the tests of names and values of headers decide.
use Rattle.std.proofs.Common.{◌≡◌, ℕ, Bool, true, false, List, Result, Ok, Err, refl, arith}
use Rattle.std.specs.Prelude.{◌↔◌, ◌&&◌, IsTrue, IsErrOf}
use Rattle.std.specs.List.{list_all}
use Rattle.std.proofs.lemmas.Bool.Decides.{nat_tests, Decides-by_and}
use Rattle.http_header.specs.FieldName.{IsFieldName, is_field_name}
use Rattle.http_header.specs.FieldValue.{IsFieldValue}
use Rattle.http_header.specs.Token.{AllPass, is_token_byte, token_test, is_value_byte}
use Rattle.http_header.proofs.TokenLemmas.{AllPass-from_test, IsFieldName-from_test}

both : (a b : Bool) → a ≡ true → b ≡ true → (a && b) ≡ true
both a b h k = grind (arith, nat_tests)

all_test : (test : ℕ → Bool) (bytes : List ℕ) → AllPass test bytes → list_all test bytes ≡ true
all_test test bytes =
    (Decides-by_and test (λ b. IsTrue (test b)) (list_all test) (λ b. (λ h. h, λ h. h)) refl (λ _ _. refl) bytes).1

name_test : (bytes : List ℕ) → IsFieldName bytes → is_field_name bytes ≡ true
unfolding is_token_byte
name_test bytes ((some, tokens), short) =
    both _ _ (both _ _ (grind (arith, nat_tests)) (all_test token_test bytes tokens)) (grind (arith, nat_tests))

-- what isn't refused passes a test, and what is refused fails it
pub passes : {A E : Type 0} {P : Type 0} (test : Bool) (r : Result A E) (invalid : E) (value : A) → (P → test ≡ true) → (IsErrOf r invalid ↔ ¬ P) → r ≡ Ok value → test ≡ true
passes true r invalid value holds iff is = refl
passes false r invalid value holds iff is = absurd (let e = iff.1 (λ h. let k = holds h in absurd cc) in cc)

pub fails : {A E : Type 0} {P : Type 0} (test : Bool) (r : Result A E) (invalid : E) → (test ≡ true → P) → (IsErrOf r invalid ↔ ¬ P) → r ≡ Err invalid → test ≡ false
fails true r invalid holds iff is = absurd (iff.0 is (holds refl))
fails false r invalid holds iff is = refl

module _ {A E : Type 0} (bytes : List ℕ) (r : Result A E) (invalid : E) where
  pub name_passes : (value : A) → (IsErrOf r invalid ↔ ¬ (IsFieldName bytes)) → r ≡ Ok value → is_field_name bytes ≡ true
  name_passes value iff is = passes (is_field_name bytes) r invalid value (name_test bytes) iff is

  pub name_fails : (IsErrOf r invalid ↔ ¬ (IsFieldName bytes)) → r ≡ Err invalid → is_field_name bytes ≡ false
  name_fails iff is = fails (is_field_name bytes) r invalid (IsFieldName-from_test bytes) iff is

  pub value_passes : (value : A) → (IsErrOf r invalid ↔ ¬ (IsFieldValue bytes)) → r ≡ Ok value → list_all is_value_byte bytes ≡ true
  value_passes value iff is = passes (list_all is_value_byte bytes) r invalid value (all_test is_value_byte bytes) iff is

  pub value_fails : (IsErrOf r invalid ↔ ¬ (IsFieldValue bytes)) → r ≡ Err invalid → list_all is_value_byte bytes ≡ false
  value_fails iff is = fails (list_all is_value_byte bytes) r invalid (AllPass-from_test is_value_byte bytes) iff is
