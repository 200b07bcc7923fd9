-- A word as the number of rows that it asks for.
use Rattle.std.proofs.Common.{◌≡◌, ◌↔◌, Bool, true, false, IsTrue, ℕ, zero, suc, ◌≤◌, ◌<◌, List, get_or, Result, Ok, Err, ap, sym, ◌∙◌, subst, arith}
use Rattle.std.specs.Fmt.{decimal}
use Rattle.std.specs.Str.Parse.{AllDigits, IsNumeral, ParsesUnsigned, digits_value, without_leading_plus}
use Rattle.std.proofs.lemmas.Fmt.{decimal-digits_value, decimal_digit, first_decimal, parse-decimal}
use Rattle.std.proofs.lemmas.Str.Parse.{numerals_by_value, tells_digits, without_leading_plus_none}
use Rattle.gql_cli.specs.Command.{IsRowCount}

-- a word that asks for rows begins with a digit but 0
pub low_is_none : (word : List ℕ) (above : Bool) → IsTrue above ↔ (48 < get_or word 0 0) → above ≡ false → (rows : ℕ) → IsRowCount rows word → ⊥
low_is_none word above tells is rows (least, most, written) =
    let high : 48 < get_or word 0 0 = omega (arith, ap (λ w. get_or w 0 0) written, first_decimal rows (omega arith) (omega arith)) in
    let wrong : false ≡ true = sym is ∙ tells.1 high in
    cc

module _ {E : Type 0} (word : List ℕ) (read : Result ℕ E) (parses : ParsesUnsigned 64 10 word read) where
  reads : (rows : ℕ) → IsRowCount rows word → read ≡ Ok rows
  reads rows (least, most, is) = parse-decimal 64 rows word read (omega arith) (omega arith) is parses

  -- nor one that is read as no number
  pub unread_is_none : (e : E) → read ≡ Err e → (rows : ℕ) → IsRowCount rows word → ⊥
  unread_is_none e is rows count = let wrong = sym is ∙ reads rows count in cc

  -- nor one that is read as too large a number
  pub large_is_none : (n : ℕ) → read ≡ Ok n → 10000 < n → (rows : ℕ) → IsRowCount rows word → ⊥
  large_is_none n is large rows count =
      let both : Ok n ≡ Ok rows = sym is ∙ reads rows count in
      let same : n ≡ rows = cc in
      let most = count.1 in
      omega (arith, same)

  -- one that begins otherwise is the decimal of the number that it is read as
  pub count_is : (n : ℕ) → read ≡ Ok n → 48 < get_or word 0 0 → n ≤ 10000 → IsRowCount n word
  count_is n is high most =
      let no_plus : without_leading_plus word ≡ word = without_leading_plus_none word (λ plus. omega arith) in
      let told = subst (λ (r : Result ℕ E). ParsesUnsigned 64 10 word r) is parses in
      let digits : IsNumeral 10 word = subst (IsNumeral 10) no_plus told.0.0 in
      let number : n ≡ digits_value 10 word = told.1 ∙ ap (digits_value 10) no_plus in
      let spelled : decimal (digits_value 10 word) ≡ word
      = decimal-digits_value (numerals_by_value (AllDigits 10) tells_digits) word digits.1 digits.0 (λ none. absurd (omega arith)) (omega (arith, sym number)) in
      let written : word ≡ decimal n = sym spelled ∙ ap decimal (sym number) in
      (some n written, most, written)
    where
      some : (m : ℕ) → word ≡ decimal m → 1 ≤ m
      some zero none = absurd (omega (arith, ap (λ w. get_or w 0 0) (none ∙ decimal_digit 0 (omega arith))))
      some (suc m) written = omega arith
