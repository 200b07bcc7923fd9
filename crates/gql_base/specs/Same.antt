-- Equality of the values of a type as a test. Each type has a code, a tree of numbers that tells
-- its values apart.
use Rattle.std.specs.Prelude.{◌≡◌, Bool, true, false, ◌&&◌, ◌==◌}
use Rattle.std.specs.Bool.{Decides, one_answer}
use Rattle.std.specs.Cmp.{IsEquivalence, IsPartialEquivalence, decided, partial_equiv_from_equiv}
use Rattle.std.specs.Coded.{Coded}
use Rattle.std.proofs.Common.{refl, ap, sym, eq-eqb}
use mathlib.Core.Bool.{true≢false}
use borrow.Author.Tests.{eqb-true}
use base.Stored.{Gv, gnil, gnum, gcons}

abbrev pub same_code : Gv → Gv → Bool
same_code gnil gnil = true
same_code gnil (gnum n) = false
same_code gnil (gcons c d) = false
same_code (gnum m) gnil = false
same_code (gnum m) (gnum n) = m == n
same_code (gnum m) (gcons c d) = false
same_code (gcons a b) gnil = false
same_code (gcons a b) (gnum n) = false
same_code (gcons a b) (gcons c d) = same_code a c && same_code b d

-- whether two values are equal
abbrev pub is_same : {A : Type 0} → Coded A → A → A → Bool
is_same coded x y = same_code (coded.code x) (coded.code y)

both : (a b : Bool) → a ≡ true → b ≡ true → (a && b) ≡ true
both true true p q = refl
both true false p q = q
both false b p q = p

both-parts : (a b : Bool) → (a && b) ≡ true → (a ≡ true) × (b ≡ true)
both-parts true true e = (refl, refl)
both-parts true false e = (refl, e)
both-parts false b e = absurd (true≢false (sym e))

same-code : (a b : Gv) → same_code a b ≡ true → a ≡ b
same-code gnil gnil e = refl
same-code gnil (gnum n) e = absurd (true≢false (sym e))
same-code gnil (gcons c d) e = absurd (true≢false (sym e))
same-code (gnum m) gnil e = absurd (true≢false (sym e))
same-code (gnum m) (gnum n) e = ap gnum (eqb-true m n e)
same-code (gnum m) (gcons c d) e = absurd (true≢false (sym e))
same-code (gcons a b) gnil e = absurd (true≢false (sym e))
same-code (gcons a b) (gnum n) e = absurd (true≢false (sym e))
same-code (gcons a b) (gcons c d) e =
    let each = both-parts (same_code a c) (same_code b d) e in
    λ i. gcons (same-code a c each.0 i) (same-code b d each.1 i)

same-itself : (a : Gv) → same_code a a ≡ true
same-itself gnil = refl
same-itself (gnum n) = eq-eqb n n refl
same-itself (gcons a b) = both (same_code a a) (same_code b b) (same-itself a) (same-itself b)

module _ {A : Type 0} (coded : Coded A) where
  pub is_same-decides : (x y : A) → Decides (is_same coded x y) (x ≡ y)
  is_same-decides x y = (
    λ e. coded.inj x y (same-code (coded.code x) (coded.code y) e),
    λ e. rw (ap coded.code (sym e)) (same-itself (coded.code x)),
  )

  -- the test is an equivalence, as `Eq` asks
  pub is_same_equivalence : IsEquivalence (is_same coded)
  is_same_equivalence = decided (is_same coded) is_same-decides

  -- and so what `PartialEq` asks
  pub is_same_laws : IsPartialEquivalence (is_same coded)
  is_same_laws = partial_equiv_from_equiv is_same_equivalence

  -- what decides equality is this test
  pub is_same_is : (result : Bool) (x y : A) → Decides result (x ≡ y) → result ≡ is_same coded x y
  is_same_is result x y decides =
      one_answer result (is_same coded x y) decides (is_same-decides x y)
