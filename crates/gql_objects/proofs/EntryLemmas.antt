-- What is kept of tasks, one after another.
use Rattle.std.proofs.Common.{◌≡◌, ℕ, ◌+◌, ◌<◌, ◌≤◌, Bool, true, false, cond, ltb, eqb, List, [], ◌∷◌, ◌++◌, Option, Some, None, refl, sym, ap, subst, ◌∙◌, arith, ltb-true, eqb-true, eq-eqb, lt-ltb, ne_eqb}
use Rattle.std.specs.Prelude.{◌&&◌}
use Rattle.std.specs.Option.{option_or}
use Rattle.gql_objects.specs.Entries.{Entry, if_number, laid, latest}

tested : (b c : Bool) (o : Option ℕ) (e : ℕ) → cond (b && c) o None ≡ Some e → (b ≡ true) × (c ≡ true) × (o ≡ Some e)
tested true true o e is = (refl, refl, is)
tested true false o e is = absurd (cc)
tested false c o e is = absurd (cc)

untested : (b c : Bool) (o : Option ℕ) → b ≡ true → c ≡ true → cond (b && c) o None ≡ o
untested true true o h k = refl
untested true false o h k = absurd (cc)
untested false c o h k = absurd (cc)

module _ {V : Type 0} where
  -- the last one, and those in front of it
  pub record Laid (n e : ℕ) (front : List (Entry V)) (last : Entry V) : Type 0 where
    pub front_is : laid n front ≡ Some last.first
    pub number_is : last.number < last.first
    pub end_is : last.first + last.count ≡ e

  -- one more is kept
  pub laid_more : (n : ℕ) (front : List (Entry V)) (last : Entry V) → laid n front ≡ Some last.first → last.number < last.first
      → laid n (front ++ last ∷ []) ≡ Some (last.first + last.count)
  laid_more n [] last is within =
      let e : n ≡ last.first = cc in
      subst (λ m. cond (ltb last.number m && eqb last.first m) (Some (m + last.count)) None ≡ Some (last.first + last.count)) (sym e)
      (untested (ltb last.number last.first) (eqb last.first last.first) (Some (last.first + last.count))
      (lt-ltb last.number last.first within) (eq-eqb last.first last.first refl))
  laid_more n (k ∷ front) last is within =
      let h = tested (ltb k.number n) (eqb k.first n) (laid (n + k.count) front) last.first is in
      untested (ltb k.number n) (eqb k.first n) (laid (n + k.count) (front ++ last ∷ [])) h.0 h.1
      ∙ laid_more (n + k.count) front last h.2 within

  -- the last one is taken off
  pub laid_less : (n e : ℕ) (front : List (Entry V)) (last : Entry V) → laid n (front ++ last ∷ []) ≡ Some e → Laid n e front last
  laid_less n e [] last is =
      let h = tested (ltb last.number n) (eqb last.first n) (Some (n + last.count)) e is in
      let under = ltb-true last.number n h.0 in
      let same = eqb-true last.first n h.1 in
      let all : n + last.count ≡ e = cc in
      record { front_is = ap Some (sym same); number_is = omega arith; end_is = omega arith }
  laid_less n e (k ∷ front) last is =
      let h = tested (ltb k.number n) (eqb k.first n) (laid (n + k.count) (front ++ last ∷ [])) e is in
      let rest = laid_less (n + k.count) e front last h.2 in
      record {
        front_is = untested (ltb k.number n) (eqb k.first n) (laid (n + k.count) front) h.0 h.1 ∙ rest.front_is;
        number_is = rest.number_is;
        end_is = rest.end_is;
      }

  pub laid_grows : (n e : ℕ) (ks : List (Entry V)) → laid n ks ≡ Some e → n ≤ e
  laid_grows n e [] is = let same : n ≡ e = cc in omega arith
  laid_grows n e (k ∷ ks) is =
      let h = tested (ltb k.number n) (eqb k.first n) (laid (n + k.count) ks) e is in
      let rest = laid_grows (n + k.count) e ks h.2 in
      omega arith

  number_of : (number : ℕ) (b : Bool) (k l : Entry V) → b ≡ eqb k.number number → cond b (Some k) None ≡ Some l
      → (k ≡ l) × (k.number ≡ number)
  number_of number true k l test is = (cc, eqb-true k.number number (sym test))
  number_of number false k l test is = absurd (cc)

  -- what is kept of a task has its number, which is below that of all tasks
  later_or : (n e number : ℕ) (k l : Entry V) (o : Option (Entry V)) → k.number < n → n ≤ e
      → ((m : Entry V) → o ≡ Some m → (m.number ≡ number) × (number < e)) → option_or o (if_number number k) ≡ Some l
      → (l.number ≡ number) × (number < e)
  later_or n e number k l None under grows rest is =
      let own = number_of number (eqb k.number number) k l refl is in
      let same = own.1 in
      (ap (λ (x : Entry V). x.number) (sym own.0) ∙ own.1, omega arith)
  later_or n e number k l (Some m) under grows rest is = rest l is

  pub latest_within : (n e number : ℕ) (ks : List (Entry V)) (l : Entry V) → laid n ks ≡ Some e → latest ks number ≡ Some l
      → (l.number ≡ number) × (number < e)
  latest_within n e number [] l is found = absurd (cc)
  latest_within n e number (k ∷ ks) l is found =
      let h = tested (ltb k.number n) (eqb k.first n) (laid (n + k.count) ks) e is in
      let under = ltb-true k.number n h.0 in
      let grows = laid_grows (n + k.count) e ks h.2 in
      later_or n e number k l (latest ks number) under (omega arith) (λ m at. latest_within (n + k.count) e number ks m h.2 at) found

  if_same : (k : Entry V) → if_number k.number k ≡ Some k
  if_same k = ap (λ b. cond b (Some k) None) (eq-eqb k.number k.number refl)

  if_other : (k : Entry V) (number : ℕ) → (number ≡ k.number → ⊥) → if_number number k ≡ None
  if_other k number differs = ap (λ b. cond b (Some k) None) (ne_eqb k.number number (λ e. differs (sym e)))

  -- what is kept last of a task, once one more is kept
  pub latest_same : (ks : List (Entry V)) (k : Entry V) → latest (ks ++ k ∷ []) k.number ≡ Some k
  latest_same [] k = if_same k
  latest_same (x ∷ ks) k = ap (λ o. option_or o (if_number k.number x)) (latest_same ks k)

  pub latest_other : (ks : List (Entry V)) (k : Entry V) (number : ℕ) → (number ≡ k.number → ⊥)
      → latest (ks ++ k ∷ []) number ≡ latest ks number
  latest_other [] k number differs = if_other k number differs
  latest_other (x ∷ ks) k number differs = ap (λ o. option_or o (if_number number x)) (latest_other ks k number differs)
