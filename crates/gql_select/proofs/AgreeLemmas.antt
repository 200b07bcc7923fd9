-- Agreement of sets, of parts of sets and of sets put together.
use Rattle.std.proofs.Common.{ℕ, zero, suc, List, ◌++◌, sym, subst}
use Rattle.std.specs.Prelude.{◌⊎◌}
use Rattle.std.proofs.Common.{inl, inr}
use Rattle.std.specs.List.{Contains}
use Rattle.std.proofs.lemmas.List.Elements.{Contains-append_left, Contains-append_right, Contains-append_cases}
use Rattle.gql_select.specs.Reading.{Reading, IsReading}
use Rattle.gql_select.specs.Conflicts.{Agree}

module _ {O F X : Type 0} (reading : Reading O F X) (is : IsReading reading) where
  pub in_left : (o : O) (xs ys : List X) (f : F) → Contains (reading.fields o xs) f → Contains (reading.fields o (xs ++ ys)) f
  in_left o xs ys f h =
      subst (λ fs. Contains fs f) (sym (is.fields_of_both o xs ys)) (Contains-append_left (reading.fields o xs) (reading.fields o ys) f h)

  pub in_right : (o : O) (xs ys : List X) (f : F) → Contains (reading.fields o ys) f → Contains (reading.fields o (xs ++ ys)) f
  in_right o xs ys f h =
      subst (λ fs. Contains fs f) (sym (is.fields_of_both o xs ys)) (Contains-append_right (reading.fields o xs) (reading.fields o ys) f h)

  in_either : (o : O) (xs ys : List X) (f : F) → Contains (reading.fields o (xs ++ ys)) f → Contains (reading.fields o xs) f ⊎ Contains (reading.fields o ys) f
  in_either o xs ys f h =
      Contains-append_cases (reading.fields o xs) (reading.fields o ys) f (subst (λ fs. Contains fs f) (is.fields_of_both o xs ys) h)

  -- what agrees with a whole agrees with its parts
  pub agree_left_one : (n : ℕ) (o : O) (xs ys zs : List X) → Agree reading n o (xs ++ ys) zs → Agree reading n o xs zs
  agree_left_one zero o xs ys zs h = tt
  agree_left_one (suc n) o xs ys zs h = λ f g in_f in_g same. h f g (in_left o xs ys f in_f) in_g same

  pub agree_left_two : (n : ℕ) (o : O) (xs ys zs : List X) → Agree reading n o (xs ++ ys) zs → Agree reading n o ys zs
  agree_left_two zero o xs ys zs h = tt
  agree_left_two (suc n) o xs ys zs h = λ f g in_f in_g same. h f g (in_right o xs ys f in_f) in_g same

  pub agree_right_one : (n : ℕ) (o : O) (xs ys zs : List X) → Agree reading n o zs (xs ++ ys) → Agree reading n o zs xs
  agree_right_one zero o xs ys zs h = tt
  agree_right_one (suc n) o xs ys zs h = λ f g in_f in_g same. h f g in_f (in_left o xs ys g in_g) same

  pub agree_right_two : (n : ℕ) (o : O) (xs ys zs : List X) → Agree reading n o zs (xs ++ ys) → Agree reading n o zs ys
  agree_right_two zero o xs ys zs h = tt
  agree_right_two (suc n) o xs ys zs h = λ f g in_f in_g same. h f g in_f (in_right o xs ys g in_g) same

  -- what agrees with the parts agrees with the whole
  pub agree_left : (n : ℕ) (o : O) (xs ys zs : List X) → Agree reading n o xs zs → Agree reading n o ys zs → Agree reading n o (xs ++ ys) zs
  agree_left zero o xs ys zs a b = tt
  agree_left (suc n) o xs ys zs a b = λ f g in_f in_g same.
      elim (in_either o xs ys f in_f) [ inl h ↦ a f g h in_g same | inr h ↦ b f g h in_g same ]

  pub agree_right : (n : ℕ) (o : O) (xs ys zs : List X) → Agree reading n o zs xs → Agree reading n o zs ys → Agree reading n o zs (xs ++ ys)
  agree_right zero o xs ys zs a b = tt
  agree_right (suc n) o xs ys zs a b = λ f g in_f in_g same.
      elim (in_either o xs ys g in_g) [ inl h ↦ a f g in_f h same | inr h ↦ b f g in_f h same ]

  pub agree_whole : (n : ℕ) (o : O) (xs ys : List X) → Agree reading n o xs xs → Agree reading n o xs ys → Agree reading n o ys xs → Agree reading n o ys ys
      → Agree reading n o (xs ++ ys) (xs ++ ys)
  agree_whole n o xs ys a b c d =
      agree_left n o xs ys (xs ++ ys) (agree_right n o xs ys xs a b) (agree_right n o xs ys ys c d)
