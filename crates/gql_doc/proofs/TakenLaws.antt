-- Pairs to which a part is added under its name, unless the name is taken.
use Rattle.std.proofs.Common.{◌≡◌, ℕ, Bool, true, false, cond, ◌||◌, List, [], ◌∷◌, ◌++◌, Option, Some, None, is_some, Result, Ok, Err, OnOk, Bor, refl, sym, ap, ◌∙◌}
use Rattle.std.specs.Option.{option_copied, option_or}
use Rattle.std.specs.Str.{bytes_eq}
use Rattle.gql_base.specs.Pairs.{names_of, under}
use Rattle.gql_base.specs.declared.pos.Pos.{Pos}
use Rattle.gql_doc.specs.Drafts.{with_fresh}
use Rattle.gql_doc.specs.NameRules.{is_among, if_among}

module _ {A : Type 0} (name : List ℕ) where
  -- a name is taken where something stands under it
  among_is : (pairs : List (List ℕ × A)) → is_some (under name pairs) ≡ is_among name (names_of pairs)
  among_is [] = refl
  among_is (p ∷ pairs) =
      let P : Bool → Type 0 = λ b. is_some (cond b (Some p.1) (under name pairs)) ≡ (b || is_among name (names_of pairs)) in
      elim (bytes_eq name p.0) as P [ true ↦ refl | false ↦ among_is pairs ]

  copied_is : (found : Option (Bor A)) → is_some found ≡ is_some (option_copied found)
  copied_is None = refl
  copied_is (Some x) = refl

  -- what a look under the name tells of it
  pub looked_up : (pairs : List (List ℕ × A)) (found : Option (Bor A)) (there b : Bool) → option_copied found ≡ under name pairs → there ≡ is_some found → there ≡ b
      → is_among name (names_of pairs) ≡ b
  looked_up pairs found there b got told is =
      sym (among_is pairs) ∙ sym (ap is_some got) ∙ sym (copied_is found) ∙ sym told ∙ is

  pub pairs_stay : (pairs : List (List ℕ × A)) (part : A) → is_among name (names_of pairs) ≡ true → pairs ≡ with_fresh pairs name part
  pairs_stay pairs part taken = ap (λ b. cond b pairs (pairs ++ (name, part) ∷ [])) (sym taken)

  pub pairs_grow : {E : Type 0} (result : Result (Unit {0}) E) (pairs new : List (List ℕ × A)) (part : A) → is_among name (names_of pairs) ≡ false
      → OnOk result (new ≡ pairs ++ (name, part) ∷ []) → OnOk result (new ≡ with_fresh pairs name part)
  pairs_grow (Err e) pairs new part free added = tt
  pairs_grow (Ok u) pairs new part free added = added ∙ ap (λ b. cond b pairs (pairs ++ (name, part) ∷ [])) (sym free)

  pub doubled_here : (pairs : List (List ℕ × A)) (pos : Pos) (before within now : Option Pos) → is_among name (names_of pairs) ≡ true → now ≡ option_or before (Some pos)
      → now ≡ option_or before (option_or (if_among (names_of pairs) name pos) within)
  doubled_here pairs pos before within now taken is = is ∙ ap (λ b. option_or before (option_or (cond b (Some pos) None) within)) (sym taken)

  pub doubled_within : {E : Type 0} (result : Result (Unit {0}) E) (pairs : List (List ℕ × A)) (pos : Pos) (before within now : Option Pos) → is_among name (names_of pairs) ≡ false → now ≡ option_or before within
      → OnOk result (now ≡ option_or before (option_or (if_among (names_of pairs) name pos) within))
  doubled_within (Err e) pairs pos before within now free is = tt
  doubled_within (Ok u) pairs pos before within now free is = is ∙ ap (λ b. option_or before (option_or (cond b (Some pos) None) within)) (sym free)
