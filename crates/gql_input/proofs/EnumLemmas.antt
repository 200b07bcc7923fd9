-- What a search among the items of an enum knows of those that it has passed.
use Rattle.std.proofs.Common.{◌≡◌, ℕ, zero, suc, ◌+◌, Bool, true, false, cond, List, [], ◌∷◌, take, Option, Some, None, Ok, slice_get, refl, ap, sym, ◌∙◌, add-one, arith}
use Rattle.std.specs.List.{Contains}
use Rattle.std.specs.Option.{ok_or}
use Rattle.std.specs.Str.{bytes_eq}
use Rattle.std.specs.Cmp.Lexicographic.{bytes_decides}
use Rattle.gql_base.specs.Kinds.{enum_name_of}
use Rattle.gql_base.specs.Pairs.{HasDistinctNames, under}
use Rattle.gql_base.specs.declared.value.Value.{Value}
use Rattle.gql_input.specs.EnumType.{AreApart, IsReadAs, IsReadBack, name_of_item, no_item_text, read_enum, read_name, values_of}
use Rattle.gql_input.specs.InputValueError.{custom_text, plain}

module _ {X T : Type 0} (pass : X → Bool) (give : X → T) where
  -- what the first gives that passes
  abbrev found : List X → Option T
  found [] = None
  found (x ∷ xs) = cond (pass x) (Some (give x)) (found xs)

  found-more : (xs : List X) (i : ℕ) (x : X) → found (take i xs) ≡ None → slice_get xs i ≡ Some x → pass x ≡ false → found (take (suc i) xs) ≡ None
  found-more [] i x before at fails = cc
  found-more (y ∷ ys) zero x before at fails =
      let same : y ≡ x = cc in
      rw same (rw fails refl)
  found-more (y ∷ ys) (suc i) x before at fails =
      let P : Bool → Type 0 = λ b. cond b (Some (give y)) (found (take i ys)) ≡ None → cond b (Some (give y)) (found (take (suc i) ys)) ≡ None in
      (elim (pass y) as P [ true ↦ λ h. cc | false ↦ λ h. found-more ys i x h at fails ]) before

  found-here : (xs : List X) (i : ℕ) (x : X) → found (take i xs) ≡ None → slice_get xs i ≡ Some x → pass x ≡ true → Some (give x) ≡ found xs
  found-here [] i x before at passes = cc
  found-here (y ∷ ys) zero x before at passes =
      let same : y ≡ x = cc in
      rw same (rw passes refl)
  found-here (y ∷ ys) (suc i) x before at passes =
      let P : Bool → Type 0 = λ b. cond b (Some (give y)) (found (take i ys)) ≡ None → Some (give x) ≡ cond b (Some (give y)) (found ys) in
      (elim (pass y) as P [ true ↦ λ h. cc | false ↦ λ h. found-here ys i x h at passes ]) before

module _ {T : Type 0} where
  under-found : (n : List ℕ) (ps : List (List ℕ × T)) → under n ps ≡ found (λ (p : List ℕ × T). bytes_eq n p.0) (λ p. p.1) ps
  under-found n [] = refl
  under-found n (p ∷ ps) = ap (λ o. cond (bytes_eq n p.0) (Some p.1) o) (under-found n ps)

  name-found : (same : T → T → Bool) (v : T) (ps : List (List ℕ × T)) → name_of_item same v ps ≡ found (λ (p : List ℕ × T). same p.1 v) (λ p. p.0) ps
  name-found same v [] = refl
  name-found same v (p ∷ ps) = ap (λ o. cond (same p.1 v) (Some p.0) o) (name-found same v ps)

  -- the value under a name, searched from the front
  pub under_more : (n : List ℕ) (ps : List (List ℕ × T)) (i : ℕ) (p : List ℕ × T) (passed : Bool) → under n (take i ps) ≡ None → slice_get ps i ≡ Some p
      → passed ≡ bytes_eq n p.0 → passed ≡ false → under n (take (i + 1) ps) ≡ None
  under_more n ps i p passed before at told so =
      under-found n (take (i + 1) ps)
      ∙ rw add-one (found-more (λ (q : List ℕ × T). bytes_eq n q.0) (λ q. q.1) ps i p (sym (under-found n (take i ps)) ∙ before) at (sym told ∙ so))

  pub under_here : (n : List ℕ) (ps : List (List ℕ × T)) (i : ℕ) (p : List ℕ × T) (passed : Bool) → under n (take i ps) ≡ None → slice_get ps i ≡ Some p
      → passed ≡ bytes_eq n p.0 → passed ≡ true → Some p.1 ≡ under n ps
  under_here n ps i p passed before at told so =
      found-here (λ (q : List ℕ × T). bytes_eq n q.0) (λ q. q.1) ps i p (sym (under-found n (take i ps)) ∙ before) at (sym told ∙ so) ∙ sym (under-found n ps)

  -- the name of a value, searched from the front
  pub name_more : (same : T → T → Bool) (v : T) (ps : List (List ℕ × T)) (i : ℕ) (p : List ℕ × T) (passed : Bool) → name_of_item same v (take i ps) ≡ None
      → slice_get ps i ≡ Some p → passed ≡ same p.1 v → passed ≡ false → name_of_item same v (take (i + 1) ps) ≡ None
  name_more same v ps i p passed before at told so =
      name-found same v (take (i + 1) ps)
      ∙ rw add-one (found-more (λ (q : List ℕ × T). same q.1 v) (λ q. q.0) ps i p (sym (name-found same v (take i ps)) ∙ before) at (sym told ∙ so))

  pub name_here : (same : T → T → Bool) (v : T) (ps : List (List ℕ × T)) (i : ℕ) (p : List ℕ × T) (passed : Bool) → name_of_item same v (take i ps) ≡ None
      → slice_get ps i ≡ Some p → passed ≡ same p.1 v → passed ≡ true → Some p.0 ≡ name_of_item same v ps
  name_here same v ps i p passed before at told so =
      found-here (λ (q : List ℕ × T). same q.1 v) (λ q. q.0) ps i p (sym (name-found same v (take i ps)) ∙ before) at (sym told ∙ so) ∙ sym (name-found same v ps)

-- where names differ, the name of an item's value stands for a value that the test calls the same
pub back_from_name : {T : Type 0} (same : T → T → Bool) (v : T) (n : List ℕ) (ps : List (List ℕ × T))
    → HasDistinctNames ps → name_of_item same v ps ≡ Some n → (w : T) × (under n ps ≡ Some w) × (same w v ≡ true)
back_from_name same v n [] distinct named = cc
back_from_name same v n (p ∷ ps) (fresh, distinct) named =
    let P : Bool → Type 0 = λ b. (same p.1 v ≡ b) → cond b (Some p.0) (name_of_item same v ps) ≡ Some n → (w : _) × (under n (p ∷ ps) ≡ Some w) × (same w v ≡ true) in
    (elim (same p.1 v) as P [
      | true ↦ λ e h.
          let here : p.0 ≡ n = cc in
          let itself : bytes_eq n p.0 ≡ true = (bytes_decides n p.0).1 (sym here) in
          (p.1, rw itself refl, e)
      | false ↦ λ e h. behind (back_from_name same v n ps distinct h)
    ]) refl named
  where
    behind : ((w : _) × (under n ps ≡ Some w) × (same w v ≡ true)) → (w : _) × (under n (p ∷ ps) ≡ Some w) × (same w v ≡ true)
    behind (w, rest, held) =
        let Q : Bool → Type 0 = λ b. (b ≡ true → n ≡ p.0) → cond b (Some p.1) (under n ps) ≡ Some w in
        let told = (elim (bytes_eq n p.0) as Q [
          | true ↦ λ told. (let none : under n ps ≡ None = ap (λ m. under m ps) (told refl) ∙ fresh in cc)
          | false ↦ λ told. rest
        ]) (bytes_decides n p.0).0 in
        (w, told, held)

-- where names differ, an item's value is read back from a value that is the name that stands for it
pub read_back : {T : Type 0} (same : T → T → Bool) (v : T) (n : List ℕ) (made : Value) (ps : List (List ℕ × T)) → HasDistinctNames ps → name_of_item same v ps ≡ Some n
    → enum_name_of made ≡ Some n → IsReadBack same ps v made
read_back same v n made ps distinct named is type_name = by (back_from_name same v n ps distinct named)
  where
    by : ((w : _) × (under n ps ≡ Some w) × (same w v ≡ true)) → (w : _) × (read_enum type_name ps made ≡ Ok w) × (same w v ≡ true)
    by (w, at, held) = (w, ap (read_name type_name ps made) is ∙ ap (λ o. ok_or o (plain (custom_text type_name (no_item_text n)))) at, held)

under_stands : {T : Type 0} (n : List ℕ) (ps : List (List ℕ × T)) (w : T) → under n ps ≡ Some w → Contains (values_of ps) w
under_stands n [] w at = cc
under_stands n (p ∷ ps) w at =
    let P : Bool → Type 0 = λ b. cond b (Some p.1) (under n ps) ≡ Some w → Contains (values_of (p ∷ ps)) w in
    (elim (bytes_eq n p.0) as P [ true ↦ λ h. (let same : p.1 ≡ w = cc in (zero, omega arith, same)) | false ↦ λ h. behind (under_stands n ps w h) ]) at
  where
    behind : Contains (values_of ps) w → Contains (values_of (p ∷ ps)) w
    behind (k, lt, at) = (suc k, omega arith, at)

same_is_it : {T : Type 0} (same : T → T → Bool) (xs : List T) (w v : T) → AreApart same xs → Contains xs w → Contains xs v → same w v ≡ true → w ≡ v
same_is_it same [] w v apart (k, lt, at) stands held = absurd (omega arith)
same_is_it same (x ∷ xs) w v (apart, rest) (zero, lt, at) (zero, lt', at') held = sym at ∙ at'
same_is_it same (x ∷ xs) w v (apart, rest) (zero, lt, at) (suc j, lt', at') held =
    let told : same x v ≡ false = (apart v (j, omega arith, at')).0 in
    let same : x ≡ w = at in
    cc
same_is_it same (x ∷ xs) w v (apart, rest) (suc i, lt, at) (zero, lt', at') held =
    let told : same w x ≡ false = (apart w (i, omega arith, at)).1 in
    let same : x ≡ v = at' in
    cc
same_is_it same (x ∷ xs) w v (apart, rest) (suc i, lt, at) (suc j, lt', at') held = same_is_it same xs w v rest (i, omega arith, at) (j, omega arith, at') held

-- where the values differ, too, it is read back as itself
pub given_back : {T : Type 0} (same : T → T → Bool) (v : T) (n : List ℕ) (made : Value) (ps : List (List ℕ × T)) → HasDistinctNames ps → name_of_item same v ps ≡ Some n
    → enum_name_of made ≡ Some n → AreApart same (values_of ps) → Contains (values_of ps) v → IsReadAs ps v made
given_back same v n made ps distinct named is apart stands type_name = by (back_from_name same v n ps distinct named)
  where
    by : ((w : _) × (under n ps ≡ Some w) × (same w v ≡ true)) → read_enum type_name ps made ≡ Ok v
    by (w, at, held) =
        let it = same_is_it same (values_of ps) w v apart (under_stands n ps w at) stands held in
        ap (read_name type_name ps made) is ∙ ap (λ o. ok_or o (plain (custom_text type_name (no_item_text n)))) (at ∙ ap Some it)
