-- Definitions of variables by their names.
use Rattle.std.proofs.Common.{◌≡◌, ℕ, zero, suc, ◌+◌, Bool, true, false, cond, List, [], ◌∷◌, ◌++◌, map, take, length, Option, Some, None, is_some, slice_get, Bor, refl, ap, sym, ◌∙◌, subst, add-one, arith, append_assoc, length-append}
use Rattle.std.specs.Prelude.{option_and_then}
use Rattle.std.specs.Bool.{one_answer}
use Rattle.std.specs.Slice.{IsItemAt}
use Rattle.std.proofs.lemmas.List.{append-nil, take_more}
use Rattle.std.proofs.lemmas.Option.{get_or_from_slice_get, slice_get_past, slice_get_read, slice_get_within}
use Rattle.std.specs.Option.{option_copied, option_map}
use Rattle.std.specs.Str.{bytes_eq}
use Rattle.std.specs.Cmp.Lexicographic.{bytes_decides}
use Rattle.std.proofs.Math.ListN.{length-map}
use Rattle.std.proofs.lemmas.List.{map-append}
use Rattle.gql_base.specs.Names.{place_of}
use Rattle.gql_base.specs.Pairs.{under}
use Rattle.gql_base.proofs.NamesLemmas.{or_at, place_pushed}
use Rattle.gql_doc.specs.declared.document.Positioned.{Positioned}
use Rattle.gql_doc.specs.declared.document.VariableDefinition.{VariableDefinition}
use Rattle.gql_request.specs.Defined.{defined_name, first_definition, definition_places, with_place, with_places}

-- what stands under a name once another comes last
under-last : (n m : List ℕ) (i : ℕ) (ps : List (List ℕ × ℕ)) → under n (ps ++ (m, i) ∷ []) ≡ or_at (under n ps) (bytes_eq n m) i
under-last n m i [] = refl
under-last n m i (p ∷ ps) =
    let P : Bool → Type 0 = λ b. cond b (Some p.1) (under n (ps ++ (m, i) ∷ [])) ≡ or_at (cond b (Some p.1) (under n ps)) (bytes_eq n m) i in
    elim (bytes_eq n p.0) as P [ true ↦ refl | false ↦ under-last n m i ps ]

-- a name that is there keeps its place
there-already : (o : Option ℕ) (here : Bool) (i : ℕ) → (here ≡ true → is_some o ≡ true) → o ≡ or_at o here i
there-already (Some j) here i h = refl
there-already None true i h = let e : false ≡ true = h refl in cc
there-already None false i h = refl

module _ (n : List ℕ) where
  -- what stands under a name once the place of one more definition is kept
  under-with : (ps : List (List ℕ × ℕ)) (d : Positioned VariableDefinition) (i : ℕ)
      → under n (with_place ps d i) ≡ or_at (under n ps) (bytes_eq n (defined_name d)) i
  under-with ps d i =
      let m = defined_name d in
      let P : Bool → Type 0 = λ b. (is_some (under m ps) ≡ b) → under n (cond b ps (ps ++ (m, i) ∷ [])) ≡ or_at (under n ps) (bytes_eq n m) i in
      (elim (is_some (under m ps)) as P [
        | true ↦ λ h. there-already (under n ps) (bytes_eq n m) i (λ same. ap (λ k. is_some (under k ps)) ((bytes_decides n m).0 same) ∙ h)
        | false ↦ λ h. under-last n m i ps
      ]) refl

  -- the places of some definitions, and what stands under the name there
  abbrev Tells : List (Positioned VariableDefinition) → List (List ℕ × ℕ) → Type 0
  Tells ds places = under n places ≡ place_of n (map defined_name ds)

  tells_one : (ds : List (Positioned VariableDefinition)) (d : Positioned VariableDefinition) (places : List (List ℕ × ℕ)) → Tells ds places
      → Tells (ds ++ d ∷ []) (with_place places d (length ds))
  tells_one ds d places tells =
      under-with places d (length ds)
      ∙ (λ j. or_at (tells j) (bytes_eq n (defined_name d)) (sym (length-map ds defined_name) j))
      ∙ sym (place_pushed n (defined_name d) (map defined_name ds))
      ∙ ap (place_of n) (sym (map-append defined_name ds (d ∷ [])))

  tells_all : (before ds : List (Positioned VariableDefinition)) (places : List (List ℕ × ℕ)) → Tells before places
      → Tells (before ++ ds) (with_places places (length before) ds)
  tells_all before [] places tells = subst (λ xs. Tells xs places) (sym (append-nil before)) tells
  tells_all before (d ∷ ds) places tells =
      let more = with_place places d (length before) in
      let long : length (before ++ d ∷ []) ≡ suc (length before) = length-append before (d ∷ []) ∙ add-one (length before) in
      let rest = tells_all (before ++ d ∷ []) ds more (tells_one before d places tells) in
      subst (λ xs. Tells xs (with_places more (suc (length before)) ds)) (append_assoc before (d ∷ []) ds)
      (subst (λ k. Tells ((before ++ d ∷ []) ++ ds) (with_places more k ds)) long rest)

  places_tell : (ds : List (Positioned VariableDefinition)) → Tells ds (definition_places ds)
  places_tell ds = tells_all [] ds [] refl

  turned : (m : List ℕ) → bytes_eq m n ≡ bytes_eq n m
  turned m = let d = bytes_decides n m in one_answer (bytes_eq m n) (bytes_eq n m) (bytes_decides m n) (λ e. sym (d.0 e), λ e. d.1 (sym e))

  next-at : {A : Type 0} (x : A) (xs : List A) (o : Option ℕ) → option_and_then (slice_get (x ∷ xs)) (option_map (λ p. suc p) o) ≡ option_and_then (slice_get xs) o
  next-at x xs None = refl
  next-at x xs (Some k) = refl

  -- the definition at the place of a name is the first of that name
  definition_at : (ds : List (Positioned VariableDefinition)) → option_and_then (slice_get ds) (place_of n (map defined_name ds)) ≡ first_definition n ds
  definition_at [] = refl
  definition_at (d ∷ ds) =
      let P : Bool → Type 0 = λ b. option_and_then (slice_get (d ∷ ds)) (cond b (Some 0) (option_map (λ p. suc p) (place_of n (map defined_name ds))))
      ≡ cond b (Some d) (first_definition n ds) in
      (elim (bytes_eq n (defined_name d)) as P [
        | true ↦ refl
        | false ↦ next-at d ds (place_of n (map defined_name ds)) ∙ definition_at ds
      ]) ∙ ap (λ b. cond b (Some d) (first_definition n ds)) (sym (turned (defined_name d)))

-- an item of a slice, as it is lent
item_read : {X : Type 0} (xs : List X) (i : ℕ) (r : Option (Bor X)) → IsItemAt xs i r → option_copied r ≡ slice_get xs i
item_read xs i None (same, is, there, cases, any) = sym (slice_get_past xs i cases)
item_read xs i (Some x) (same, is, there, cases, any) = sym (slice_get_read xs (length xs) i x.now refl cases.0 is)

-- what is looked up by places
module _ (n : List ℕ) (ds : List (Positioned VariableDefinition)) (places : List (List ℕ × ℕ)) (all : List (Positioned VariableDefinition))
    (are : places ≡ definition_places ds) (shown : ds ≡ all) where
  found_by : option_and_then (slice_get ds) (under n places) ≡ first_definition n all
  found_by =
      ap (option_and_then (slice_get ds)) (ap (under n) are ∙ places_tell n ds) ∙ definition_at n ds ∙ ap (first_definition n) shown

  pub not_defined : under n places ≡ None → None ≡ first_definition n all
  not_defined none = ap (option_and_then (slice_get ds)) (sym none) ∙ found_by

  pub defined_at : (place : ℕ) (r : Option (Bor (Positioned VariableDefinition))) → under n places ≡ Some place → IsItemAt ds place r
      → option_copied r ≡ first_definition n all
  defined_at place r found lent = item_read ds place r lent ∙ ap (option_and_then (slice_get ds)) (sym found) ∙ found_by

-- the places of one definition more
last_place : (places : List (List ℕ × ℕ)) (k : ℕ) (ds : List (Positioned VariableDefinition)) (d : Positioned VariableDefinition)
    → with_places places k (ds ++ d ∷ []) ≡ with_place (with_places places k ds) d (k + length ds)
last_place places k [] d = let same : k ≡ k + 0 = omega arith in ap (with_place places d) same
last_place places k (x ∷ ds) d =
    let same : suc k + length ds ≡ k + suc (length ds) = omega arith in
    last_place (with_place places x k) (suc k) ds d ∙ ap (with_place (with_places (with_place places x k) (suc k) ds) d) same

length-taken : (xs : List (Positioned VariableDefinition)) (k : ℕ) (x : Positioned VariableDefinition) → slice_get xs k ≡ Some x → k ≡ length (take k xs)
length-taken [] k x here = cc
length-taken (y ∷ xs) zero x here = refl
length-taken (y ∷ xs) (suc k) x here = ap suc (length-taken xs k x here)

pub places_more : (ds : List (Positioned VariableDefinition)) (i : ℕ) (d : Positioned VariableDefinition) (places more : List (List ℕ × ℕ)) → slice_get ds i ≡ Some d
    → places ≡ definition_places (take i ds) → more ≡ with_place places d i → more ≡ definition_places (take (i + 1) ds)
places_more ds i d places more at before told =
    let longer : take (i + 1) ds ≡ take i ds ++ d ∷ []
    = take_more ds i d (slice_get_within ds i d at) ∙ ap (λ x. take i ds ++ x ∷ []) (get_or_from_slice_get ds i d d at) in
    let behind : length (take i ds) ≡ 0 + length (take i ds) = omega arith in
    let end : i ≡ 0 + length (take i ds) = length-taken ds i d at ∙ behind in
    told ∙ (λ j. with_place (before j) d (end j)) ∙ sym (last_place [] 0 (take i ds) d) ∙ ap definition_places (sym longer)
