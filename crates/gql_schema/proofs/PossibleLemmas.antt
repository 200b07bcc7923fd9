-- Names that are chosen from a table.
use Rattle.std.proofs.Common.{◌≡◌, ℕ, zero, suc, ◌+◌, Bool, true, false, ◌||◌, ◌&&◌, cond, List, [], ◌∷◌, ◌++◌, take, filter, Option, Some, None, slice_get, refl, ap, sym, ◌∙◌, add-one}
use Rattle.std.specs.Str.{bytes_eq}
use Rattle.std.specs.Cmp.Lexicographic.{bytes_decides}
use Rattle.gql_base.specs.Pairs.{under, names_of, HasDistinctNames}
use Rattle.gql_schema.specs.NameSet.{is_among}
use Rattle.gql_schema.specs.TableReading.{TypeTable, chosen, has_type, is_known_object, is_possible, is_possible_object}
use Rattle.gql_schema.specs.declared.schema_type.SchemaType.{SchemaType}
use Rattle.gql_schema.proofs.NameSetLemmas.{pair_among, under_among}

module _ {T : Type 0} (f : List ℕ × T → Bool) where
  chosen-one : (n : List ℕ) (x : T) → names_of (filter f ((n, x) ∷ [])) ≡ chosen (f (n, x)) n
  chosen-one n x =
      let P : Bool → Type 0 = λ b. names_of (cond b ((n, x) ∷ []) []) ≡ chosen b n in
      elim (f (n, x)) as P [ true ↦ refl | false ↦ refl ]

  chosen-more : (ps : List (List ℕ × T)) (i : ℕ) (n : List ℕ) (x : T) → slice_get ps i ≡ Some (n, x)
      → names_of (filter f (take (suc i) ps)) ≡ names_of (filter f (take i ps)) ++ chosen (f (n, x)) n
  chosen-more [] i n x at = cc
  chosen-more (p ∷ ps) zero n x at =
      let same : p ≡ (n, x) = cc in
      rw same (chosen-one n x)
  chosen-more (p ∷ ps) (suc i) n x at =
      let P : Bool → Type 0 = λ b. names_of (cond b (p ∷ filter f (take (suc i) ps)) (filter f (take (suc i) ps)))
      ≡ names_of (cond b (p ∷ filter f (take i ps)) (filter f (take i ps))) ++ chosen (f (n, x)) n in
      elim (f p) as P [ true ↦ ap (λ ns. p.0 ∷ ns) (chosen-more ps i n x at) | false ↦ chosen-more ps i n x at ]

  -- one more pair adds its name where it is chosen
  pub chosen_more : (ps : List (List ℕ × T)) (i : ℕ) (n : List ℕ) (x : T) (ns ms : List (List ℕ)) (b : Bool) → slice_get ps i ≡ Some (n, x)
      → ns ≡ names_of (filter f (take i ps)) → b ≡ f (n, x) → ms ≡ ns ++ chosen b n → ms ≡ names_of (filter f (take (i + 1) ps))
  chosen_more ps i n x ns ms b at before told made =
      made ∙ (λ j. before j ++ chosen (told j) n) ∙ sym (rw add-one (chosen-more ps i n x at))

  -- a name that isn't there isn't chosen
  unchosen : (ps : List (List ℕ × T)) (n : List ℕ) → is_among n (names_of ps) ≡ false → is_among n (names_of (filter f ps)) ≡ false
  unchosen [] n absent = refl
  unchosen (p ∷ ps) n absent =
      let P : Bool → Type 0 = λ b. (b || is_among n (names_of ps)) ≡ false → (c : Bool) → (bytes_eq n p.0 ≡ b)
      → is_among n (names_of (cond c (p ∷ filter f ps) (filter f ps))) ≡ false in
      (elim (bytes_eq n p.0) as P [
        | true ↦ λ h c e. cc
        | false ↦ λ h c e.
            let Q : Bool → Type 0 = λ d. is_among n (names_of (cond d (p ∷ filter f ps) (filter f ps))) ≡ false in
            elim c as Q [ true ↦ rw e (unchosen ps n h) | false ↦ unchosen ps n h ]
      ]) absent (f p) refl

  different : (ps : List (List ℕ × T)) (p : List ℕ × T) (i : ℕ) (n : List ℕ) (x : T) → under p.0 ps ≡ None → slice_get ps i ≡ Some (n, x) → bytes_eq n p.0 ≡ true → ⊥
  different ps p i n x fresh at same =
      let named : n ≡ p.0 = (bytes_decides n p.0).0 same in
      let absent : is_among n (names_of ps) ≡ false = ap (λ m. is_among m (names_of ps)) named ∙ under_among p.0 ps fresh in
      let there : is_among n (names_of ps) ≡ true = pair_among ps i n x at in
      cc

  -- the name of a pair isn't among those that are chosen before it
  pub fresh_chosen : (ps : List (List ℕ × T)) (i : ℕ) (n : List ℕ) (x : T) → HasDistinctNames ps → slice_get ps i ≡ Some (n, x)
      → is_among n (names_of (filter f (take i ps))) ≡ false
  fresh_chosen [] i n x distinct at = cc
  fresh_chosen (p ∷ ps) zero n x distinct at = refl
  fresh_chosen (p ∷ ps) (suc i) n x (fresh, distinct) at =
      let before : is_among n (names_of (filter f (take i ps))) ≡ false = fresh_chosen ps i n x distinct at in
      let P : Bool → Type 0 = λ b. (bytes_eq n p.0 ≡ b) → (c : Bool) → is_among n (names_of (cond c (p ∷ filter f (take i ps)) (filter f (take i ps)))) ≡ false in
      (elim (bytes_eq n p.0) as P [
        | true ↦ λ e c. absurd (different ps p i n x fresh at e)
        | false ↦ λ e c.
            let Q : Bool → Type 0 = λ d. is_among n (names_of (cond d (p ∷ filter f (take i ps)) (filter f (take i ps)))) ≡ false in
            elim c as Q [ true ↦ rw e before | false ↦ before ]
      ]) refl (f p)

  abbrev test_under : List ℕ → Option T → Bool
  test_under n None = false
  test_under n (Some x) = f (n, x)

  -- a name is chosen where what stands under it passes
  tested : (ps : List (List ℕ × T)) (n : List ℕ) → HasDistinctNames ps → is_among n (names_of (filter f ps)) ≡ test_under n (under n ps)
  tested [] n distinct = refl
  tested (p ∷ ps) n (fresh, distinct) =
      let P : Bool → Type 0 = λ b. (b ≡ true → n ≡ p.0) → (bytes_eq n p.0 ≡ b)
      → is_among n (names_of (cond (f p) (p ∷ filter f ps) (filter f ps))) ≡ test_under n (cond b (Some p.1) (under n ps)) in
      (elim (bytes_eq n p.0) as P [
        | true ↦ λ same e.
            let named : n ≡ p.0 = same refl in
            let absent : is_among n (names_of (filter f ps)) ≡ false = unchosen ps n (ap (λ m. is_among m (names_of ps)) named ∙ under_among p.0 ps fresh) in
            let Q : Bool → Type 0 = λ c. is_among n (names_of (cond c (p ∷ filter f ps) (filter f ps))) ≡ c in
            let here : is_among n (names_of (cond (f p) (p ∷ filter f ps) (filter f ps))) ≡ f p
            = elim (f p) as Q [ true ↦ rw e refl | false ↦ absent ] in
            here ∙ ap (λ m. f (m, p.1)) (sym named)
        | false ↦ λ same e.
            let Q : Bool → Type 0 = λ c. is_among n (names_of (cond c (p ∷ filter f ps) (filter f ps))) ≡ test_under n (under n ps) in
            elim (f p) as Q [ true ↦ rw e (tested ps n distinct) | false ↦ tested ps n distinct ]
      ]) (bytes_decides n p.0).0 refl

-- an object is among those that a type can be where the type has it
pub possible_tested : (table : TypeTable) (type object : List ℕ) → HasDistinctNames table
    → is_possible table type object ≡ (is_known_object (under object table) && has_type table type object)
possible_tested table type object distinct =
    tested (is_possible_object table type) table object distinct ∙ whole (under object table)
  where
    whole : (o : Option SchemaType) → test_under (is_possible_object table type) object o ≡ (is_known_object o && has_type table type object)
    whole None = refl
    whole (Some ty) = refl
