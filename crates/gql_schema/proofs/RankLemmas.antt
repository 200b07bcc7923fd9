-- Numbers that fall along what input objects need.
use Rattle.std.proofs.Common.{◌≡◌, ℕ, ◌-◌, ◌≤◌, ◌<◌, Bool, true, false, ◌||◌, ◌&&◌, cond, List, [], ◌∷◌, Option, Some, None, leb-true, refl, sym, ◌∙◌, subst, arith}
use Rattle.std.specs.List.{list_all, filter_map}
use Rattle.std.specs.Str.{bytes_eq}
use Rattle.std.specs.Cmp.Lexicographic.{bytes_decides}
use Rattle.std.specs.Bool.{Decides}
use Rattle.gql_base.specs.Names.{place_of}
use Rattle.gql_base.specs.Pairs.{under, names_of}
use Rattle.gql_schema.specs.InputObject.{input_fields}
use Rattle.gql_schema.specs.NameSet.{is_among}
use Rattle.gql_schema.specs.Ranks.{AreRanks, is_low, is_low_field, is_ranked, needs_low, rank_at, rank_of}
use Rattle.gql_schema.specs.Sound.{Reaches, at_once, further, needed_in, needed_name}
use Rattle.gql_schema.specs.TableReading.{TypeTable}
use Rattle.gql_schema.specs.declared.input_value.InputValue.{InputValue}
use Rattle.gql_schema.specs.declared.schema_type.SchemaType.{SchemaType}
use Rattle.gql_schema.specs.declared.schema_type.SchemaType.TheVariants as types

and-left : (a b : Bool) → (a && b) ≡ true → a ≡ true
and-left true b h = refl
and-left false b h = cc

and-right : (a b : Bool) → (a && b) ≡ true → b ≡ true
and-right true b h = h
and-right false b h = cc

none-among : (x : List ℕ) → is_among x [] ≡ true → ⊥
none-among x h = cc

module _ (table : TypeTable) (ranks : List ℕ) where
  rank : List ℕ → ℕ
  rank name = rank_of table ranks name

  low-name : (most : ℕ) (n x : List ℕ) → is_low table ranks most (Some n) ≡ true → x ≡ n → rank_of table ranks x ≤ most
  low-name most n x low same =
      let P : List ℕ → Type 0 = λ m. rank_of table ranks m ≤ most in
      subst P (sym same) (leb-true (rank_of table ranks n) most low)

  low-fields : (most : ℕ) (fs : List (List ℕ × InputValue)) (x : List ℕ) → list_all (is_low_field table ranks most) fs ≡ true
      → is_among x (filter_map needed_name fs) ≡ true → rank_of table ranks x ≤ most
  low-fields most [] x low need = absurd (none-among x need)
  low-fields most (f ∷ fs) x low need =
      let P : Option (List ℕ) → Type 0 = λ o. (needed_name f ≡ o) → (is_low table ranks most o && list_all (is_low_field table ranks most) fs) ≡ true
      → rank_of table ranks x ≤ most in
      (elim (needed_name f) as P [
        | None ↦ λ e h. low-fields most fs x h (rw e at need)
        | Some n ↦ λ e h.
            let Q : Bool → Type 0 = λ b. (b ≡ true → x ≡ n) → (b || is_among x (filter_map needed_name fs)) ≡ true → rank_of table ranks x ≤ most in
            (elim (bytes_eq x n) as Q [
              | true ↦ λ same there. low-name most n x (and-left _ _ h) (same refl)
              | false ↦ λ same there. low-fields most fs x (and-right _ _ h) there
            ]) (bytes_decides x n).0 (rw e at need)
      ]) refl low

  low-all : (most : ℕ) (ty : SchemaType) (x : List ℕ) → needs_low table ranks most (Some ty) ≡ true → is_among x (needed_in (Some ty)) ≡ true
      → rank_of table ranks x ≤ most
  low-all most (types.InputObject input) x low need = low-fields most (input_fields input) x low need
  low-all most (types.Scalar scalar) x low need = absurd (none-among x need)
  low-all most (types.Object object) x low need = absurd (none-among x need)
  low-all most (types.Enum enum) x low need = absurd (none-among x need)
  low-all most (types.Interface interface) x low need = absurd (none-among x need)
  low-all most (types.Union union) x low need = absurd (none-among x need)
  low-all most (types.Subscription subscription) x low need = absurd (none-among x need)

  low-known : (most : ℕ) (ty : Option SchemaType) (x : List ℕ) → needs_low table ranks most ty ≡ true → is_among x (needed_in ty) ≡ true
      → rank_of table ranks x ≤ most
  low-known most None x low need = absurd (none-among x need)
  low-known most (Some ty) x low need = low-all most ty x low need

  ranked-each : (ps : TypeTable) (from to : List ℕ) → list_all (is_ranked table ranks) ps ≡ true → is_among to (needed_in (under from ps)) ≡ true
      → rank_of table ranks to ≤ rank_of table ranks from
  ranked-each [] from to all need = absurd (none-among to need)
  ranked-each (p ∷ ps) from to all need =
      let P : Bool → Type 0 = λ b. (b ≡ true → from ≡ p.0) → is_among to (needed_in (cond b (Some p.1) (under from ps))) ≡ true
      → rank_of table ranks to ≤ rank_of table ranks from in
      let here : needs_low table ranks (rank_of table ranks p.0) (Some p.1) ≡ true = and-left _ _ all in
      (elim (bytes_eq from p.0) as P [
        | true ↦ λ same h.
            let Q : List ℕ → Type 0 = λ m. rank_of table ranks to ≤ rank_of table ranks m in
            subst Q (sym (same refl)) (low-all (rank_of table ranks p.0) p.1 to here h)
        | false ↦ λ same h. ranked-each ps from to (and-right _ _ all) h
      ]) (bytes_decides from p.0).0 need

  -- numbers that were tested at each type
  pub ranked_all : (tested : Bool) → tested ≡ list_all (is_ranked table ranks) table → tested ≡ true → AreRanks table ranks
  ranked_all tested told so = λ from to need. ranked-each table from to (sym told ∙ so) need

  -- from an input object whose needs have lower numbers none of its own number is reached
  falls-on : (most : ℕ) (start to : List ℕ) → AreRanks table ranks → needs_low table ranks most (under start table) ≡ true → Reaches table start to
      → rank_of table ranks to ≤ most
  falls-on most start _ ranked low (at_once to need) = low-known most (under start table) to low need
  falls-on most start _ ranked low (further via to before need) =
      let up = falls-on most start via ranked low before in
      let step = ranked via to need in
      omega (arith, up, step)

  pub falls_free : (start : List ℕ) (own : ℕ) (low : Bool) → AreRanks table ranks → own ≡ rank_of table ranks start → 0 < own
      → low ≡ needs_low table ranks (own - 1) (under start table) → low ≡ true → Decides false (Reaches table start start)
  falls_free start own low ranked is above told so =
      (λ h. cc, λ reaches. let up = falls-on (own - 1) start start ranked (sym told ∙ so) reaches in absurd (omega (arith, up, is, above)))

-- without numbers all have the same
no-rank : (o : Option ℕ) → rank_at [] o ≡ 0
no-rank None = refl
no-rank (Some place) = refl

pub ranked_none : (table : TypeTable) (ranks : List ℕ) → ranks ≡ [] → AreRanks table ranks
ranked_none table ranks none = rw none (λ from to need. omega (arith, no-rank (place_of to (names_of table)), no-rank (place_of from (names_of table))))
