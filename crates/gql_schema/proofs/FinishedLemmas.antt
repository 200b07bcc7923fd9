-- What the scalars that every schema has leave as it was.
use Rattle.std.proofs.Common.{◌≡◌, ℕ, Bool, true, false, ◌||◌, cond, List, [], ◌∷◌, length, take, codes, Some, refl, ap, sym, ◌∙◌}
use Rattle.std.proofs.lemmas.List.{length-map, take_at}
use Rattle.std.specs.Str.{bytes_eq}
use Rattle.std.specs.Cmp.Lexicographic.{bytes_decides}
use Rattle.gql_base.specs.Pairs.{under, put, names_of}
use Rattle.gql_schema.specs.Finished.{KeepsOthers, is_built_in}
use Rattle.gql_schema.specs.NameSet.{with_name, with_names}
use Rattle.gql_schema.specs.Scalar.{new_scalar}
use Rattle.gql_schema.specs.Sound.{with_built_in, with_scalar}
use Rattle.gql_schema.specs.TableReading.{TypeTable}
use Rattle.gql_schema.specs.declared.scalar_rule.ScalarRule.{ScalarRule}
use Rattle.gql_schema.specs.declared.scalar_rule.ScalarRule.TheVariants as rules
use Rattle.gql_schema.specs.declared.schema_type.SchemaType.{SchemaType}
use Rattle.gql_schema.specs.declared.schema_type.SchemaType.TheVariants as types
use Rattle.gql_schema.proofs.NameSetLemmas.{put_named}
use Rattle.gql_lists.proofs.SetLemmas.{grows}

or-first : (a b : Bool) → (a || b) ≡ false → a ≡ false
or-first true b h = cc
or-first false b h = refl

or-second : (a b : Bool) → (a || b) ≡ false → b ≡ false
or-second true b h = cc
or-second false b h = h

-- what stands under another name than the one that is put
under-other : {T : Type 0} (ps : List (List ℕ × T)) (n m : List ℕ) (x : T) → bytes_eq m n ≡ false → under m (put ps n x) ≡ under m ps
under-other [] n m x other = rw other refl
under-other (p ∷ ps) n m x other =
    let P : Bool → Type 0 = λ b. (b ≡ true → n ≡ p.0) → under m (cond b ((p.0, x) ∷ ps) (p ∷ put ps n x)) ≡ cond (bytes_eq m p.0) (Some p.1) (under m ps) in
    (elim (bytes_eq n p.0) as P [
      | true ↦ λ same. (let else : bytes_eq m p.0 ≡ false = ap (bytes_eq m) (sym (same refl)) ∙ other in rw else refl)
      | false ↦ λ same. ap (λ o. cond (bytes_eq m p.0) (Some p.1) o) (under-other ps n m x other)
    ]) (bytes_decides n p.0).0

named : (table : TypeTable) (n : List ℕ) (rule : ScalarRule) → names_of (with_scalar table n rule) ≡ with_name (names_of table) n
named table n rule = put_named table n (types.Scalar (new_scalar n rule))

other : (table : TypeTable) (n m : List ℕ) (rule : ScalarRule) → bytes_eq m n ≡ false → under m (with_scalar table n rule) ≡ under m table
other table n m rule differs = under-other table n m (types.Scalar (new_scalar n rule)) differs

module _ (table : TypeTable) where
  abbrev with_int : TypeTable
  with_int = with_scalar table (codes "Int") rules.Int

  abbrev with_string : TypeTable
  with_string = with_scalar with_int (codes "String") rules.Text

  abbrev with_boolean : TypeTable
  with_boolean = with_scalar with_string (codes "Boolean") rules.Bool

  names-built : names_of (with_built_in table) ≡ with_names (names_of table) (codes "Int" ∷ codes "String" ∷ codes "Boolean" ∷ codes "ID" ∷ [])
  names-built =
      named with_boolean (codes "ID") rules.Id
      ∙ ap (λ ns. with_name ns (codes "ID")) (named with_string (codes "Boolean") rules.Bool
      ∙ ap (λ ns. with_name ns (codes "Boolean")) (named with_int (codes "String") rules.Text
      ∙ ap (λ ns. with_name ns (codes "String")) (named table (codes "Int") rules.Int)))

  others : (m : List ℕ) → is_built_in m ≡ false → under m (with_built_in table) ≡ under m table
  others m apart =
      let up_to_boolean = or-first _ (bytes_eq m (codes "ID")) apart in
      let id = or-second _ (bytes_eq m (codes "ID")) apart in
      let up_to_string = or-first _ (bytes_eq m (codes "Boolean")) up_to_boolean in
      let boolean = or-second _ (bytes_eq m (codes "Boolean")) up_to_boolean in
      let int = or-first _ (bytes_eq m (codes "String")) up_to_string in
      let string = or-second _ (bytes_eq m (codes "String")) up_to_string in
      other with_boolean (codes "ID") m rules.Id id ∙ other with_string (codes "Boolean") m rules.Bool boolean
      ∙ other with_int (codes "String") m rules.Text string ∙ other table (codes "Int") m rules.Int int

  kept-places : take (length table) (names_of (with_built_in table)) ≡ names_of table
  kept-places =
      let (rest, is) = grows bytes_eq (names_of table) (codes "Int" ∷ codes "String" ∷ codes "Boolean" ∷ codes "ID" ∷ []) in
      ap (take (length table)) (names-built ∙ is)
      ∙ take_at (names_of table) rest (length table) (length-map table (λ (p : List ℕ × SchemaType). p.0))

-- a table with the scalars keeps the others
pub keeps_others : (table finished : TypeTable) → finished ≡ with_built_in table → KeepsOthers table finished
keeps_others table finished is = rw is (record { places = kept-places table; types = others table })
