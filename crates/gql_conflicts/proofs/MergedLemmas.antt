-- Merged sets: what is told beneath a key goes by the fields in its sets, whichever selections they stand in.
use Rattle.std.proofs.Common.{◌≡◌, ℕ, zero, suc, ◌<◌, ◌≤◌, ◌+◌, Bool, true, false, cond, List, [], ◌∷◌, ◌++◌, length, take, codes, get_or, slice_get, Option, Some, None, refl, rules, ap, sym, subst, ◌∙◌, append-nil, arith}
use Rattle.std.proofs.lemmas.Grind.{flat_map-append}
use Rattle.std.proofs.lemmas.List.{take_all}
use Rattle.std.specs.Borrow.{Bor}
use Rattle.std.specs.List.{flat_map}
use Rattle.std.specs.Option.{IfSome}
use Rattle.gql_base.specs.Pairs.{under}
use Rattle.gql_schema.specs.TableReading.{Declared, TypeTable, field as field_in, possible}
use Rattle.gql_doc.specs.Depth.{field_set, selections_of}
use Rattle.gql_doc.specs.declared.document.Field.{Field}
use Rattle.gql_doc.specs.declared.document.FragmentSpread.{FragmentSpread}
use Rattle.gql_doc.specs.declared.document.Positioned.{Positioned}
use Rattle.gql_doc.specs.declared.document.Selection.{Selection, out-Selection, the_lemmas}
use Rattle.gql_doc.specs.declared.document.Selection.TheVariants as kinds
use Rattle.gql_doc.specs.declared.document.Selection.TheOpen.{Selection-F}
use Rattle.gql_select.specs.Alike.{name_of}
use Rattle.gql_select.specs.Behind.{all_behind}
use Rattle.gql_select.specs.Collected.{Setting, collect, collect_within, fields_of, fields_of_spread, own_selections}
use Rattle.gql_select.specs.Documents.{with_others}
use Rattle.gql_select.proofs.DocumentLemmas.{is_reading, set_of_both}
use Rattle.gql_select.proofs.OccurrenceLemmas.{with_one_more}
use Rattle.gql_collect.proofs.OccurrenceLemmas.{behind_more}
use Rattle.gql_conflicts.specs.Merged.{IsLike, known_by, merged_tells}
use Rattle.gql_conflicts.specs.Reader.{setting_by}
use Rattle.gql_conflicts.specs.Rooted.{Rooted, is_entities, objects_beneath, objects_of, rooted_of, type_beneath, type_of}
use Rattle.gql_conflicts.specs.Sets.{HasNumber, HaveSame, IsSole, set_at, set_of, sets_at}
use Rattle.gql_conflicts.specs.Walk.{among_tells, beneath_tells, set_tells, type_tells}
use Rattle.gql_conflicts.specs.declared.conflict.Conflict.{Conflict}
use Rattle.gql_conflicts.specs.declared.known.Known.{Known}
use Rattle.gql_conflicts.specs.declared.merged.Merged.{Merged}
use Rattle.gql_conflicts.specs.declared.reader.Reader.{Reader}

-- the objects of a type, where there is one
abbrev objects_in : TypeTable → Option (List ℕ) → List (List ℕ)
objects_in table None = []
objects_in table (Some ty) = possible table ty

module _ (rooted : Rooted) (object name : List ℕ) where
  objects_declared : (found : Option Declared) → objects_of rooted.table found ≡ objects_in rooted.table (type_of found)
  objects_declared None = refl
  objects_declared (Some declared) = refl

  -- the objects beneath a field are those of its type
  objects_by_type : objects_beneath rooted object name ≡ objects_in rooted.table (type_beneath rooted object name)
  objects_by_type =
      let found : Option Declared = field_in rooted.table object name in
      let P : Bool → Type 0 = λ b. cond b (possible rooted.table (codes "_Entity")) (objects_of rooted.table found)
      ≡ objects_in rooted.table (cond b (Some (codes "_Entity")) (type_of found)) in
      elim (is_entities rooted object name) as P [ true ↦ refl | false ↦ objects_declared found ]

module _ (reader : Reader) (left : ℕ) where
  -- what is told in a type, where there is one
  abbrev tells_in : List (Positioned Selection) → Option (List ℕ) → List Conflict
  tells_in selections None = []
  tells_in selections (Some ty) = type_tells reader left ty selections

  pub beneath_by_type : (object : List ℕ) (field : Positioned Field) (found : Option (List ℕ)) → type_beneath (rooted_of reader.rooted.now) object (name_of field) ≡ found
      → beneath_tells reader left object field ≡ tells_in (own_selections field) found
  beneath_by_type object field found is =
      let rooted : Rooted = rooted_of reader.rooted.now in
      ap (flat_map (set_tells reader left (own_selections field))) (objects_by_type rooted object (name_of field) ∙ ap (objects_in rooted.table) is) ∙ each found
    where
      each : (f : Option (List ℕ)) → flat_map (set_tells reader left (own_selections field)) (objects_in (rooted_of reader.rooted.now).table f) ≡ tells_in (own_selections field) f
      each None = refl
      each (Some ty) = refl

-- sets that have the same fields tell the same
set_told : (reader : Reader) (left : ℕ) (one other : List (Positioned Selection)) → HaveSame one other → (object : List ℕ)
    → set_tells reader left one object ≡ set_tells reader left other object
set_told reader zero one other same object = refl
set_told reader (suc left) one other same object = ap (among_tells reader left object) (same (setting_by reader) object)

pub type_told : (reader : Reader) (left : ℕ) (ty : List ℕ) (one other : List (Positioned Selection)) → HaveSame one other
    → type_tells reader left ty one ≡ type_tells reader left ty other
type_told reader left ty one other same = λ i. flat_map (λ object. set_told reader left one other same object i) (possible (rooted_of reader.rooted.now).table ty)

-- merged sets that are looked up alike tell the same
pub tells_like : (reader : Reader) (one other : Merged) → IsLike one other → merged_tells reader one ≡ merged_tells reader other
tells_like reader one other like =
    let levels = like.left_is in
    let types = like.ty_is in
    let sets = like.sets_are in
    λ i. type_tells reader (levels i) (types i) (sets_at (known_by reader) (sets i))

-- and so does a group, whose sets have the same fields
pub told_merged : (reader : Reader) (merged : Merged) (left : ℕ) (ty : List ℕ) (selections : List (Positioned Selection)) → merged.left ≡ left → merged.ty.now ≡ ty
    → HaveSame (sets_at (known_by reader) merged.sets.items) selections → merged_tells reader merged ≡ type_tells reader left ty selections
told_merged reader merged left ty selections levels types same =
    (λ i. type_tells reader (levels i) (types i) (sets_at (known_by reader) merged.sets.items))
    ∙ type_told reader left ty (sets_at (known_by reader) merged.sets.items) selections same

-- what is equal has the same fields
pub same_from : (one other : List (Positioned Selection)) → one ≡ other → HaveSame one other
same_from one other is = λ setting object. ap (collect setting object) is

same_then : (one other third : List (Positioned Selection)) → HaveSame one other → HaveSame other third → HaveSame one third
same_then one other third p q = λ setting object. p setting object ∙ q setting object

-- so do two sets behind others
same_both : (xs ys one other : List (Positioned Selection)) → HaveSame xs ys → HaveSame one other → HaveSame (xs ++ one) (ys ++ other)
same_both xs ys one other p q = λ setting object.
    (is_reading setting).fields_of_both object xs one
    ∙ (λ i. p setting object i ++ q setting object i)
    ∙ sym ((is_reading setting).fields_of_both object ys other)

-- two spreads of one fragment, each alone
sole_fields : (setting : Setting) (left : ℕ) (object : List ℕ) (spread : Positioned FragmentSpread) (field : Positioned Field) → IsSole spread field
    → collect_within setting (suc left) object (own_selections field)
    ≡ fields_of_spread setting object (collect_within setting left object) (under spread.node.fragment_name.node setting.fragments)
sole_fields setting left object spread field sole =
    ap (collect_within setting (suc left) object) sole.alone ∙ append-nil (fields_of setting object (collect_within setting left object) (out-Selection sole.selection.node))
    ∙ ap (fields_of setting object (collect_within setting left object)) sole.is

pub sole_same : (x y : Positioned FragmentSpread) (one other : Positioned Field) → IsSole x one → IsSole y other
    → x.node.fragment_name.node ≡ y.node.fragment_name.node → HaveSame (own_selections one) (own_selections other)
sole_same x y one other first second named = λ setting object. at_level setting object setting.levels
  where
    at_level : (setting : Setting) (object : List ℕ) (n : ℕ)
        → collect_within setting n object (own_selections one) ≡ collect_within setting n object (own_selections other)
    at_level setting object zero = refl
    at_level setting object (suc n) =
        sole_fields setting n object x one first
        ∙ ap (λ name. fields_of_spread setting object (collect_within setting n object) (under name setting.fragments)) named
        ∙ sym (sole_fields setting n object y other second)

-- a list of one item
one_item : {A : Type 0} (xs : List A) (x : A) → length xs ≡ 1 → x ≡ get_or xs 0 x → xs ≡ x ∷ []
one_item [] x long read = absurd (omega (arith, long))
one_item (y ∷ []) x long read = ap (λ z. z ∷ []) (sym read)
one_item (y ∷ z ∷ zs) x long read = absurd (omega (arith, long))

-- the spread of a set that has one selection
pub sole_of : (field : Positioned Field) (xs : List (Positioned Selection)) (x : Positioned Selection) (found : Option (Bor (Positioned FragmentSpread)))
    → xs ≡ own_selections field → length xs ≡ 1 → x ≡ get_or xs 0 x
    → IfSome found (λ spread. out-Selection x.node ≡ Selection-F.FragmentSpread spread.now) → IfSome found (λ spread. IsSole spread.now field)
sole_of field xs x None of_field long read is = tt
sole_of field xs x (Some spread) of_field long read is = record { selection = x; alone = sym of_field ∙ one_item xs x long read; is = is }

-- a selection that is a spread
pub opened : (x : Selection) (spread : Positioned FragmentSpread) → x ≡ kinds.FragmentSpread spread → out-Selection x ≡ Selection-F.FragmentSpread spread
opened x spread is =
    let there : out-Selection (kinds.FragmentSpread spread) ≡ Selection-F.FragmentSpread spread = search (rules, the_lemmas) in
    ap out-Selection is ∙ there

-- the set of a number is that of the field that is known there
pub number_at : (known : List Known) (number : ℕ) (item : Known) (field : Positioned Field) → slice_get known number ≡ Some item
    → HaveSame (own_selections item.field.now) (own_selections field) → HasNumber known field number
number_at known number item field at same = subst (λ found. HaveSame (set_of found) (own_selections field)) (sym at) same

-- sets that are the same have the same fields
pub sets_same : (one other : Positioned Field) → field_set one ≡ field_set other → HaveSame (own_selections one) (own_selections other)
sets_same one other is = λ setting object. ap (λ set. collect setting object (selections_of set)) is

-- one number more
pub number_added : (known : List Known) (old new : List ℕ) (number : ℕ) (field : Positioned Field) → new ≡ old ++ number ∷ [] → HasNumber known field number
    → HaveSame (sets_at known new) (sets_at known old ++ own_selections field)
number_added known old new number field added has =
    same_then (sets_at known new) (sets_at known old ++ set_at known number) (sets_at known old ++ own_selections field)
    (same_from (sets_at known new) (sets_at known old ++ set_at known number)
    (ap (sets_at known) added ∙ flat_map-append (set_at known) old (number ∷ []) ∙ ap (λ xs. sets_at known old ++ xs) (append-nil (set_at known number))))
    (same_both (sets_at known old) (sets_at known old) (set_at known number) (own_selections field) (λ setting object. refl) has)

-- and none for a field without a set
pub none_added : (known : List Known) (numbers : List ℕ) (field : Positioned Field) → own_selections field ≡ []
    → HaveSame (sets_at known numbers) (sets_at known numbers ++ own_selections field)
none_added known numbers field none =
    same_from (sets_at known numbers) (sets_at known numbers ++ own_selections field)
    (sym (append-nil (sets_at known numbers)) ∙ ap (λ xs. sets_at known numbers ++ xs) (sym none))

module _ (known : List Known) (first : Positioned Field) (more : List (Bor (Positioned Field))) where
  -- the numbers of the sets of some occurrences
  abbrev pub AreNumbers : List ℕ → ℕ → Type 0
  AreNumbers numbers i = HaveSame (sets_at known numbers) (own_selections (with_others first (all_behind (take i more))))

  pub numbers_more : (i : ℕ) (occurrence : Bor (Positioned Field)) (old new : List ℕ) → i < length more → occurrence ≡ get_or more i occurrence → AreNumbers old i
      → HaveSame (sets_at known new) (sets_at known old ++ own_selections occurrence.now) → AreNumbers new (i + 1)
  numbers_more i occurrence old new within read before added =
      let front : Positioned Field = with_others first (all_behind (take i more)) in
      same_then (sets_at known new) (sets_at known old ++ own_selections occurrence.now) (own_selections (with_others first (all_behind (take (i + 1) more)))) added
      (same_then (sets_at known old ++ own_selections occurrence.now) (own_selections front ++ own_selections occurrence.now)
      (own_selections (with_others first (all_behind (take (i + 1) more))))
      (same_both (sets_at known old) (own_selections front) (own_selections occurrence.now) (own_selections occurrence.now) before (λ setting object. refl))
      (same_from (own_selections front ++ own_selections occurrence.now) (own_selections (with_others first (all_behind (take (i + 1) more))))
      (sym (ap (λ fs. own_selections (with_others first fs)) (behind_more more i occurrence within read)
      ∙ ap own_selections (with_one_more first (all_behind (take i more)) occurrence.now) ∙ set_of_both front occurrence.now))))

  pub numbers_all : (i : ℕ) (numbers : List ℕ) → AreNumbers numbers i → length more ≤ i
      → HaveSame (sets_at known numbers) (own_selections (with_others first (all_behind more)))
  numbers_all i numbers are over = subst (λ xs. HaveSame (sets_at known numbers) (own_selections (with_others first (all_behind xs)))) (take_all i more over) are

-- the numbers of the first occurrence
first_alone : (first : Positioned Field) (more : List (Bor (Positioned Field))) → with_others first (all_behind (take 0 more)) ≡ first
first_alone first [] = refl
first_alone first (occurrence ∷ more) = refl

pub numbers_begin : (known : List Known) (first : Positioned Field) (more : List (Bor (Positioned Field))) (old new : List ℕ) (field : Positioned Field)
    → old ≡ [] → field ≡ first → HaveSame (sets_at known new) (sets_at known old ++ own_selections field) → AreNumbers known first more new 0
numbers_begin known first more old new field none is same =
    same_then (sets_at known new) (sets_at known old ++ own_selections field) (own_selections (with_others first (all_behind (take 0 more)))) same
    (same_from (sets_at known old ++ own_selections field) (own_selections (with_others first (all_behind (take 0 more))))
    (ap (λ numbers. sets_at known numbers ++ own_selections field) none ∙ ap own_selections is ∙ ap own_selections (sym (first_alone first more))))
