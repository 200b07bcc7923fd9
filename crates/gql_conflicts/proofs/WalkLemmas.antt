-- What the exact walk tells, step by step.
use Rattle.std.proofs.Common.{◌≡◌, ℕ, zero, suc, ◌+◌, ◌<◌, ◌≤◌, Bool, true, false, cond, List, [], ◌∷◌, ◌++◌, length, map, take, get_or, Some, None, Ok, Err, OnOk, slice_get, slice_set, refl, ap, sym, subst, ◌∙◌, append_assoc, append-nil, arith}
use Rattle.std.proofs.lemmas.List.{take_all}
use Rattle.std.specs.Prelude.{Result}
use Rattle.std.specs.Borrow.{Bor}
use Rattle.std.specs.List.{flat_map, zip}
use Rattle.std.specs.Option.{option_map}
use Rattle.std.specs.Str.{bytes_eq}
use Rattle.gql_base.specs.Names.{AreDistinct, place_of}
use Rattle.gql_base.specs.Pairs.{HasDistinctNames, names_of, under}
use Rattle.gql_base.proofs.NamesLemmas.{place_front, place_here}
use Rattle.gql_lists.proofs.SliceLemmas.{map_length}
use Rattle.gql_doc.specs.declared.document.Field.{Field}
use Rattle.gql_doc.specs.declared.document.Positioned.{Positioned}
use Rattle.gql_select.specs.Alike.{alike, name_of}
use Rattle.gql_select.specs.Collected.{Setting, collect_within, own_selections}
use Rattle.gql_select.specs.Conflicts.{first_differing}
use Rattle.gql_select.specs.Documents.{reading, with_others}
use Rattle.gql_select.proofs.DocumentLemmas.{set_of_both}
use Rattle.gql_conflicts.specs.Classes.{key_at}
use Rattle.gql_conflicts.specs.Reader.{setting_by}
use Rattle.gql_select.specs.Behind.{all_behind}
use Rattle.gql_conflicts.specs.DocumentConflicts.{told}
use Rattle.gql_conflicts.specs.Groups.{AreGroups, Grown, GroupsOf, fields_tell, groups_tell, told_of, united}
use Rattle.gql_conflicts.specs.Walk.{among_tells, beneath_tells, objects_at, set_tells}
use Rattle.gql_conflicts.specs.declared.conflict.Conflict.{Conflict}
use Rattle.gql_conflicts.specs.declared.group.Group.{Group}
use Rattle.gql_conflicts.specs.declared.reader.Reader.{Reader}
use Rattle.gql_collect.proofs.OccurrenceLemmas.{behind_more, name_with_others}
use Rattle.gql_conflicts.proofs.EachLemmas.{none_of_any}
use Rattle.gql_select.proofs.OccurrenceLemmas.{with_one_more}
use Rattle.gql_select.proofs.ZipLemmas.{names_long}
use Rattle.gql_conflicts.proofs.GroupLemmas.{groups_found}

module _ {A B : Type 0} (f : A → List B) where
  -- what one more of some gives
  pub flat_more : (xs : List A) (i : ℕ) (x : A) → slice_get xs i ≡ Some x → flat_map f (take (suc i) xs) ≡ flat_map f (take i xs) ++ f x
  flat_more [] i x at = cc
  flat_more (y ∷ ys) zero x at =
      let same : y ≡ x = cc in
      append-nil (f y) ∙ ap f same
  flat_more (y ∷ ys) (suc i) x at = ap (λ bs. f y ++ bs) (flat_more ys i x at) ∙ sym (append_assoc (f y) (flat_map f (take i ys)) (f x))

-- a group is named as its first occurrence
pub name_of_united : (group : Group) → name_of (united group) ≡ name_of group.first
name_of_united group = name_with_others group.first (all_behind group.more.items)

no_place : {T : Type 0} (name : List ℕ) (ps : List (List ℕ × T)) → under name ps ≡ None → place_of name (names_of ps) ≡ None
no_place name [] none = refl
no_place name (p ∷ ps) none =
    let P : Bool → Type 0 = λ b. cond b (Some p.1) (under name ps) ≡ None
    → cond b (Some 0) (option_map (λ m. suc m) (place_of name (names_of ps))) ≡ None in
    (elim (bytes_eq name p.0) as P [ true ↦ λ h. cc | false ↦ λ h. ap (option_map (λ m. suc m)) (no_place name ps h) ]) none

names_differ : {T : Type 0} (ps : List (List ℕ × T)) → HasDistinctNames ps → AreDistinct (names_of ps)
names_differ [] distinct = tt
names_differ (p ∷ ps) distinct = (no_place p.0 ps distinct.0, names_differ ps distinct.1)

-- the second parts of pairs
seconds : {A B : Type 0} (ks : List A) (vs : List B) → length vs ≡ length ks → map (λ (p : A × B). p.1) (zip ks vs) ≡ vs
seconds [] [] long = refl
seconds [] (v ∷ vs) long = absurd (omega (arith, long))
seconds (k ∷ ks) [] long = absurd (omega (arith, long))
seconds (k ∷ ks) (v ∷ vs) long = ap (λ xs. v ∷ xs) (seconds ks vs (omega (arith, long)))

module _ (setting : Setting) (fields : List (Positioned Field)) (beneath : Positioned Field → List Conflict) where
  each_tells : (names : List (List ℕ)) (groups : List Group) → length groups ≡ length names
      → ((i : ℕ) (key : List ℕ) (group : Group) → slice_get names i ≡ Some key → slice_get groups i ≡ Some group
      → told_of group.unlike ≡ first_differing (reading setting) told (key, united group) fields)
      → groups_tell beneath groups ≡ flat_map (λ m. first_differing (reading setting) told m fields ++ beneath m.1) (zip names (map united groups))
  each_tells [] [] paired each = refl
  each_tells [] (group ∷ groups) paired each = absurd (omega (arith, paired))
  each_tells (name ∷ names) [] paired each = absurd (omega (arith, paired))
  each_tells (name ∷ names) (group ∷ groups) paired each =
      let rest = each_tells names groups (omega (arith, paired)) (λ i key other at there. each (suc i) key other at there) in
      λ i. (each 0 name group refl refl i ++ beneath (united group)) ++ rest i

  -- the groups of fields tell what the fields tell
  groups_told : (keys : List (List ℕ × Unit {0})) (groups : List Group) → HasDistinctNames keys → AreGroups setting keys groups fields
      → groups_tell beneath groups ≡ fields_tell setting beneath fields
  groups_told keys groups distinct are =
      each_tells (names_of keys) groups (are.paired ∙ sym (names_long keys))
      (λ i key group at there.
      are.unlike_is key i group (place_here key (names_of keys) i (place_front (names_of keys) i key (names_differ keys distinct) at) at) there)
      ∙ ap (flat_map (λ m. first_differing (reading setting) told m fields ++ beneath m.1)) are.united_are

-- and stand for them
pub groups_of : (setting : Setting) (fields : List (Positioned Field)) (keys : List (List ℕ × Unit {0})) (groups : List Group) → HasDistinctNames keys
    → AreGroups setting keys groups fields → GroupsOf setting groups fields
groups_of setting fields keys groups distinct are = record {
  united_are =
      sym (seconds (names_of keys) (map united groups) (map_length united groups ∙ are.paired ∙ sym (names_long keys)))
      ∙ ap (map (λ (m : List ℕ × Positioned Field). m.1)) are.united_are;
  tell = λ beneath. groups_told setting fields beneath keys groups distinct are;
}

-- another occurrence joins the group of its key
pub grown_found : {X E : Type 0} (r : Result X E) (keys : List (List ℕ × Unit {0})) (groups : List Group) (field : Bor (Positioned Field)) (p : ℕ) (old new : Group)
    → place_of (key_at field.now) (names_of keys) ≡ Some p → slice_get groups p ≡ Some old → OnOk r (Grown (alike old.first field.now) field old new)
    → OnOk r ((setting : Setting) (before : List (Positioned Field)) → AreGroups setting keys groups before
    → AreGroups setting keys (slice_set groups p new) (before ++ field.now ∷ []))
grown_found (Ok x) keys groups field p old new found stands grown =
    λ setting before are. groups_found setting keys groups before are field p old new (alike old.first field.now) found stands refl grown
grown_found (Err e) keys groups field p old new found stands grown = tt

-- a setting without anything, for what holds of any
pub bare : Setting
bare = record { fragments = []; levels = 0; covers = λ condition object. false; beneath = λ object name. [] }

-- one more occurrence without a set
pub none_more : (first : Positioned Field) (more : List (Bor (Positioned Field))) (i : ℕ) (occurrence : Bor (Positioned Field)) → i < length more → occurrence ≡ get_or more i occurrence
    → own_selections (with_others first (all_behind (take i more))) ≡ [] → own_selections occurrence.now ≡ []
    → own_selections (with_others first (all_behind (take (i + 1) more))) ≡ []
none_more first more i occurrence within read before this =
    let front = all_behind (take i more) in
    ap (λ fs. own_selections (with_others first fs)) (behind_more more i occurrence within read)
    ∙ ap own_selections (with_one_more first front occurrence.now) ∙ set_of_both (with_others first front) occurrence.now
    ∙ (λ j. before j ++ this j)

pub none_passed : (first : Positioned Field) (more : List (Bor (Positioned Field))) (i : ℕ) → own_selections (with_others first (all_behind (take i more))) ≡ [] → length more ≤ i
    → own_selections (with_others first (all_behind more)) ≡ []
none_passed first more i before over = subst (λ xs. own_selections (with_others first (all_behind xs)) ≡ []) (take_all i more over) before

pub none_collected : (setting : Setting) (left : ℕ) (object : List ℕ) → collect_within setting left object [] ≡ []
none_collected setting zero object = refl
none_collected setting (suc left) object = refl

none_told : (reader : Reader) (left : ℕ) (object : List ℕ) → set_tells reader left [] object ≡ []
none_told reader zero object = refl
none_told reader (suc left) object = ap (among_tells reader left object) (none_collected (setting_by reader) (setting_by reader).levels object)

-- under a field without a set is nothing
pub nothing_beneath : (reader : Reader) (left : ℕ) (object : List ℕ) (field : Positioned Field) → own_selections field ≡ [] → beneath_tells reader left object field ≡ []
nothing_beneath reader left object field none =
    none_of_any (set_tells reader left (own_selections field))
    (λ inner. ap (λ selections. set_tells reader left selections inner) none ∙ none_told reader left inner) (objects_at reader object field)
