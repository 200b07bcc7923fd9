-- Fields that are put into groups under their keys, one by one.
use Rattle.std.proofs.Common.{◌≡◌, inl, inr, ℕ, zero, suc, ◌<◌, Bool, true, false, cond, not, ◌&&◌, List, [], ◌∷◌, ◌++◌, length, map, Option, Some, None, slice_get, slice_set, refl, ap, sym, ◌∙◌, subst, arith}
use Rattle.std.specs.List.{Contains, zip}
use Rattle.std.specs.Option.{option_map_or, option_map}
use Rattle.std.specs.Str.{bytes_eq}
use Rattle.std.specs.Borrow.{Bor}
use Rattle.std.specs.Cmp.Lexicographic.{bytes_decides}
use Rattle.std.proofs.lemmas.List.Elements.{Contains-push_cases}
use Rattle.gql_base.specs.Names.{place_of}
use Rattle.gql_base.specs.Pairs.{names_of, unite, unite_all}
use Rattle.gql_doc.specs.declared.document.Field.{Field}
use Rattle.gql_doc.specs.declared.document.Positioned.{Positioned}
use Rattle.gql_select.specs.Alike.{alike}
use Rattle.gql_select.specs.Collected.{Setting}
use Rattle.gql_select.specs.Conflicts.{agreeing, both_alike, first_differing}
use Rattle.gql_select.specs.Documents.{both, reading, with_others}
use Rattle.gql_select.specs.Reading.{keyed}
use Rattle.gql_select.proofs.AlikeLemmas.{alike_from}
use Rattle.gql_select.proofs.DocumentLemmas.{is_reading}
use Rattle.gql_select.proofs.UnitingLemmas.{either, same_itself, unite_all-append}
use Rattle.gql_conflicts.specs.Classes.{key_at}
use Rattle.gql_select.specs.Behind.{all_behind}
use Rattle.gql_conflicts.specs.DocumentConflicts.{told}
use Rattle.gql_lists.proofs.SliceLemmas.{get_map, get_within, length_set, map_last, map_length, map_set}
use Rattle.gql_select.proofs.OccurrenceLemmas.{behind_append, with_one_more}
use Rattle.gql_select.proofs.ZipLemmas.{names_last, names_long, unite_fresh, unite_found}
use Rattle.gql_conflicts.specs.Groups.{AreGroups, Grown, first_of, told_of, under_keys, united}
use Rattle.gql_conflicts.specs.declared.conflict.Conflict.{Conflict}
use Rattle.gql_conflicts.specs.declared.group.Group.{Group}

set_here : {X : Type 0} (xs : List X) (i : ℕ) (y z : X) → slice_get (slice_set xs i y) i ≡ Some z → y ≡ z
set_here [] i y z at = cc
set_here (x ∷ xs) zero y z at = cc
set_here (x ∷ xs) (suc i) y z at = set_here xs i y z at

set_elsewhere : {X : Type 0} (xs : List X) (i k : ℕ) (y z : X) → (i ≡ k → ⊥) → slice_get (slice_set xs i y) k ≡ Some z → slice_get xs k ≡ Some z
set_elsewhere [] i k y z differs at = at
set_elsewhere (x ∷ xs) zero zero y z differs at = absurd (differs refl)
set_elsewhere (x ∷ xs) zero (suc k) y z differs at = at
set_elsewhere (x ∷ xs) (suc i) zero y z differs at = at
set_elsewhere (x ∷ xs) (suc i) (suc k) y z differs at = set_elsewhere xs i k y z (λ e. differs (ap suc e)) at

-- the group with one more occurrence
pub united_more : (group : Group) (g : Bor (Positioned Field)) (new : Group)
    → new.first ≡ group.first → new.more.items ≡ group.more.items ++ g ∷ [] → united new ≡ both (united group) g.now
united_more group g new same added =
    (λ i. with_others (same i) (all_behind (added i)))
    ∙ ap (with_others group.first) (behind_append group.more.items (g ∷ []))
    ∙ with_one_more group.first (all_behind group.more.items) g.now

-- an occurrence of a new key is a group of its own
pub occurrence_fresh : (j : Positioned Field → Positioned Field → Positioned Field) (keys : List (List ℕ × Unit {0})) (groups : List Group) (key : List ℕ) (group : Group) (f : Positioned Field) → length groups ≡ length keys
    → place_of key (names_of keys) ≡ None → united group ≡ f
    → under_keys (keys ++ (key, tt) ∷ []) (groups ++ group ∷ []) ≡ unite j (under_keys keys groups) key f
occurrence_fresh j keys groups key group f paired none is =
    let long : length (map united groups) ≡ length (names_of keys) = map_length united groups ∙ paired ∙ sym (names_long keys) in
    (λ i. zip (names_last keys key i) (map_last united groups group i))
    ∙ ap (λ g. zip (names_of keys ++ key ∷ []) (map united groups ++ g ∷ [])) is
    ∙ sym (unite_fresh j key (names_of keys) (map united groups) f long none)

-- another joins the group of its key
pub occurrence_found : (j : Positioned Field → Positioned Field → Positioned Field) (keys : List (List ℕ × Unit {0})) (groups : List Group) (key : List ℕ) (i : ℕ) (old new : Group) (f : Positioned Field)
    → length groups ≡ length keys → place_of key (names_of keys) ≡ Some i → slice_get groups i ≡ Some old → united new ≡ j (united old) f
    → under_keys keys (slice_set groups i new) ≡ unite j (under_keys keys groups) key f
occurrence_found j keys groups key i old new f paired found at is =
    let long : length (map united groups) ≡ length (names_of keys) = map_length united groups ∙ paired ∙ sym (names_long keys) in
    ap (zip (names_of keys)) (map_set united groups i new)
    ∙ ap (λ g. zip (names_of keys) (slice_set (map united groups) i g)) is
    ∙ sym (unite_found j key (names_of keys) (map united groups) i (united old) f long found (get_map united groups i old at))

-- a name stands at its place
place_is : (k : List ℕ) (names : List (List ℕ)) (i : ℕ) → place_of k names ≡ Some i → slice_get names i ≡ Some k
place_is k [] i at = cc
place_is k (n ∷ names) i at =
    let P : Bool → Type 0 = λ b. (b ≡ true → k ≡ n) → cond b (Some 0) (option_map (λ m. suc m) (place_of k names)) ≡ Some i → slice_get (n ∷ names) i ≡ Some k in
    (elim (bytes_eq k n) as P [
      | true ↦ λ same h. let first : 0 ≡ i = ap (λ o. option_map_or (λ m. m) o 0) h in rw (sym first, same refl) refl
      | false ↦ λ same h. behind (place_of k names) (place_is k names) h
    ]) (bytes_decides k n).0 at
  where
    behind : (o : Option ℕ) → ((j : ℕ) → o ≡ Some j → slice_get names j ≡ Some k) → option_map (λ m. suc m) o ≡ Some i → slice_get (n ∷ names) i ≡ Some k
    behind None each h = cc
    behind (Some m) each h = let at : suc m ≡ i = ap (λ o. option_map_or (λ x. x) o 0) h in rw (sym at) (each m refl)

-- two names of one place
one_name : (k m : List ℕ) (names : List (List ℕ)) (i : ℕ) → place_of k names ≡ Some i → place_of m names ≡ Some i → k ≡ m
one_name k m names i one other = let both : Some k ≡ Some m = sym (place_is k names i one) ∙ place_is m names i other in cc

turned : (a b : List ℕ) → bytes_eq a b ≡ false → bytes_eq b a ≡ false
turned a b e = either (bytes_eq b a) (bytes_eq b a ≡ false) (λ t. let same : bytes_eq a b ≡ true = (bytes_decides a b).1 (sym ((bytes_decides b a).0 t)) in cc) (λ t. t)

-- a new name has the last place, and others keep theirs
place_last : (k : List ℕ) (names : List (List ℕ)) → place_of k names ≡ None → place_of k (names ++ k ∷ []) ≡ Some (length names)
place_last k [] none = rw (same_itself k) refl
place_last k (n ∷ names) none =
    let P : Bool → Type 0 = λ b. cond b (Some 0) (option_map (λ m. suc m) (place_of k names)) ≡ None
    → cond b (Some 0) (option_map (λ m. suc m) (place_of k (names ++ k ∷ []))) ≡ Some (suc (length names)) in
    (elim (bytes_eq k n) as P [ true ↦ λ h. cc | false ↦ λ h. ap (option_map (λ m. suc m)) (place_last k names (nothing (place_of k names) h)) ]) none
  where
    nothing : (o : Option ℕ) → option_map (λ m. suc m) o ≡ None → o ≡ None
    nothing None h = refl
    nothing (Some m) h = cc

place_past : (m k : List ℕ) (names : List (List ℕ)) → bytes_eq m k ≡ false → place_of m (names ++ k ∷ []) ≡ place_of m names
place_past m k [] e = rw e refl
place_past m k (n ∷ names) e = ap (λ o. cond (bytes_eq m n) (Some 0) (option_map (λ i. suc i) o)) (place_past m k names e)

get_last : {X : Type 0} (xs : List X) (x : X) → slice_get (xs ++ x ∷ []) (length xs) ≡ Some x
get_last [] x = refl
get_last (y ∷ xs) x = get_last xs x

get_before_last : {X : Type 0} (xs : List X) (x : X) (i : ℕ) → i < length xs → slice_get (xs ++ x ∷ []) i ≡ slice_get xs i
get_before_last [] x i h = absurd (omega (arith, h))
get_before_last (y ∷ xs) x zero h = refl
get_before_last (y ∷ xs) x (suc i) h = get_before_last xs x i (omega (arith, h))

last_long : {X : Type 0} (xs : List X) (x : X) → length (xs ++ x ∷ []) ≡ suc (length xs)
last_long [] x = refl
last_long (y ∷ xs) x = ap suc (last_long xs x)

module _ (setting : Setting) where
  abbrev differs : List ℕ × Positioned Field → List (Positioned Field) → List Conflict
  differs = first_differing (reading setting) told

  abbrev or_first : List Conflict → List Conflict → List Conflict
  or_first [] ys = ys
  or_first (x ∷ xs) ys = x ∷ xs

  or_nothing : (xs : List Conflict) → or_first xs [] ≡ xs
  or_nothing [] = refl
  or_nothing (x ∷ xs) = refl

  or_told : (o : Option (Bor (Positioned Field))) (f : Bor (Positioned Field)) → or_first (told_of o) (told f.now ∷ []) ≡ told_of (first_of o f)
  or_told None f = refl
  or_told (Some g) f = refl

  -- among occurrences with one more
  differs_more : (m : List ℕ × Positioned Field) (xs : List (Positioned Field)) (f : Positioned Field) → differs m (xs ++ f ∷ []) ≡ or_first (differs m xs) (differs m (f ∷ []))
  differs_more m [] f = refl
  differs_more m (x ∷ xs) f =
      let P : Bool → Type 0 = λ b. cond b (told x ∷ []) (differs m (xs ++ f ∷ [])) ≡ or_first (cond b (told x ∷ []) (differs m xs)) (differs m (f ∷ [])) in
      elim (bytes_eq (key_at x) m.0 && not (alike m.1 x)) as P [ true ↦ refl | false ↦ differs_more m xs f ]

  -- what stands for a key is looked at by what it asks alone
  differs_same : (k : List ℕ) (m n : Positioned Field) → ((x : Positioned Field) → alike m x ≡ alike n x) → (xs : List (Positioned Field)) → differs (k, m) xs ≡ differs (k, n) xs
  differs_same k m n same [] = refl
  differs_same k m n same (x ∷ xs) = λ i. cond (bytes_eq (key_at x) k && not (same x i)) (told x ∷ []) (differs_same k m n same xs i)

  alike_others : (f : Positioned Field) (gs : List (Positioned Field)) (x : Positioned Field) → alike (with_others f gs) x ≡ alike f x
  alike_others f [] x = refl
  alike_others f (g ∷ gs) x = alike_others (both f g) gs x ∙ (is_reading setting).alike_both f g x

  alike_united : (g : Group) (x : Positioned Field) → alike (united g) x ≡ alike g.first x
  alike_united g x = alike_others g.first (all_behind g.more.items) x

  -- an occurrence of another key, and one that asks the same, tell nothing
  other_key : (m : List ℕ × Positioned Field) (f : Positioned Field) → bytes_eq (key_at f) m.0 ≡ false → differs m (f ∷ []) ≡ []
  other_key m f e = rw e refl

  asks_same : (m : List ℕ × Positioned Field) (f : Positioned Field) → alike m.1 f ≡ true → differs m (f ∷ []) ≡ []
  asks_same m f e =
      either (bytes_eq (key_at f) m.0) (differs m (f ∷ []) ≡ []) (λ k. rw (k, e) refl) (λ k. rw k refl)

  asks_other : (m : List ℕ × Positioned Field) (f : Positioned Field) → bytes_eq (key_at f) m.0 ≡ true → alike m.1 f ≡ false → differs m (f ∷ []) ≡ told f ∷ []
  asks_other m f k e = rw (k, e) refl

  keyed_append : (xs ys : List (Positioned Field)) → keyed (reading setting) (xs ++ ys) ≡ keyed (reading setting) xs ++ keyed (reading setting) ys
  keyed_append [] ys = refl
  keyed_append (x ∷ xs) ys = ap (λ ps. (key_at x, x) ∷ ps) (keyed_append xs ys)

  agreeing_more : (xs : List (Positioned Field)) (f : Positioned Field)
      → agreeing (reading setting) (xs ++ f ∷ []) ≡ unite (both_alike (reading setting)) (agreeing (reading setting) xs) (key_at f) f
  agreeing_more xs f =
      ap (unite_all (both_alike (reading setting)) []) (keyed_append xs (f ∷ []))
      ∙ unite_all-append (both_alike (reading setting)) [] (keyed (reading setting) xs) ((key_at f, f) ∷ [])

  -- where no group has a key, no occurrence has
  none_of_key : (keys : List (List ℕ × Unit {0})) (k : List ℕ) (m : Positioned Field) (xs : List (Positioned Field))
      → ((x : Positioned Field) → Contains xs x → place_of (key_at x) (names_of keys) ≡ None → ⊥) → place_of k (names_of keys) ≡ None → differs (k, m) xs ≡ []
  none_of_key keys k m [] seen none = refl
  none_of_key keys k m (x ∷ xs) seen none =
      either (bytes_eq (key_at x) k) (differs (k, m) (x ∷ xs) ≡ [])
      (λ e. absurd (seen x (zero, omega arith, refl) (ap (λ n. place_of n (names_of keys)) ((bytes_decides (key_at x) k).0 e) ∙ none)))
      (λ e. let past : differs (k, m) (x ∷ xs) ≡ differs (k, m) xs = rw e refl in
      past ∙ none_of_key keys k m xs (λ y at. seen y (suc at.0, omega (arith, at.1), at.2)) none)

  module _ (keys : List (List ℕ × Unit {0})) (groups : List Group) (fields : List (Positioned Field)) (are : AreGroups setting keys groups fields) (f : Bor (Positioned Field)) where
    module _ (p : ℕ) (old new : Group) (same : Bool) (found : place_of (key_at f.now) (names_of keys) ≡ Some p) (stands : slice_get groups p ≡ Some old)
        (told_same : same ≡ alike old.first f.now) (grown : Grown same f old new) where
      joins : (b : Bool) → same ≡ b → united new ≡ both_alike (reading setting) (united old) f.now
      joins true e =
          let like : alike (united old) f.now ≡ true = alike_united old f.now ∙ sym told_same ∙ e in
          united_more old f new grown.first (grown.like e).0 ∙ (let m : both (united old) f.now ≡ both_alike (reading setting) (united old) f.now = rw like refl in m)
      joins false e =
          let like : alike (united old) f.now ≡ false = alike_united old f.now ∙ sym told_same ∙ e in
          (λ i. with_others (grown.first i) (all_behind ((grown.unlike e).0 i))) ∙ (let m : united old ≡ both_alike (reading setting) (united old) f.now = rw like refl in m)

      alike_new : (x : Positioned Field) → alike (united new) x ≡ alike (united old) x
      alike_new x = alike_united new x ∙ ap (λ g. alike g x) grown.first ∙ sym (alike_united old x)

      tells : (b : Bool) → same ≡ b → (k : List ℕ) → k ≡ key_at f.now → told_of new.unlike ≡ differs (k, united new) (fields ++ f.now ∷ [])
      tells b e k is =
          let before : told_of old.unlike ≡ differs (k, united new) fields
          = are.unlike_is k p old (ap (λ n. place_of n (names_of keys)) is ∙ found) stands ∙ differs_same k (united old) (united new) (λ x. sym (alike_new x)) fields in
          let like : alike (united new) f.now ≡ same = alike_new f.now ∙ alike_united old f.now ∙ sym told_same in
          at b e before like
        where
          at : (b : Bool) → same ≡ b → told_of old.unlike ≡ differs (k, united new) fields → alike (united new) f.now ≡ same → told_of new.unlike ≡ differs (k, united new) (fields ++ f.now ∷ [])
          at true e before like =
              ap told_of (grown.like e).1 ∙ before ∙ sym (or_nothing (differs (k, united new) fields))
              ∙ ap (or_first (differs (k, united new) fields)) (sym (asks_same (k, united new) f.now (like ∙ e)))
              ∙ sym (differs_more (k, united new) fields f.now)
          at false e before like =
              ap told_of (grown.unlike e).1 ∙ sym (or_told old.unlike f) ∙ ap (λ es. or_first es (told f.now ∷ [])) before
              ∙ ap (or_first (differs (k, united new) fields)) (sym (asks_other (k, united new) f.now ((bytes_decides (key_at f.now) k).1 (sym is)) (like ∙ e)))
              ∙ sym (differs_more (k, united new) fields f.now)

      pub groups_found : AreGroups setting keys (slice_set groups p new) (fields ++ f.now ∷ [])
      groups_found = record {
        paired = length_set groups p new ∙ are.paired;
        united_are =
            occurrence_found (both_alike (reading setting)) keys groups (key_at f.now) p old new f.now are.paired found stands (joins same refl)
            ∙ ap (λ ps. unite (both_alike (reading setting)) ps (key_at f.now) f.now) are.united_are ∙ sym (agreeing_more fields f.now);
        unlike_is = λ key place group at there.
            either (bytes_eq (key_at f.now) key) (told_of group.unlike ≡ differs (key, united group) (fields ++ f.now ∷ []))
            (λ e.
            let is : key ≡ key_at f.now = sym ((bytes_decides (key_at f.now) key).0 e) in
            let here : Some p ≡ Some place = sym found ∙ ap (λ n. place_of n (names_of keys)) (sym is) ∙ at in
            let same_place : p ≡ place = cc in
            let one : new ≡ group = set_here groups p new group (ap (slice_get (slice_set groups p new)) same_place ∙ there) in
            subst (λ g. told_of g.unlike ≡ differs (key, united g) (fields ++ f.now ∷ [])) one (tells same refl key is))
            (λ e.
            let apart : p ≡ place → ⊥ = λ h.
            let n : key_at f.now ≡ key = one_name (key_at f.now) key (names_of keys) place (found ∙ ap Some h) at in
            let t : bytes_eq (key_at f.now) key ≡ true = (bytes_decides (key_at f.now) key).1 n in cc in
            are.unlike_is key place group at (set_elsewhere groups p place new group apart there)
            ∙ sym (or_nothing (differs (key, united group) fields)) ∙ ap (or_first (differs (key, united group) fields)) (sym (other_key (key, united group) f.now e))
            ∙ sym (differs_more (key, united group) fields f.now));
        seen = λ x at none. elim (Contains-push_cases fields f.now x at) [
          | inl h ↦ are.seen x h none
          | inr h ↦ (let s : Some p ≡ None = sym found ∙ ap (λ y. place_of (key_at y) (names_of keys)) h ∙ none in cc)
        ];
      }

    module _ (new : Group) (fresh : place_of (key_at f.now) (names_of keys) ≡ None) (first : new.first ≡ f.now) (alone : new.more.items ≡ []) (nothing : new.unlike ≡ None) where
      itself : united new ≡ f.now
      itself = λ i. with_others (first i) (all_behind (alone i))

      last_name : place_of (key_at f.now) (names_of (keys ++ (key_at f.now, tt) ∷ [])) ≡ Some (length (names_of keys))
      last_name = ap (place_of (key_at f.now)) (names_last keys (key_at f.now)) ∙ place_last (key_at f.now) (names_of keys) fresh

      past_name : (m : List ℕ) → bytes_eq m (key_at f.now) ≡ false → place_of m (names_of (keys ++ (key_at f.now, tt) ∷ [])) ≡ place_of m (names_of keys)
      past_name m e = ap (place_of m) (names_last keys (key_at f.now)) ∙ place_past m (key_at f.now) (names_of keys) e

      pub groups_fresh : AreGroups setting (keys ++ (key_at f.now, tt) ∷ []) (groups ++ new ∷ []) (fields ++ f.now ∷ [])
      groups_fresh = record {
        paired = last_long groups new ∙ ap suc are.paired ∙ sym (last_long keys (key_at f.now, tt));
        united_are =
            occurrence_fresh (both_alike (reading setting)) keys groups (key_at f.now) new f.now are.paired fresh itself
            ∙ ap (λ ps. unite (both_alike (reading setting)) ps (key_at f.now) f.now) are.united_are ∙ sym (agreeing_more fields f.now);
        unlike_is = λ key place group at there.
            either (bytes_eq key (key_at f.now)) (told_of group.unlike ≡ differs (key, united group) (fields ++ f.now ∷ []))
            (λ e.
            let is : key ≡ key_at f.now = (bytes_decides key (key_at f.now)).0 e in
            let here : Some (length (names_of keys)) ≡ Some place = sym last_name ∙ ap (λ n. place_of n (names_of (keys ++ (key_at f.now, tt) ∷ []))) (sym is) ∙ at in
            let end : length groups ≡ place = are.paired ∙ sym (names_long keys) ∙ (let s : length (names_of keys) ≡ place = cc in s) in
            let one : Some new ≡ Some group = sym (get_last groups new) ∙ ap (slice_get (groups ++ new ∷ [])) end ∙ there in
            let same : new ≡ group = cc in
            let asks : alike (united new) f.now ≡ true
            = ap (λ g. alike g f.now) itself ∙ alike_from f.now f.now refl (λ name. refl) in
            subst (λ g. told_of g.unlike ≡ differs (key, united g) (fields ++ f.now ∷ [])) same
            (ap told_of nothing
            ∙ sym (differs_more (key, united new) fields f.now
            ∙ ap (λ es. or_first es (differs (key, united new) (f.now ∷ []))) (none_of_key keys key (united new) fields are.seen (ap (λ n. place_of n (names_of keys)) is ∙ fresh))
            ∙ asks_same (key, united new) f.now asks)))
            (λ e.
            let old : place_of key (names_of keys) ≡ Some place = sym (past_name key e) ∙ at in
            let within : place < length groups = omega (arith, get_within (names_of keys) place key (place_is key (names_of keys) place old), names_long keys, are.paired) in
            let stands : slice_get groups place ≡ Some group = sym (get_before_last groups new place within) ∙ there in
            are.unlike_is key place group old stands
            ∙ sym (or_nothing (differs (key, united group) fields))
            ∙ ap (or_first (differs (key, united group) fields)) (sym (other_key (key, united group) f.now (turned key (key_at f.now) e)))
            ∙ sym (differs_more (key, united group) fields f.now));
        seen = λ x at none.
            let never : place_of (key_at f.now) (names_of (keys ++ (key_at f.now, tt) ∷ [])) ≡ None → ⊥
            = λ h. let s : Some (length (names_of keys)) ≡ None = sym last_name ∙ h in cc in
            elim (Contains-push_cases fields f.now x at) [
              | inl h ↦ either (bytes_eq (key_at x) (key_at f.now)) ⊥
                  (λ e. never (ap (λ n. place_of n (names_of (keys ++ (key_at f.now, tt) ∷ []))) (sym ((bytes_decides (key_at x) (key_at f.now)).0 e)) ∙ none))
                  (λ e. are.seen x h (sym (past_name (key_at x) e) ∙ none))
              | inr h ↦ never (ap (λ y. place_of (key_at y) (names_of (keys ++ (key_at f.now, tt) ∷ []))) h ∙ none)
            ];
      }
