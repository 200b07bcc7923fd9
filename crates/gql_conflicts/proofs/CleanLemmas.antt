-- Sets that are known to agree, and merged sets of them.
use Rattle.std.proofs.Common.{◌≡◌, inl, inr, ℕ, zero, suc, ◌+◌, ◌<◌, ◌≤◌, true, List, [], ◌∷◌, ◌++◌, length, take, get_or, Some, slice_get, refl, ap, sym, subst, ◌∙◌, arith, slice_index_or}
use Rattle.std.proofs.lemmas.List.Elements.{Contains-append_cases}
use Rattle.std.specs.List.{Contains, flat_map}
use Rattle.gql_schema.specs.TableReading.{possible}
use Rattle.gql_select.specs.Conflicts.{Agree}
use Rattle.gql_select.specs.Documents.{reading}
use Rattle.gql_select.proofs.DocumentLemmas.{is_reading}
use Rattle.gql_select.specs.Pairwise.{EachAgree}
use Rattle.gql_select.proofs.PairwiseLemmas.{none_of_pairs, pairs_from}
use Rattle.gql_conflicts.specs.CleanPairs.{AddsPair, AddsPairs, DoAgree, HasAllPairs, IsPair, IsPairOf}
use Rattle.gql_conflicts.specs.DocumentConflicts.{told}
use Rattle.gql_conflicts.specs.Merged.{known_by, merged_tells}
use Rattle.gql_conflicts.specs.Reader.{setting_by}
use Rattle.gql_conflicts.specs.Rooted.{rooted_of}
use Rattle.gql_conflicts.specs.Sets.{set_at, sets_at}
use Rattle.gql_conflicts.specs.Walk.{set_tells}
use Rattle.gql_conflicts.specs.Walked.{is_nothing}
use Rattle.gql_conflicts.specs.declared.clean_pair.CleanPair.{CleanPair}
use Rattle.gql_conflicts.specs.declared.conflict.Conflict.{Conflict}
use Rattle.gql_conflicts.specs.declared.merged.Merged.{Merged}
use Rattle.gql_conflicts.specs.declared.reader.Reader.{Reader}
use Rattle.gql_conflicts.proofs.BelowLemmas.{each_more, each_passed}
use Rattle.gql_conflicts.proofs.WalkLemmas.{none_collected}

none_first : {B : Type 0} (one other : List B) → one ++ other ≡ [] → one ≡ []
none_first [] other e = refl
none_first (b ∷ one) other e = cc

none_second : {B : Type 0} (one other : List B) → one ++ other ≡ [] → other ≡ []
none_second [] other e = e
none_second (b ∷ one) other e = cc

-- each gives nothing where all give nothing, and the other way round
each_none : {A B : Type 0} (h : A → List B) (xs : List A) (x : A) → flat_map h xs ≡ [] → Contains xs x → h x ≡ []
each_none h [] x none (k, within, is) = absurd (omega (arith, within))
each_none h (y ∷ ys) x none (zero, within, is) = ap h (sym is) ∙ none_first (h y) (flat_map h ys) none
each_none h (y ∷ ys) x none (suc k, within, is) = each_none h ys x (none_second (h y) (flat_map h ys) none) (k, omega (arith, within), is)

all_none : {A B : Type 0} (h : A → List B) (xs : List A) → ((x : A) → Contains xs x → h x ≡ []) → flat_map h xs ≡ []
all_none h [] each = refl
all_none h (x ∷ xs) each = rw (each x (zero, omega arith, refl)) (all_none h xs (λ y at. each y (suc at.0, omega (arith, at.1), at.2)))

pub nothing_is : (tells : List Conflict) → true ≡ is_nothing tells → tells ≡ []
nothing_is [] e = refl
nothing_is (found ∷ others) e = cc

module _ (reader : Reader) (merged : Merged) where
  abbrev objects : List (List ℕ)
  objects = possible (rooted_of reader.rooted.now).table merged.ty.now

  abbrev set_on : List ℕ → List Conflict
  set_on = set_tells reader merged.left (sets_at (known_by reader) merged.sets.items)

  abbrev agree_on : List ℕ → Type 0
  agree_on object = EachAgree (reading (setting_by reader)) merged.left object (set_at (known_by reader)) merged.sets.items

  -- where each two sets agree, the merged set tells nothing
  agreeing_tell : ((object : List ℕ) → Contains objects object → agree_on object) → merged_tells reader merged ≡ []
  agreeing_tell agree =
      all_none set_on objects
      (λ object at. none_of_pairs (reading (setting_by reader)) (is_reading (setting_by reader)) merged.left object (set_at (known_by reader))
      (none_collected (setting_by reader) (setting_by reader).levels object) told merged.sets.items (agree object at))

  -- and where it tells nothing, each two sets agree
  clean_agree : merged_tells reader merged ≡ [] → (object : List ℕ) → Contains objects object → agree_on object
  clean_agree none object at =
      pairs_from (reading (setting_by reader)) (is_reading (setting_by reader)) merged.left object (set_at (known_by reader)) told merged.sets.items
      (each_none set_on objects object none at)

  -- a merged set tells nothing where each two sets are known to agree
  pub known_tell : (pairs : List CleanPair) → ((pair : CleanPair) → Contains pairs pair → DoAgree reader pair) → HasAllPairs pairs merged
      → merged_tells reader merged ≡ []
  known_tell pairs agree has =
      agreeing_tell (λ object at one other in_one in_other.
      let known = has one in_one other in_other in by_pair object at one other known.0 (agree known.0 known.1) known.2)
    where
      by_pair : (object : List ℕ) → Contains objects object → (one other : ℕ) (pair : CleanPair) → DoAgree reader pair → IsPair merged one other pair
          → Agree (reading (setting_by reader)) merged.left object (set_at (known_by reader) one) (set_at (known_by reader) other)
      by_pair object at one other pair agree is =
          let levels = is.known_for.left_is in
          let types = is.known_for.ty_is in
          let first = is.one_is in
          let second = is.other_is in
          let there : Contains (possible (rooted_of reader.rooted.now).table pair.ty.now) object
          = subst (λ ty. Contains (possible (rooted_of reader.rooted.now).table ty) object) (sym types) at in
          let P : ℕ → ℕ → ℕ → Type 0
          = λ n x y. Agree (reading (setting_by reader)) n object (set_at (known_by reader) x) (set_at (known_by reader) y) in
          subst (λ n. P n one other) levels (subst (λ x. P pair.left x other) first (subst (λ y. P pair.left pair.one y) second (agree object there)))

  -- pairs of a merged set that tells nothing agree, beside those that were known to
  pub pairs_agree : (old new : List CleanPair) → merged_tells reader merged ≡ [] → AddsPairs merged old new
      → ((pair : CleanPair) → Contains old pair → DoAgree reader pair) → (pair : CleanPair) → Contains new pair → DoAgree reader pair
  pairs_agree old new none adds before pair there =
      elim (adds pair there) [ inl h ↦ before pair h | inr is ↦ of_merged pair is ]
    where
      of_merged : (pair : CleanPair) → IsPairOf merged pair → DoAgree reader pair
      of_merged pair is object at =
          let levels = is.known_for.left_is in
          let types = is.known_for.ty_is in
          let there : Contains objects object = subst (λ ty. Contains (possible (rooted_of reader.rooted.now).table ty) object) types at in
          subst (λ n. Agree (reading (setting_by reader)) n object (set_at (known_by reader) pair.one) (set_at (known_by reader) pair.other)) (sym levels)
          (clean_agree none object there pair.one pair.other is.has_one is.has_other)

read_same : {A : Type 0} (xs : List A) (k : ℕ) (x y : A) → k < length xs → get_or xs k x ≡ get_or xs k y
read_same [] k x y within = absurd (omega (arith, within))
read_same (z ∷ zs) zero x y within = refl
read_same (z ∷ zs) (suc k) x y within = read_same zs k x y (omega (arith, within))

-- the pair at a place
pub pair_at : (pairs : List CleanPair) (place : ℕ) (other_pair : CleanPair) (merged : Merged) (one other : ℕ) → place < length pairs
    → IsPair merged one other (get_or pairs place other_pair) → (found : CleanPair) × Contains pairs found × IsPair merged one other found
pair_at pairs place other_pair merged one other within is =
    let pair : CleanPair = get_or pairs place other_pair in
    (pair, (place, within, read_same pairs place pair other_pair within), is)

-- one pair more
pub pair_added : (merged : Merged) (one other : ℕ) (old new : List CleanPair) (pair : CleanPair) → new ≡ old ++ pair ∷ [] → IsPair merged one other pair
    → AddsPair merged one other old new
pair_added merged one other old new pair added is = λ found there.
    elim (Contains-append_cases old (pair ∷ []) found (subst (λ list. Contains list found) added there)) [
      | inl before ↦ inl before
      | inr (k, within, at) ↦ inr (subst (IsPair merged one other) (only_one found k within at) is)
    ]
  where
    only_one : (found : CleanPair) (k : ℕ) → k < 1 → slice_index_or (pair ∷ []) k found ≡ found → pair ≡ found
    only_one found zero within at = at
    only_one found (suc k) within at = absurd (omega (arith, within))

-- what stands at a place is contained
pub number_in : (xs : List ℕ) (k : ℕ) → k < length xs → Contains xs (get_or xs k 0)
number_in [] k within = absurd (omega (arith, within))
number_in (x ∷ xs) zero within = (zero, omega arith, refl)
number_in (x ∷ xs) (suc k) within = let (j, inside, is) = number_in xs k (omega (arith, within)) in (suc j, omega (arith, inside), is)

number_there : (xs : List ℕ) (k : ℕ) → k < length xs → slice_get xs k ≡ Some (get_or xs k 0)
number_there [] k within = absurd (omega (arith, within))
number_there (x ∷ xs) zero within = refl
number_there (x ∷ xs) (suc k) within = number_there xs k (omega (arith, within))

-- one more number, of numbers that are read from a slice, and all of them
pub each_number : (P : ℕ → Type 0) (xs items : List ℕ) (i : ℕ) → items ≡ xs → i < length items → ((y : ℕ) → Contains (take i xs) y → P y) → P (get_or items i 0)
    → (y : ℕ) → Contains (take (i + 1) xs) y → P y
each_number P xs items i same within before this =
    each_more P xs i (get_or xs i 0) before (number_there xs i (subst (λ list. i < length list) same within)) (subst (λ list. P (get_or list i 0)) same this)

pub all_numbers : (P : ℕ → Type 0) (xs items : List ℕ) (i : ℕ) → items ≡ xs → length items ≤ i → ((y : ℕ) → Contains (take i xs) y → P y) → (y : ℕ) → Contains xs y → P y
all_numbers P xs items i same over before = each_passed P xs i before (subst (λ list. length list ≤ i) same over)

-- of two sets of a merged set
pub pair_of : (merged : Merged) (one other : ℕ) (old new : List CleanPair) → Contains merged.sets.items one → Contains merged.sets.items other
    → AddsPair merged one other old new → AddsPairs merged old new
pair_of merged one other old new in_one in_other adds = λ pair there.
    elim (adds pair there) [
      | inl before ↦ inl before
      | inr is ↦ inr (record {
        known_for = is.known_for;
        has_one = subst (Contains merged.sets.items) (sym is.one_is) in_one;
        has_other = subst (Contains merged.sets.items) (sym is.other_is) in_other;
      })
    ]

pub adds_none : (merged : Merged) (pairs : List CleanPair) → AddsPairs merged pairs pairs
adds_none merged pairs = λ pair there. inl there

pub adds_pair_none : (merged : Merged) (one other : ℕ) (pairs : List CleanPair) → AddsPair merged one other pairs pairs
adds_pair_none merged one other pairs = λ pair there. inl there

pub adds_then : (merged : Merged) (old now new : List CleanPair) → AddsPairs merged old now → AddsPairs merged now new → AddsPairs merged old new
adds_then merged old now new before after = λ pair there.
    elim (after pair there) [ inl h ↦ before pair h | inr is ↦ inr is ]
