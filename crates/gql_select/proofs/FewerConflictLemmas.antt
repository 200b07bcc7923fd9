-- The conflicts of fewer occurrences, where those that are left out stand before.
use Rattle.std.proofs.Common.{◌≡◌, ℕ, zero, suc, Bool, true, not, ◌&&◌, cond, List, [], ◌∷◌, ◌++◌, refl, sym, ap, ap₂, subst, subst₂, ◌∙◌, inl, inr}
use Rattle.std.proofs.lemmas.Bool.{cond-false, cond-true}
use Rattle.std.specs.List.{AllByRecursion, Contains, flat_map}
use Rattle.std.specs.Str.{bytes_eq}
use Rattle.std.proofs.lemmas.List.Elements.{Contains-append_cases}
use Rattle.gql_select.specs.Conflicts.{agreeing, both_alike, conflicts, first_differing}
use Rattle.gql_select.specs.Fewer.{LeavesOut, reading_over}
use Rattle.gql_select.specs.Reading.{IsReading, Reading}
use Rattle.gql_select.specs.Thinned.{empty, goes, stays, Thinned}
use Rattle.gql_select.proofs.ConflictLemmas.{left_out, merged_in}
use Rattle.gql_select.proofs.FewerLemmas.{all_unit, both_nests, Close, close_both, close_itself, close_left, fewer_nests, Holds, holds_added, holds_later, of_first, SameFirst, SameSets, SetNests}
use Rattle.gql_select.proofs.ThinLemmas.{ArePaired, contains_none, contains_one, each_into, IsClose, united_paired}
use Rattle.gql_select.proofs.UnitingLemmas.{either}

-- the first list, or the second where that one is empty
abbrev or_else : {E : Type 0} → List E → List E → List E
or_else [] ys = ys
or_else (x ∷ xs) ys = x ∷ xs

or_same : {E : Type 0} (xs ys : List E) → (xs ≡ [] → ys ≡ []) → or_else xs ys ≡ xs
or_same [] ys none = none refl
or_same (x ∷ xs) ys none = refl

module _ {O F X E : Type 0} (reading : Reading O F X) (is : IsReading reading) (told : F → E) where
  -- an occurrence of the key that isn't like its field
  abbrev differs : List ℕ × F → F → Bool
  differs m f = bytes_eq (reading.key f) m.0 && not (reading.alike m.1 f)

  differing_append : (m : List ℕ × F) (fs gs : List F)
      → first_differing reading told m (fs ++ gs) ≡ or_else (first_differing reading told m fs) (first_differing reading told m gs)
  differing_append m [] gs = refl
  differing_append m (f ∷ fs) gs =
      either (differs m f) (first_differing reading told m ((f ∷ fs) ++ gs) ≡ or_else (first_differing reading told m (f ∷ fs))
      (first_differing reading told m gs))
      (λ e. cond-true (differs m f) (told f ∷ []) (first_differing reading told m (fs ++ gs)) e
      ∙ sym (ap (λ xs. or_else xs (first_differing reading told m gs))
      (cond-true (differs m f) (told f ∷ []) (first_differing reading told m fs) e)))
      (λ e. cond-false (differs m f) (told f ∷ []) (first_differing reading told m (fs ++ gs)) e
      ∙ differing_append m fs gs
      ∙ sym (ap (λ xs. or_else xs (first_differing reading told m gs))
      (cond-false (differs m f) (told f ∷ []) (first_differing reading told m fs) e)))

  -- where none of a list differs, one that stands in it doesn't
  one_differs : (m : List ℕ × F) (fs : List F) (x : F) → first_differing reading told m fs ≡ [] → Contains fs x
      → first_differing reading told m (x ∷ []) ≡ []
  one_differs m [] x none at = absurd (contains_none x at)
  one_differs m (f ∷ fs) x none at =
      either (differs m f) (first_differing reading told m (x ∷ []) ≡ [])
      (λ e. absurd (let some : told f ∷ [] ≡ [] = sym (cond-true (differs m f) (told f ∷ []) (first_differing reading told m fs) e)
      ∙ none in cc))
      (λ e. elim (Contains-append_cases (f ∷ []) fs x at) [
        | inl here ↦ subst (λ z. first_differing reading told m (z ∷ []) ≡ []) (contains_one f x here)
            (cond-false (differs m f) (told f ∷ []) [] e)
        | inr behind ↦ one_differs m fs x (sym (cond-false (differs m f) (told f ∷ []) (first_differing reading told m fs) e) ∙ none) behind
      ])

  -- repetitions differ where the first does
  differing_thin : (m : List ℕ × F) (xs ys : List F) → Thinned F xs ys → first_differing reading told m xs
      ≡ first_differing reading told m ys
  differing_thin m xs ys empty = refl
  differing_thin m xs ys (stays {xs = us} {ys = vs} x thin) =
      differing_append m us (x ∷ [])
      ∙ ap (λ zs. or_else zs (first_differing reading told m (x ∷ []))) (differing_thin m us vs thin)
      ∙ sym (differing_append m vs (x ∷ []))
  differing_thin m xs ys (goes {xs = us} {ys = vs} x thin there) =
      differing_append m us (x ∷ [])
      ∙ ap (λ zs. or_else zs (first_differing reading told m (x ∷ []))) (differing_thin m us vs thin)
      ∙ or_same (first_differing reading told m vs) (first_differing reading told m (x ∷ [])) (λ none. one_differs m vs x none there)

  alike_first : (f g x : F) → SameFirst reading is f g → reading.alike f x ≡ reading.alike g x
  alike_first f g x same = of_first reading is (λ h. reading.alike h x) (λ a b. is.alike_both a b x) f g same

  differing_first : (p q : List ℕ × F) (fs : List F) → p.0 ≡ q.0 → SameFirst reading is p.1 q.1
      → first_differing reading told p fs ≡ first_differing reading told q fs
  differing_first p q [] key same = refl
  differing_first p q (f ∷ fs) key same =
      λ i. cond (bytes_eq (reading.key f) (key i) && not (alike_first p.1 q.1 f same i)) (told f ∷ []) (differing_first p q fs key same i)

  -- an occurrence is in a field with its set, where they ask the same
  abbrev IsThere : F → F → Type 0
  IsThere y g = reading.alike g y ≡ true → Holds reading is y g

  alike_both : (f g x : F) → Close reading is f g → Close reading is (both_alike reading f x) (both_alike reading g x)
  alike_both f g x close =
      let e : reading.alike f x ≡ reading.alike g x = alike_first f g x close.0 in
      either (reading.alike f x) (Close reading is (both_alike reading f x) (both_alike reading g x))
      (λ a. subst₂ (Close reading is) (sym (merged_in reading is f x a)) (sym (merged_in reading is g x (sym e ∙ a)))
      (close_both reading is f g x close))
      (λ a. subst₂ (Close reading is) (sym (left_out reading is f x a)) (sym (left_out reading is g x (sym e ∙ a))) close)

  alike_left : (f g x : F) → Close reading is f g → IsThere x g → Close reading is (both_alike reading f x) g
  alike_left f g x close there =
      let e : reading.alike f x ≡ reading.alike g x = alike_first f g x close.0 in
      either (reading.alike f x) (Close reading is (both_alike reading f x) g)
      (λ a. subst (λ h. Close reading is h g) (sym (merged_in reading is f x a)) (close_left reading is f g x close (there (sym e ∙ a))))
      (λ a. subst (λ h. Close reading is h g) (sym (left_out reading is f x a)) close)

  there_later : (y g x : F) → IsThere y g → IsThere y (both_alike reading g x)
  there_later y g x there =
      either (reading.alike g x) (IsThere y (both_alike reading g x))
      (λ a. subst (IsThere y) (sym (merged_in reading is g x a))
      (λ e. holds_later reading is y g x (there (sym (is.alike_both g x y) ∙ e))))
      (λ a. subst (IsThere y) (sym (left_out reading is g x a)) there)

  there_added : (g x : F) → IsThere x (both_alike reading g x)
  there_added g x =
      either (reading.alike g x) (IsThere x (both_alike reading g x))
      (λ a. subst (IsThere x) (sym (merged_in reading is g x a)) (λ e. holds_added reading is g x))
      (λ a. subst (IsThere x) (sym (left_out reading is g x a)) (λ e. cc))

  agreeing_close : IsClose (both_alike reading) (Close reading is) IsThere
  agreeing_close = record {
    itself = close_itself reading is;
    both = alike_both;
    left = alike_left;
    first = λ x e o z at. at;
    added = there_added;
    later = there_later;
  }

  agreeing_paired : (xs ys : List F) → Thinned F xs ys → ArePaired (Close reading is) (agreeing reading xs) (agreeing reading ys)
  agreeing_paired xs ys thin = united_paired reading (both_alike reading) (Close reading is) IsThere agreeing_close xs ys thin

  -- pairs of close values tell the same
  flat_paired : (h k : List ℕ × F → List E) (P : F → Type 0)
      → ((p q : List ℕ × F) → p.0 ≡ q.0 → Close reading is p.1 q.1 → P q.1 → h p ≡ k q) → (ps qs : List (List ℕ × F))
      → ArePaired (Close reading is) ps qs → AllByRecursion (λ q. P q.1) qs → flat_map h ps ≡ flat_map k qs
  flat_paired h k P same [] [] paired all = refl
  flat_paired h k P same [] (q ∷ qs) paired all = absurd paired
  flat_paired h k P same (p ∷ ps) [] paired all = absurd paired
  flat_paired h k P same (p ∷ ps) (q ∷ qs) paired all =
      ap₂ (λ us vs. us ++ vs) (same p q paired.0 paired.1.0 all.0) (flat_paired h k P same ps qs paired.1.1 all.1)

  flat_each : {Y : Type 0} (h k : Y → List E) (xs : List Y) → ((x : Y) → h x ≡ k x) → flat_map h xs ≡ flat_map k xs
  flat_each h k [] same = refl
  flat_each h k (x ∷ xs) same = ap₂ (λ us vs. us ++ vs) (same x) (flat_each h k xs same)

  -- what is told of a key, and of the sets under it
  key_same : (A B : O → List X → List E) (o : O) (xs ys : List F) → Thinned F xs ys → (p q : List ℕ × F) → p.0 ≡ q.0
      → Close reading is p.1 q.1
      → ((inner : O) → A inner (reading.set p.1) ≡ B inner (reading.set q.1))
      → first_differing reading told p xs ++ flat_map (λ inner. A inner (reading.set p.1)) (reading.objects o p.1)
      ≡ first_differing reading told q ys ++ flat_map (λ inner. B inner (reading.set q.1)) (reading.objects o q.1)
  key_same A B o xs ys thin p q key close beneath =
      ap₂ (λ us vs. us ++ vs) (differing_thin p xs ys thin ∙ differing_first p q ys key close.0)
      (flat_each (λ inner. A inner (reading.set p.1)) (λ inner. B inner (reading.set q.1)) (reading.objects o p.1) beneath
      ∙ ap (flat_map (λ inner. B inner (reading.set q.1))) (of_first reading is (reading.objects o) (is.objects_of_both o) p.1 q.1 close.0))

  -- sets whose fields are the same but for repetitions
  conflicts_thin : (n : ℕ) (o : O) (xs ys : List X) → SameSets reading is xs ys → conflicts reading told n o xs
      ≡ conflicts reading told n o ys
  conflicts_thin zero o xs ys thin = refl
  conflicts_thin (suc n) o xs ys thin =
      flat_paired _ _ (λ g. Unit {0})
      (λ p q key close u. key_same (conflicts reading told n) (conflicts reading told n) o (reading.fields o xs) (reading.fields o ys)
      (thin o) p q key close
      (λ inner. conflicts_thin n inner (reading.set p.1) (reading.set q.1) close.1))
      (agreeing reading (reading.fields o xs)) (agreeing reading (reading.fields o ys))
      (agreeing_paired (reading.fields o xs) (reading.fields o ys) (thin o)) (all_unit reading is (agreeing reading (reading.fields o ys)))

  module _ (fewer : O → List X → List F) (nests : List X → Bool) (leaves : LeavesOut reading fewer nests) where
    alike_nests : (f g : F) → SetNests reading is fewer nests leaves f → SetNests reading is fewer nests leaves g
        → SetNests reading is fewer nests leaves (both_alike reading f g)
    alike_nests f g one other =
        either (reading.alike f g) (SetNests reading is fewer nests leaves (both_alike reading f g))
        (λ a. subst (SetNests reading is fewer nests leaves) (sym (merged_in reading is f g a))
        (both_nests reading is fewer nests leaves f g one other))
        (λ a. subst (SetNests reading is fewer nests leaves) (sym (left_out reading is f g a)) one)

    pub conflicts_fewer : (n : ℕ) (o : O) (set : List X) → nests set ≡ true
        → conflicts (reading_over reading fewer) told n o set ≡ conflicts reading told n o set
    conflicts_fewer zero o set nest = refl
    conflicts_fewer (suc n) o set nest =
        let thin : Thinned F (reading.fields o set) (fewer o set) = leaves.thinned o set nest in
        sym (flat_paired _ _ (SetNests reading is fewer nests leaves)
        (λ p q key close nest'. key_same (conflicts reading told n) (conflicts (reading_over reading fewer) told n) o
        (reading.fields o set) (fewer o set) thin p q key close
        (λ inner. conflicts_thin n inner (reading.set p.1) (reading.set q.1) close.1 ∙ sym
        (conflicts_fewer n inner (reading.set q.1) nest')))
        (agreeing reading (reading.fields o set)) (agreeing reading (fewer o set))
        (agreeing_paired (reading.fields o set) (fewer o set) thin)
        (each_into reading (both_alike reading) (SetNests reading is fewer nests leaves) alike_nests [] (fewer o set) tt
        (fewer_nests reading is fewer nests leaves o set nest)))
