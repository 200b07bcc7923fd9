-- A set without conflicts agrees with itself.
use Rattle.std.proofs.Common.{◌≡◌, ℕ, zero, suc, Bool, true, false, not, ◌&&◌, List, [], ◌∷◌, ◌++◌, refl, ap, sym, subst, ◌∙◌, arith}
use Rattle.std.specs.List.{Contains, AllByRecursion, flat_map}
use Rattle.std.specs.Str.{bytes_eq}
use Rattle.std.proofs.lemmas.List.{append_assoc, append-nil}
use Rattle.gql_base.specs.Pairs.{unite, unite_all}
use Rattle.gql_select.specs.Reading.{Reading, IsReading, keyed}
use Rattle.gql_select.specs.Conflicts.{Agree, agreeing, both_alike, conflicts, first_differing}
use Rattle.gql_select.proofs.UnitingLemmas.{either, same_itself, unite_here, unite_past}
use Rattle.gql_select.proofs.AgreeLemmas.{agree_left_one, agree_left_two, agree_right_one, agree_right_two}

nothing_first : {A : Type 0} (xs ys : List A) → xs ++ ys ≡ [] → xs ≡ []
nothing_first [] ys e = refl
nothing_first (x ∷ xs) ys e = cc

nothing_second : {A : Type 0} (xs ys : List A) → xs ++ ys ≡ [] → ys ≡ []
nothing_second [] ys e = e
nothing_second (x ∷ xs) ys e = cc

-- what a list of nothing comes from
nothing_each : {A B : Type 0} (h : A → List B) (xs : List A) → flat_map h xs ≡ [] → AllByRecursion (λ x. h x ≡ []) xs
nothing_each h [] e = tt
nothing_each h (x ∷ xs) e = (nothing_first (h x) (flat_map h xs) e, nothing_each h xs (nothing_second (h x) (flat_map h xs) e))

pub each_at : {A : Type 0} (P : A → Type 0) (xs : List A) (x : A) → AllByRecursion P xs → Contains xs x → P x
each_at P [] x all (k, within, is) = absurd (omega arith)
each_at P (y ∷ ys) x all (zero, within, is) = subst P is all.0
each_at P (y ∷ ys) x all (suc k, within, is) = each_at P ys x all.1 (k, omega arith, is)

-- the first pair of a key is there, and this holds of its value
abbrev pub Found : {T : Type 0} → List ℕ → (T → Type 0) → List (List ℕ × T) → Type 0
Found k P [] = ⊥
Found k P (p ∷ ps) = (bytes_eq k p.0 ≡ true → P p.1) × (bytes_eq k p.0 ≡ false → Found k P ps)

module _ {T : Type 0} (k : List ℕ) where
  -- two facts of the first pair, and one of all pairs of the key, are facts of one value
  found_together : (P Q : T → Type 0) (S : List ℕ × T → Type 0) (G : Type 0) (ps : List (List ℕ × T)) → Found k P ps → Found k Q ps → AllByRecursion S ps
      → ((p : List ℕ × T) → bytes_eq k p.0 ≡ true → P p.1 → Q p.1 → S p → G) → G
  found_together P Q S G [] one two all then = absurd one
  found_together P Q S G (p ∷ ps) one two all then =
      either (bytes_eq k p.0) G (λ e. then p e (one.0 e) (two.0 e) all.0)
      (λ e. found_together P Q S G ps (one.1 e) (two.1 e) all.1 then)

  module _ (j : T → T → T) (P : T → Type 0) where
    pub found_on : ((a b : T) → P a → P (j a b)) → (ps : List (List ℕ × T)) (q : List ℕ × T) → Found k P ps → Found k P (unite j ps q.0 q.1)
    found_on keeps [] q found = absurd found
    found_on keeps (p ∷ ps) q found =
        either (bytes_eq q.0 p.0) (Found k P (unite j (p ∷ ps) q.0 q.1))
        (λ e. subst (Found k P) (sym (unite_here j p ps q.0 q.1 e)) ((λ f. keeps p.1 q.1 (found.0 f)), found.1))
        (λ e. subst (Found k P) (sym (unite_past j p ps q.0 q.1 e)) (found.0, λ f. found_on keeps ps q (found.1 f)))

    pub found_new : (v : T) → P v → ((a : T) → P (j a v)) → (ps : List (List ℕ × T)) → Found k P (unite j ps k v)
    found_new v one both [] = ((λ e. one), λ e. let same : bytes_eq k k ≡ true = same_itself k in cc)
    found_new v one both (p ∷ ps) =
        either (bytes_eq k p.0) (Found k P (unite j (p ∷ ps) k v))
        (λ e. subst (Found k P) (sym (unite_here j p ps k v e)) ((λ f. both p.1), λ f. cc))
        (λ e. subst (Found k P) (sym (unite_past j p ps k v e)) ((λ f. cc), λ f. found_new v one both ps))

    found_after : ((a b : T) → P a → P (j a b)) → (ps qs : List (List ℕ × T)) → Found k P ps → Found k P (unite_all j ps qs)
    found_after keeps ps [] found = found
    found_after keeps ps (q ∷ qs) found = found_after keeps (unite j ps q.0 q.1) qs (found_on keeps ps q found)

module _ {O F X : Type 0} (reading : Reading O F X) (is : IsReading reading) where
  -- a set stands within another
  record Within (xs ys : List X) : Type 0 where
    before : List X
    behind : List X
    whole : ys ≡ before ++ (xs ++ behind)

  within_more : (xs ys zs : List X) → Within xs ys → Within xs (ys ++ zs)
  within_more xs ys zs w = record {
    before = w.before;
    behind = w.behind ++ zs;
    whole = ap (λ ws. ws ++ zs) w.whole ∙ append_assoc w.before (xs ++ w.behind) zs ∙ ap (λ ws. w.before ++ ws) (append_assoc xs w.behind zs);
  }

  within_end : (xs ys : List X) → Within xs (ys ++ xs)
  within_end xs ys = record { before = ys; behind = []; whole = ap (λ ws. ys ++ ws) (sym (append-nil xs)) }

  -- an occurrence is in a field where its set is, as soon as they ask the same
  abbrev IsTaken : F → F → Type 0
  IsTaken f m = reading.alike m f ≡ true → Within (reading.set f) (reading.set m)

  pub merged_in : (m g : F) → reading.alike m g ≡ true → both_alike reading m g ≡ reading.both m g
  merged_in m g e = rw e refl

  pub left_out : (m g : F) → reading.alike m g ≡ false → both_alike reading m g ≡ m
  left_out m g e = rw e refl

  module _ (f : F) where
    taken_on : (m g : F) → IsTaken f m → IsTaken f (both_alike reading m g)
    taken_on m g taken =
        either (reading.alike m g) (IsTaken f (both_alike reading m g))
        (λ e. subst (IsTaken f) (sym (merged_in m g e))
        (λ same. subst (Within (reading.set f)) (sym (is.set_of_both m g)) (within_more (reading.set f) (reading.set m) (reading.set g) (taken (sym (is.alike_both m g f) ∙ same)))))
        (λ e. subst (IsTaken f) (sym (left_out m g e)) taken)

    taken_itself : IsTaken f f
    taken_itself same = record { before = []; behind = []; whole = sym (append-nil (reading.set f)) }

    taken_new : (m : F) → IsTaken f (both_alike reading m f)
    taken_new m =
        either (reading.alike m f) (IsTaken f (both_alike reading m f))
        (λ e. subst (IsTaken f) (sym (merged_in m f e)) (λ same. subst (Within (reading.set f)) (sym (is.set_of_both m f)) (within_end (reading.set f) (reading.set m))))
        (λ e. let other : IsTaken f m = λ same. cc in subst (IsTaken f) (sym (left_out m f e)) other)

    found_field : (ps : List (List ℕ × F)) (fs : List F) → Contains fs f → Found (reading.key f) (IsTaken f) (unite_all (both_alike reading) ps (keyed reading fs))
    found_field ps [] (k, within, at) = absurd (omega arith)
    found_field ps (g ∷ fs) (zero, within, at) =
        subst (λ h. Found (reading.key f) (IsTaken f) (unite_all (both_alike reading) (unite (both_alike reading) ps (reading.key h) h) (keyed reading fs))) (sym at)
        (found_after (reading.key f) (both_alike reading) (IsTaken f) taken_on (unite (both_alike reading) ps (reading.key f) f) (keyed reading fs)
        (found_new (reading.key f) (both_alike reading) (IsTaken f) f taken_itself taken_new ps))
    found_field ps (g ∷ fs) (suc k, within, at) =
        found_field (unite (both_alike reading) ps (reading.key g) g) fs (k, omega arith, at)

  module _ {E : Type 0} (told : F → E) (m : List ℕ × F) where
    differs_first : (g : F) (fs : List F) → bytes_eq (reading.key g) m.0 ≡ true → reading.alike m.1 g ≡ false
        → first_differing reading told m (g ∷ fs) ≡ told g ∷ []
    differs_first g fs e d = rw (e, d) refl

    none_later : (g : F) (fs : List F) → first_differing reading told m (g ∷ fs) ≡ [] → first_differing reading told m fs ≡ []
    none_later g fs none =
        let test : Bool = bytes_eq (reading.key g) m.0 && not (reading.alike m.1 g) in
        either test (first_differing reading told m fs ≡ [])
        (λ t. let one : first_differing reading told m (g ∷ fs) ≡ told g ∷ [] = rw t refl in cc)
        (λ t. let past : first_differing reading told m (g ∷ fs) ≡ first_differing reading told m fs = rw t refl in sym past ∙ none)

    -- where no occurrence differs from a key's field, each of the key asks the same
    none_differs : (fs : List F) → first_differing reading told m fs ≡ [] → (f : F) → Contains fs f → bytes_eq (reading.key f) m.0 ≡ true
        → reading.alike m.1 f ≡ true
    none_differs [] none f (k, within, at) e = absurd (omega arith)
    none_differs (g ∷ fs) none f (zero, within, at) e =
        either (reading.alike m.1 f) (reading.alike m.1 f ≡ true) (λ a. a)
        (λ a. let one : first_differing reading told m (g ∷ fs) ≡ told g ∷ []
        = differs_first g fs (ap (λ h. bytes_eq (reading.key h) m.0) at ∙ e) (ap (reading.alike m.1) at ∙ a) in cc)
    none_differs (g ∷ fs) none f (suc k, within, at) e = none_differs fs (none_later g fs none) f (k, omega arith, at) e

  -- parts of a set that agrees with itself agree
  agree_within : (n : ℕ) (o : O) (xs ys zs : List X) → Within xs zs → Within ys zs → Agree reading n o zs zs → Agree reading n o xs ys
  agree_within n o xs ys zs one two agree =
      let left : Agree reading n o xs zs
      = agree_left_one reading is n o xs one.behind zs (agree_left_two reading is n o one.before (xs ++ one.behind) zs (subst (λ ws. Agree reading n o ws zs) one.whole agree)) in
      agree_right_one reading is n o ys two.behind xs (agree_right_two reading is n o two.before (ys ++ two.behind) xs (subst (λ ws. Agree reading n o xs ws) two.whole left))

  pub agree_from : {E : Type 0} (told : F → E) (n : ℕ) (o : O) (set : List X) → conflicts reading told n o set ≡ [] → Agree reading n o set set
  agree_from told zero o set none = tt
  agree_from told (suc n) o set none = λ f g in_f in_g same.
      let fs : List F = reading.fields o set in
      let ms : List (List ℕ × F) = agreeing reading fs in
      let S : List ℕ × F → Type 0
      = λ m. first_differing reading told m fs ++ flat_map (λ inner. conflicts reading told n inner (reading.set m.1)) (reading.objects o m.1) ≡ [] in
      let G : Type 0 = (reading.alike f g ≡ true) × ((inner : O) → Contains (reading.objects o f) inner → Agree reading n inner (reading.set f) (reading.set g)) in
      let all : AllByRecursion S ms
      = nothing_each (λ m. first_differing reading told m fs ++ flat_map (λ inner. conflicts reading told n inner (reading.set m.1)) (reading.objects o m.1)) ms none in
      found_together (reading.key f) (IsTaken f) (IsTaken g) S G ms (found_field f [] fs in_f)
      (subst (λ k. Found k (IsTaken g) ms) (sym same) (found_field g [] fs in_g)) all
      (λ m e one two nothing.
      let like_f : reading.alike m.1 f ≡ true = none_differs told m fs (nothing_first (first_differing reading told m fs) _ nothing) f in_f e in
      let like_g : reading.alike m.1 g ≡ true
      = none_differs told m fs (nothing_first (first_differing reading told m fs) _ nothing) g in_g (ap (λ k. bytes_eq k m.0) (sym same) ∙ e) in (
        is.alike_through f m.1 g (is.alike_turned m.1 f like_f) like_g,
        λ inner at.
            let beneath : conflicts reading told n inner (reading.set m.1) ≡ []
            = each_at (λ i. conflicts reading told n i (reading.set m.1) ≡ []) (reading.objects o m.1) inner
            (nothing_each (λ i. conflicts reading told n i (reading.set m.1)) (reading.objects o m.1) (nothing_second (first_differing reading told m fs) _ nothing))
            (subst (λ os. Contains os inner) (sym (is.objects_of_alike o m.1 f like_f)) at) in
            agree_within n inner (reading.set f) (reading.set g) (reading.set m.1) (one like_f) (two like_g) (agree_from told n inner (reading.set m.1) beneath),
      ))
