-- A set that agrees with itself has no conflicts.
use Rattle.std.proofs.Common.{◌≡◌, ℕ, zero, suc, true, List, [], ◌∷◌, ◌++◌, refl, sym, subst, ◌∙◌, arith}
use Rattle.std.specs.List.{Contains, AllByRecursion, flat_map}
use Rattle.std.specs.Str.{bytes_eq}
use Rattle.std.specs.Cmp.Lexicographic.{bytes_decides}
use Rattle.gql_base.specs.Pairs.{unite, unite_all}
use Rattle.gql_select.specs.Reading.{Reading, IsReading, keyed}
use Rattle.gql_select.specs.Conflicts.{Agree, agreeing, both_alike, conflicts, first_differing}
use Rattle.gql_select.proofs.UnitingLemmas.{either, unite_here, unite_past}
use Rattle.gql_select.proofs.AgreeLemmas.{agree_left, agree_right}

module _ {A B : Type 0} (h : A → List B) where
  -- where each item gives nothing, all give nothing
  nothing_of_each : (xs : List A) → AllByRecursion (λ x. h x ≡ []) xs → flat_map h xs ≡ []
  nothing_of_each [] all = refl
  nothing_of_each (x ∷ xs) all = rw all.0 (nothing_of_each xs all.1)

  nothing_of_any : (xs : List A) → ((x : A) → Contains xs x → h x ≡ []) → flat_map h xs ≡ []
  nothing_of_any [] each = refl
  nothing_of_any (x ∷ xs) each =
      rw (each x (zero, omega arith, refl)) (nothing_of_any xs (λ y at. each y (suc at.0, omega arith, at.2)))

turn_each : {A : Type 0} (P Q : A → Type 0) (xs : List A) → ((x : A) → P x → Q x) → AllByRecursion P xs → AllByRecursion Q xs
turn_each P Q [] turn all = tt
turn_each P Q (x ∷ xs) turn all = (turn x all.0, turn_each P Q xs turn all.1)

module _ {O F X : Type 0} (reading : Reading O F X) (is : IsReading reading) (fs : List F) where
  -- a field of the set that has this key
  record IsOf (key : List ℕ) (f : F) : Type 0 where
    there : Contains fs f
    key_is : reading.key f ≡ key

  -- selections that are the sets of some fields of a key, one behind another
  data IsPut (key : List ℕ) : List X → Type 0 where
    alone : (f : F) → IsOf key f → IsPut key (reading.set f)
    behind : (xs : List X) (f : F) → IsPut key xs → IsOf key f → IsPut key (xs ++ reading.set f)

  -- what stands under a key: it asks what one of the key's fields asks, and its set is put together of theirs
  record IsHeaded (m : List ℕ × F) : Type 0 where
    head : F
    of_key : IsOf m.0 head
    asks : (g : F) → reading.alike m.1 g ≡ reading.alike head g
    possible : (i : O) → reading.objects i m.1 ≡ reading.objects i head
    is_put : IsPut m.0 (reading.set m.1)

  headed_new : (f : F) → Contains fs f → IsHeaded (reading.key f, f)
  headed_new f at =
      let of_key : IsOf (reading.key f) f = record { there = at; key_is = refl } in
      record { head = f; of_key = of_key; asks = λ g. refl; possible = λ i. refl; is_put = alone f of_key }

  headed_more : (m : List ℕ × F) (f : F) → IsHeaded m → IsOf m.0 f → IsHeaded (m.0, both_alike reading m.1 f)
  headed_more m f headed of_key =
      let Goal : Type 0 = IsHeaded (m.0, both_alike reading m.1 f) in
      either (reading.alike m.1 f) Goal
      (λ like. let one : both_alike reading m.1 f ≡ reading.both m.1 f = rw like refl in
      subst (λ g. IsHeaded (m.0, g)) (sym one) (record {
        head = headed.head;
        of_key = headed.of_key;
        asks = λ g. is.alike_both m.1 f g ∙ headed.asks g;
        possible = λ i. is.objects_of_both i m.1 f ∙ headed.possible i;
        is_put = subst (IsPut m.0) (sym (is.set_of_both m.1 f)) (behind (reading.set m.1) f headed.is_put of_key);
      }))
      (λ unlike. let one : both_alike reading m.1 f ≡ m.1 = rw unlike refl in subst (λ g. IsHeaded (m.0, g)) (sym one) headed)

  headed_unite : (ps : List (List ℕ × F)) (f : F) → AllByRecursion IsHeaded ps → Contains fs f
      → AllByRecursion IsHeaded (unite (both_alike reading) ps (reading.key f) f)
  headed_unite [] f all at = (headed_new f at, tt)
  headed_unite (p ∷ ps) f all at =
      either (bytes_eq (reading.key f) p.0) (AllByRecursion IsHeaded (unite (both_alike reading) (p ∷ ps) (reading.key f) f))
      (λ e. let of_key : IsOf p.0 f = record { there = at; key_is = (bytes_decides (reading.key f) p.0).0 e } in
      subst (AllByRecursion IsHeaded) (sym (unite_here (both_alike reading) p ps (reading.key f) f e))
      (headed_more p f all.0 of_key, all.1))
      (λ e. subst (AllByRecursion IsHeaded) (sym (unite_past (both_alike reading) p ps (reading.key f) f e))
      (all.0, headed_unite ps f all.1 at))

  headed_all : (ps : List (List ℕ × F)) (gs : List F) → AllByRecursion IsHeaded ps → ((g : F) → Contains gs g → Contains fs g)
      → AllByRecursion IsHeaded (unite_all (both_alike reading) ps (keyed reading gs))
  headed_all ps [] all within = all
  headed_all ps (g ∷ gs) all within =
      headed_all (unite (both_alike reading) ps (reading.key g) g) gs (headed_unite ps g all (within g (zero, omega arith, refl)))
      (λ h at. within h (suc at.0, omega arith, at.2))

  -- what holds of the sets of each two fields of a key holds of all that is put together of them
  module _ (n : ℕ) (i : O) (key : List ℕ)
      (pairs : (f g : F) → IsOf key f → IsOf key g → Agree reading n i (reading.set f) (reading.set g)) where
    put_right : (f : F) (ys : List X) → IsOf key f → IsPut key ys → Agree reading n i (reading.set f) ys
    put_right f _ one (alone g other) = pairs f g one other
    put_right f _ one (behind ys g rest other) =
        agree_right reading is n i ys (reading.set g) (reading.set f) (put_right f ys one rest) (pairs f g one other)

    put_left : (xs ys : List X) → IsPut key xs → IsPut key ys → Agree reading n i xs ys
    put_left _ ys (alone f one) other = put_right f ys one other
    put_left _ ys (behind xs f rest one) other =
        agree_left reading is n i xs (reading.set f) ys (put_left xs ys rest other) (put_right f ys one other)

  module _ {E : Type 0} (told : F → E) (m : List ℕ × F) where
    none_unlike : (gs : List F) → ((g : F) → Contains gs g → reading.key g ≡ m.0 → reading.alike m.1 g ≡ true)
        → first_differing reading told m gs ≡ []
    none_unlike [] each = refl
    none_unlike (g ∷ gs) each =
        let rest : first_differing reading told m gs ≡ [] = none_unlike gs (λ h at. each h (suc at.0, omega arith, at.2)) in
        either (bytes_eq (reading.key g) m.0) (first_differing reading told m (g ∷ gs) ≡ [])
        (λ e. let like : reading.alike m.1 g ≡ true = each g (zero, omega arith, refl) ((bytes_decides (reading.key g) m.0).0 e) in
        rw (e, like) rest)
        (λ e. rw e rest)

module _ {O F X : Type 0} (reading : Reading O F X) (is : IsReading reading) where
  -- why no key tells anything: its fields ask the same, and beneath them the sets agree
  pub none_from : {E : Type 0} (told : F → E) (n : ℕ) (o : O) (set : List X) → Agree reading n o set set
      → conflicts reading told n o set ≡ []
  none_from {E = E} told zero o set agree = refl
  none_from {E = E} told (suc n) o set agree =
      let fs : List F = reading.fields o set in
      let Headed : List ℕ × F → Type 0 = IsHeaded reading is fs in
      let beneath : List ℕ × F → List E
      = λ m. flat_map (λ inner. conflicts reading told n inner (reading.set m.1)) (reading.objects o m.1) in
      let tells : List ℕ × F → List E = λ m. first_differing reading told m fs ++ beneath m in
      let like : (m : List ℕ × F) (headed : Headed m) (f : F) → IsOf reading is fs m.0 f → reading.alike headed.head f ≡ true
      = λ m headed f of_key.
      (agree headed.head f headed.of_key.there of_key.there (headed.of_key.key_is ∙ sym of_key.key_is)).0 in
      let inner_none : (m : List ℕ × F) → Headed m → (i : O) → Contains (reading.objects o m.1) i
      → conflicts reading told n i (reading.set m.1) ≡ []
      = λ m headed i at.
      let pairs : (f g : F) → IsOf reading is fs m.0 f → IsOf reading is fs m.0 g
      → Agree reading n i (reading.set f) (reading.set g)
      = λ f g one other. (agree f g one.there other.there (one.key_is ∙ sym other.key_is)).1 i
      (subst (λ os. Contains os i) (headed.possible o ∙ is.objects_of_alike o headed.head f (like m headed f one)) at) in
      none_from told n i (reading.set m.1)
      (put_left reading is fs n i m.0 pairs (reading.set m.1) (reading.set m.1) headed.is_put headed.is_put) in
      let step : (m : List ℕ × F) → Headed m → tells m ≡ [] = λ m headed.
      let first : first_differing reading told m fs ≡ []
      = none_unlike reading is fs told m fs
      (λ f at same. headed.asks f ∙ like m headed f (record { there = at; key_is = same })) in
      let under : beneath m ≡ []
      = nothing_of_any (λ inner. conflicts reading told n inner (reading.set m.1)) (reading.objects o m.1) (inner_none m headed) in
      rw (first, under) refl in
      nothing_of_each tells (agreeing reading fs)
      (turn_each Headed (λ m. tells m ≡ []) (agreeing reading fs) step (headed_all reading is fs [] fs tt (λ g at. at)))
