-- Merged execution over fewer occurrences, where those that are left out stand before.
use Rattle.std.proofs.Common.{◌≡◌, ℕ, zero, suc, Bool, true, List, [], ◌∷◌, ◌++◌, refl, ap, sym, subst, subst₂, ◌∙◌}
use Rattle.std.specs.List.{AllByRecursion, Contains}
use Rattle.gql_select.specs.Fewer.{FirstCounts, FirstCountsInTurn, LeavesOut, mutating_over, placing_over}
use Rattle.gql_select.specs.Grouped.{at_root, below_root, Beneath, grouped, in_turn, Mutating, Placing, serial_grouped}
use Rattle.gql_select.specs.Reading.{IsReading, merged, over, Reading}
use Rattle.gql_select.specs.Thinned.{Thinned}
use Rattle.gql_select.proofs.AgreeLemmas.{in_left, in_right}
use Rattle.gql_select.proofs.ThinLemmas.{all_go, all_stay, ArePaired, each_into, IsClose, thin_in, thin_itself, united_paired}

module _ {O F X : Type 0} (reading : Reading O F X) (is : IsReading reading) where
  -- sets whose fields are the same but for repetitions
  abbrev pub SameSets : List X → List X → Type 0
  SameSets xs ys = (o : O) → Thinned F (reading.fields o xs) (reading.fields o ys)

  -- two fields have the same first occurrence
  pub data SameFirst : F → F → Type 0 where
    alone : (f : F) → SameFirst f f
    first : {f g : F} (x : F) → SameFirst f g → SameFirst (reading.both f x) g
    second : {f g : F} (x : F) → SameFirst f g → SameFirst f (reading.both g x)

  -- what hangs on first occurrences alone is the same of both
  pub of_first : {A : Type 0} (v : F → A) → ((f g : F) → v (reading.both f g) ≡ v f) → (f g : F) → SameFirst f g → v f ≡ v g
  of_first v counts f g (alone h) = refl
  of_first v counts f g (first {f = f'} {g = g'} x h) = counts f' x ∙ of_first v counts f' g' h
  of_first v counts f g (second {f = f'} {g = g'} x h) = of_first v counts f' g' h ∙ sym (counts g' x)

  -- two fields ask the same, and their sets are the same but for repetitions
  abbrev pub Close : F → F → Type 0
  Close f g = SameFirst f g × SameSets (reading.set f) (reading.set g)

  -- the fields of y's set stand in that of g
  abbrev pub Holds : F → F → Type 0
  Holds y g = (o : O) (x : F) → Contains (reading.fields o (reading.set y)) x → Contains (reading.fields o (reading.set g)) x

  pub holds_later : (y g x : F) → Holds y g → Holds y (reading.both g x)
  holds_later y g x holds o z at =
      subst (λ s. Contains (reading.fields o s) z) (sym (is.set_of_both g x))
      (in_left reading is o (reading.set g) (reading.set x) z (holds o z at))

  pub holds_added : (g x : F) → Holds x (reading.both g x)
  holds_added g x o z at =
      subst (λ s. Contains (reading.fields o s) z) (sym (is.set_of_both g x)) (in_right reading is o (reading.set g) (reading.set x) z at)

  fields_both : (o : O) (f g : F)
      → reading.fields o (reading.set (reading.both f g)) ≡ reading.fields o (reading.set f) ++ reading.fields o (reading.set g)
  fields_both o f g = ap (reading.fields o) (is.set_of_both f g) ∙ is.fields_of_both o (reading.set f) (reading.set g)

  pub close_both : (f g x : F) → Close f g → Close (reading.both f x) (reading.both g x)
  close_both f g x close = (
    first x (second x close.0),
    λ o. subst₂ (Thinned F) (sym (fields_both o f x)) (sym (fields_both o g x))
        (all_stay (reading.fields o (reading.set f)) (reading.fields o (reading.set g)) (reading.fields o (reading.set x)) (close.1 o)),
  )

  pub close_left : (f g x : F) → Close f g → Holds x g → Close (reading.both f x) g
  close_left f g x close holds = (
    first x close.0,
    λ o. subst (λ a. Thinned F a (reading.fields o (reading.set g))) (sym (fields_both o f x))
        (all_go (reading.fields o (reading.set f)) (reading.fields o (reading.set g)) (reading.fields o (reading.set x)) (close.1 o)
        (holds o)),
  )

  pub close_itself : (x : F) → Close x x
  close_itself x = (alone x, λ o. thin_itself (reading.fields o (reading.set x)))

  merged_close : IsClose reading.both Close Holds
  merged_close = record {
    itself = close_itself;
    both = close_both;
    left = close_left;
    first = λ x o z at. at;
    added = holds_added;
    later = holds_later;
  }

  pub merged_paired : (xs ys : List F) → Thinned F xs ys → ArePaired Close (merged reading xs) (merged reading ys)
  merged_paired xs ys thin = united_paired reading reading.both Close Holds merged_close xs ys thin

  -- pairs of close values give the same
  over_paired : {A : Type 0} (h k : F → A) (P : F → Type 0) → ((f g : F) → Close f g → P g → h f ≡ k g) → (ps qs : List (List ℕ × F))
      → ArePaired Close ps qs → AllByRecursion (λ q. P q.1) qs → over h ps ≡ over k qs
  over_paired h k P same [] [] paired all = refl
  over_paired h k P same [] (q ∷ qs) paired all = absurd paired
  over_paired h k P same (p ∷ ps) [] paired all = absurd paired
  over_paired h k P same (p ∷ ps) (q ∷ qs) paired all =
      λ i. (paired.0 i, same p.1 q.1 paired.1.0 all.0 i) ∷ over_paired h k P same ps qs paired.1.1 all.1 i

  pub all_unit : (qs : List (List ℕ × F)) → AllByRecursion (λ q. Unit {0}) qs
  all_unit [] = tt
  all_unit (q ∷ qs) = (tt, all_unit qs)

  -- fewer fields, and what nests beneath them
  module _ (fewer : O → List X → List F) (nests : List X → Bool) (leaves : LeavesOut reading fewer nests) where
    -- the set of a field nests
    abbrev pub SetNests : F → Type 0
    SetNests f = nests (reading.set f) ≡ true

    pub both_nests : (f g : F) → SetNests f → SetNests g → SetNests (reading.both f g)
    both_nests f g one other = ap nests (is.set_of_both f g) ∙ leaves.together (reading.set f) (reading.set g) one other

    pub fewer_nests : (o : O) (set : List X) → nests set ≡ true → (f : F) → Contains (fewer o set) f → SetNests f
    fewer_nests o set nest f at =
        leaves.beneath o set nest f (thin_in (reading.fields o set) (fewer o set) (leaves.thinned o set nest) f at)

    pub fewer_paired : (o : O) (set : List X) → nests set ≡ true
        → ArePaired Close (merged reading (reading.fields o set)) (merged reading (fewer o set))
    fewer_paired o set nest = merged_paired (reading.fields o set) (fewer o set) (leaves.thinned o set nest)

    pub all_nest : (o : O) (set : List X) → nests set ≡ true → AllByRecursion (λ q. SetNests q.1) (merged reading (fewer o set))
    all_nest o set nest = each_into reading reading.both SetNests both_nests [] (fewer o set) tt (fewer_nests o set nest)

module _ {O P F X Pl : Type 0} (placing : Placing O P F X Pl) (is : IsReading placing.reading)
    (counts : FirstCounts placing.reading placing.place) where
  pub place_close : (o : O) (p : P) (f g : F) (b c : Beneath O P Pl) → SameFirst placing.reading is f g
      → ((inner : O) (parent : P) → b inner parent ≡ c inner parent)
      → placing.place o p f b ≡ placing.place o p g c
  place_close o p f g b c same each =
      (λ i. placing.place o p f (λ inner parent. each inner parent i))
      ∙ of_first placing.reading is (λ h. placing.place o p h c) (λ h x. counts o p h x c) f g same

  -- sets whose fields are the same but for repetitions
  pub grouped_same : (n : ℕ) (o : O) (p : P) (xs ys : List X) → SameSets placing.reading is xs ys → grouped placing n o p xs
      ≡ grouped placing n o p ys
  grouped_same zero o p xs ys thin = refl
  grouped_same (suc n) o p xs ys thin =
      over_paired placing.reading is _ _ (λ g. Unit {0})
      (λ f g close u. place_close o p f g _ _ close.0
      (λ inner parent. grouped_same n inner parent (placing.reading.set f) (placing.reading.set g) close.1))
      (merged placing.reading (placing.reading.fields o xs)) (merged placing.reading (placing.reading.fields o ys))
      (merged_paired placing.reading is (placing.reading.fields o xs) (placing.reading.fields o ys) (thin o))
      (all_unit placing.reading is (merged placing.reading (placing.reading.fields o ys)))

  module _ (fewer : O → List X → List F) (nests : List X → Bool) (leaves : LeavesOut placing.reading fewer nests) where
    pub grouped_fewer : (n : ℕ) (o : O) (p : P) (set : List X) → nests set ≡ true → grouped (placing_over placing fewer) n o p set
        ≡ grouped placing n o p set
    grouped_fewer zero o p set nest = refl
    grouped_fewer (suc n) o p set nest =
        sym (over_paired placing.reading is _ _ (SetNests placing.reading is fewer nests leaves)
        (λ f g close nest'. place_close o p f g _ _ close.0
        (λ inner parent. grouped_same n inner parent (placing.reading.set f) (placing.reading.set g) close.1
        ∙ sym (grouped_fewer n inner parent (placing.reading.set g) nest')))
        (merged placing.reading (placing.reading.fields o set)) (merged placing.reading (fewer o set))
        (fewer_paired placing.reading is fewer nests leaves o set nest)
        (all_nest placing.reading is fewer nests leaves o set nest))

module _ {O P F X Pl W : Type 0} (mutating : Mutating O P F X Pl W) (is : IsReading mutating.reading) (counts : FirstCountsInTurn mutating)
    (fewer : O → List X → List F) (nests : List X → Bool) (leaves : LeavesOut mutating.reading fewer nests) (n : ℕ) (o : O) (p : P) where
  abbrev at_one : W → W → F → Pl
  at_one before behind f =
      mutating.root before o p f (λ inner parent. grouped (below_root mutating behind) n inner parent (mutating.reading.set f))

  abbrev at_other : W → W → F → Pl
  at_other before behind f =
      mutating.root before o p f (λ inner parent. grouped (below_root (mutating_over mutating fewer) behind) n inner parent
      (mutating.reading.set f))

  root_same : (before behind : W) (f g : F) → Close mutating.reading is f g → nests (mutating.reading.set g) ≡ true
      → at_one before behind f ≡ at_other before behind g
  root_same before behind f g close nest =
      place_close (at_root mutating before) is (counts.root before) o p f g _ _ close.0
      (λ inner parent.
      grouped_same (below_root mutating behind) is (counts.place behind) n inner parent (mutating.reading.set f)
      (mutating.reading.set g) close.1
      ∙ sym (grouped_fewer (below_root mutating behind) is (counts.place behind) fewer nests leaves n inner parent
      (mutating.reading.set g) nest))

  in_turn_paired : (world : W) (ps qs : List (List ℕ × F)) → ArePaired (Close mutating.reading is) ps qs
      → AllByRecursion (λ q. nests (mutating.reading.set q.1) ≡ true) qs
      → in_turn mutating.effect at_one world ps ≡ in_turn mutating.effect at_other world qs
  in_turn_paired world [] [] paired all = refl
  in_turn_paired world [] (q ∷ qs) paired all = absurd paired
  in_turn_paired world (m ∷ ps) [] paired all = absurd paired
  in_turn_paired world (m ∷ ps) (q ∷ qs) paired all =
      let behind : mutating.effect world m.1 ≡ mutating.effect world q.1
      = of_first mutating.reading is (mutating.effect world) (counts.effect world) m.1 q.1 paired.1.0.0 in
      (λ i. (paired.0 i, root_same world (mutating.effect world m.1) m.1 q.1 paired.1.0 all.0 i)
      ∷ in_turn_paired (mutating.effect world m.1) ps qs paired.1.1 all.1 i)
      ∙ (λ i. (q.0, at_other world (behind i) q.1) ∷ in_turn mutating.effect at_other (behind i) qs)

  pub serial_fewer : (set : List X) (world : W) → nests set ≡ true
      → serial_grouped (mutating_over mutating fewer) n o p set world ≡ serial_grouped mutating n o p set world
  serial_fewer set world nest =
      sym (in_turn_paired world (merged mutating.reading (mutating.reading.fields o set)) (merged mutating.reading (fewer o set))
      (fewer_paired mutating.reading is fewer nests leaves o set nest) (all_nest mutating.reading is fewer nests leaves o set nest))
