-- Mutations: what is under the root keys may be answered apart or once.
use Rattle.std.proofs.Common.{◌≡◌, ℕ, suc, true, List, [], ◌∷◌, refl, sym, subst}
use Rattle.std.specs.List.{Contains, AllByRecursion}
use Rattle.std.specs.Str.{bytes_eq}
use Rattle.gql_select.specs.Reading.{Reading, IsReading, keyed, merged}
use Rattle.gql_select.specs.Grouped.{at_root, below_root, IsPlacing, in_turn, Mutating, serial_grouped, serial_respond}
use Rattle.gql_select.specs.Conflicts.{Agree}
use Rattle.gql_select.proofs.UnitingLemmas.{each_united}
use Rattle.gql_select.proofs.MergeLemmas.{Fit, fit_left, among_in, first_in, later_in, respond_grouped}

module _ {O F X : Type 0} (reading : Reading O F X) (is : IsReading reading) (n : ℕ) (o : O) where
  -- under a field all agrees
  abbrev pub AgreesBeneath : F → Type 0
  AgreesBeneath f = (inner : O) → Contains (reading.objects o f) inner → Agree reading n inner (reading.set f) (reading.set f)

  beneath_each : (set : List X) → Agree reading (suc n) o set set → (fs : List F) → ((f : F) → Contains fs f → Contains (reading.fields o set) f)
      → AllByRecursion (λ p. AgreesBeneath p.1) (keyed reading fs)
  beneath_each set agree [] within = tt
  beneath_each set agree (f ∷ fs) within =
      ((agree f f (within f (first_in f fs)) (within f (first_in f fs)) refl).1, beneath_each set agree fs (λ g at. within g (later_in f g fs at)))

  beneath_both : (p q : List ℕ × F) → bytes_eq q.0 p.0 ≡ true → Fit reading is n o p.1 q.1 → AgreesBeneath p.1 → AgreesBeneath q.1
      → AgreesBeneath (reading.both p.1 q.1)
  beneath_both p q e fit one two =
      λ inner at. subst (λ xs. Agree reading n inner xs xs) (sym (is.set_of_both p.1 q.1))
      (fit.beneath inner (subst (λ os. Contains os inner) (is.objects_of_both o p.1 q.1) at))

  -- under the merged fields of a set that agrees with itself all agrees
  pub merged_agree : (set : List X) → Agree reading (suc n) o set set → AllByRecursion (λ p. AgreesBeneath p.1) (merged reading (reading.fields o set))
  merged_agree set agree =
      let fs : List F = reading.fields o set in
      each_united reading.both (Fit reading is n o) (fit_left reading is n o) (λ p. AgreesBeneath p.1) beneath_both [] (keyed reading fs) tt
      (among_in reading is n o set agree fs (λ f at. at)) tt (beneath_each set agree fs (λ f at. at))

in_turn_same : {F Pl W : Type 0} (effect : W → F → W) (one other : W → W → F → Pl) (S : F → Type 0) → ((w v : W) (f : F) → S f → one w v f ≡ other w v f)
    → (world : W) (ms : List (List ℕ × F)) → AllByRecursion (λ p. S p.1) ms → in_turn effect one world ms ≡ in_turn effect other world ms
in_turn_same effect one other S same world [] all = refl
in_turn_same effect one other S same world (m ∷ ms) all =
    λ i. (m.0, same world (effect world m.1) m.1 all.0 i) ∷ in_turn_same effect one other S same (effect world m.1) ms all.1 i

module _ {O P F X Pl W : Type 0} (mutating : Mutating O P F X Pl W) (is : IsReading mutating.reading) (join : Pl → Pl → Pl)
    (rooting : (w : W) → IsPlacing (at_root mutating w) join) (placing : (w : W) → IsPlacing (below_root mutating w) join) where
  pub serial_same : (n : ℕ) (o : O) (p : P) (set : List X) (world : W) → Agree mutating.reading (suc n) o set set
      → serial_respond mutating join n o p set world ≡ serial_grouped mutating n o p set world
  serial_same n o p set world agree =
      in_turn_same mutating.effect _ _ (AgreesBeneath mutating.reading is n o)
      (λ w v f beneath. (rooting w).same o p f _ _
      (λ inner parent at. respond_grouped (below_root mutating v) is join (placing v) n inner parent (mutating.reading.set f) (beneath inner at)))
      world (merged mutating.reading (mutating.reading.fields o set)) (merged_agree mutating.reading is n o set agree)
