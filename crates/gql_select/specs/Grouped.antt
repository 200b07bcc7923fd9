-- The places of an object: each key answered once, and each occurrence answered apart (GraphQL,
-- October 2021, sections 6.3 and 6.4). O is an object type, P the value of an object, F an
-- occurrence of a field, X a selection, Pl a place.
use Rattle.std.specs.Prelude.{◌≡◌, ℕ, zero, suc, true, List, [], ◌∷◌}
use Rattle.std.specs.List.{Contains}
use Rattle.gql_base.specs.Pairs.{unite_all}
use Rattle.gql_select.specs.Reading.{Reading, over, keyed, merged}

-- what is under the objects of a place: the members of each, by its type and its value
abbrev pub Beneath : (O P Pl : Type 0) → Type 0
Beneath O P Pl = O → P → List (List ℕ × Pl)

-- how the fields of objects become places: how sets are read, and the place of a field on an
-- object, by what is under its own objects
pub record Placing (O P F X Pl : Type 0) : Type 0 where
  pub reading : Reading O F X
  pub place : O → P → F → Beneath O P Pl → Pl

module _ {O P F X Pl : Type 0} (placing : Placing O P F X Pl) where
  -- merged execution: each key of the set is one field
  abbrev pub grouped : ℕ → O → P → List X → List (List ℕ × Pl)
  grouped zero o p set = []
  grouped (suc n) o p set =
      over
      (λ f. placing.place o p f (λ inner parent. grouped n inner parent (placing.reading.set f)))
      (merged placing.reading (placing.reading.fields o set))

  module _ (join : Pl → Pl → Pl) where
    -- the fields of a set are put into groups under their keys, each group has a place, and places
    -- under one key are joined
    abbrev pub respond_by : (List F → List (List ℕ × F)) → ℕ → O → P → List X → List (List ℕ × Pl)
    respond_by groups zero o p set = []
    respond_by groups (suc n) o p set =
        unite_all join []
        (over
        (λ f. placing.place o p f
        (λ inner parent. respond_by groups n inner parent (placing.reading.set f)))
        (groups (placing.reading.fields o set)))

    -- apart execution: each occurrence is a group of its own
    abbrev pub respond : ℕ → O → P → List X → List (List ℕ × Pl)
    respond = respond_by (keyed placing.reading)

    -- what is asked of the places of fields: they hang on what is under possible objects alone,
    -- and two that ask the same join as one
    pub record IsPlacing : Type 0 where
      pub same : (o : O) (p : P) (f : F) (b c : Beneath O P Pl)
          → ((inner : O) (parent : P) → Contains (placing.reading.objects o f) inner
          → b inner parent ≡ c inner parent)
          → placing.place o p f b ≡ placing.place o p f c
      pub joins : (o : O) (p : P) (f g : F) (b c : Beneath O P Pl)
          → placing.reading.alike f g ≡ true
          → join (placing.place o p f b) (placing.place o p g c)
          ≡ placing.place o p (placing.reading.both f g)
          (λ inner parent. unite_all join (b inner parent) (c inner parent))

-- the fields of a mutation's root, one after another (sections 6.2.2 and 6.3.1): each is answered
-- in the world that those before it left, and what is under it in the world that it leaves itself
module _ {F Pl W : Type 0} (effect : W → F → W) (placed : W → W → F → Pl) where
  -- the places of the fields under their keys
  abbrev pub in_turn : W → List (List ℕ × F) → List (List ℕ × Pl)
  in_turn world [] = []
  in_turn world (m ∷ ms) =
      (m.0, placed world (effect world m.1) m.1) ∷ in_turn (effect world m.1) ms

-- the world after the fields
abbrev pub world_behind : {F W : Type 0} → (W → F → W) → W → List (List ℕ × F) → W
world_behind effect world [] = world
world_behind effect world (m ∷ ms) = world_behind effect (effect world m.1) ms

-- how a mutation is answered: its root keys by one function, what is under them by another, each
-- in a world, and what a root key does to the world
pub record Mutating (O P F X Pl W : Type 0) : Type 0 where
  pub reading : Reading O F X
  pub effect : W → F → W
  pub root : W → O → P → F → Beneath O P Pl → Pl
  pub place : W → O → P → F → Beneath O P Pl → Pl

module _ {O P F X Pl W : Type 0} (mutating : Mutating O P F X Pl W) where
  -- how root fields become places in a world
  abbrev pub at_root : W → Placing O P F X Pl
  at_root world = record { reading = mutating.reading; place = mutating.root world }

  -- how fields under them do
  abbrev pub below_root : W → Placing O P F X Pl
  below_root world = record { reading = mutating.reading; place = mutating.place world }

  -- a mutation whose keys below the root are answered once each too
  abbrev pub serial_grouped : ℕ → O → P → List X → W → List (List ℕ × Pl)
  serial_grouped n o p set world =
      in_turn mutating.effect
      (λ before behind f. mutating.root before o p f
      (λ inner parent. grouped (below_root behind) n inner parent (mutating.reading.set f))) world
      (merged mutating.reading (mutating.reading.fields o set))

  -- a mutation whose occurrences below the root are answered apart
  abbrev pub serial_respond : (Pl → Pl → Pl) → ℕ → O → P → List X → W → List (List ℕ × Pl)
  serial_respond join n o p set world =
      in_turn mutating.effect
      (λ before behind f. mutating.root before o p f
      (λ inner parent. respond (below_root behind) join n inner parent (mutating.reading.set f)))
      world
      (merged mutating.reading (mutating.reading.fields o set))
