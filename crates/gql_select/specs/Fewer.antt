-- Execution and conflicts over fewer occurrences of fields, where those that are left out stand
-- before, too: nothing is answered or told otherwise.
use Rattle.std.specs.Prelude.{◌≡◌, ℕ, Bool, true, List, ◌++◌}
use Rattle.std.specs.List.{Contains}
use Rattle.gql_select.specs.Conflicts.{conflicts}
use Rattle.gql_select.specs.Grouped.{Beneath, grouped, Mutating, Placing, serial_grouped}
use Rattle.gql_select.specs.Reading.{IsReading, Reading}
use Rattle.gql_select.specs.Thinned.{Thinned}

-- the same reading with another way to collect fields
abbrev pub reading_over : {O F X : Type 0} → Reading O F X → (O → List X → List F) → Reading O F X
reading_over reading fewer = record reading { fields = fewer }

-- how fields become places, where they are collected so
abbrev pub placing_over : {O P F X Pl : Type 0} → Placing O P F X Pl → (O → List X → List F)
    → Placing O P F X Pl
placing_over placing fewer = record placing { reading = reading_over placing.reading fewer }

-- how a mutation is answered, where they are
abbrev pub mutating_over : {O P F X Pl W : Type 0} → Mutating O P F X Pl W → (O → List X → List F)
    → Mutating O P F X Pl W
mutating_over mutating fewer = record mutating { reading = reading_over mutating.reading fewer }

-- in sets that nest, a way to collect fields leaves out repetitions alone; the sets of their fields
-- nest, and so do sets that nest put together
pub record LeavesOut {O F X : Type 0} (reading : Reading O F X) (fewer : O → List X → List F)
    (nests : List X → Bool) : Type 0 where
  pub thinned : (o : O) (set : List X) → nests set ≡ true
      → Thinned F (reading.fields o set) (fewer o set)
  pub beneath : (o : O) (set : List X) → nests set ≡ true → (f : F)
      → Contains (reading.fields o set) f → nests (reading.set f) ≡ true
  pub together : (xs ys : List X) → nests xs ≡ true → nests ys ≡ true → nests (xs ++ ys) ≡ true

-- of united occurrences the place hangs on the first, and on what is under them
abbrev pub FirstCounts : {O P F X Pl : Type 0} → Reading O F X
    → (O → P → F → Beneath O P Pl → Pl) → Type 0
FirstCounts {O = O} {P = P} {F = F} {Pl = Pl} reading place =
    (o : O) (p : P) (f g : F) (below : Beneath O P Pl)
    → place o p (reading.both f g) below ≡ place o p f below

-- of a mutation too, and what a root key does to the world hangs on its first occurrence
pub record FirstCountsInTurn {O P F X Pl W : Type 0} (mutating : Mutating O P F X Pl W)
    : Type 0 where
  pub root : (world : W) → FirstCounts mutating.reading (mutating.root world)
  pub place : (world : W) → FirstCounts mutating.reading (mutating.place world)
  pub effect : (world : W) (f g : F)
      → mutating.effect world (mutating.reading.both f g) ≡ mutating.effect world f

-- merged execution over the fewer fields is merged execution
abbrev pub FewerAreGrouped : (O P F X Pl : Type 0) → Type 0
FewerAreGrouped O P F X Pl =
    (placing : Placing O P F X Pl) → IsReading placing.reading
    → FirstCounts placing.reading placing.place
    → (fewer : O → List X → List F) (nests : List X → Bool)
    → LeavesOut placing.reading fewer nests
    → (n : ℕ) (o : O) (p : P) (set : List X) → nests set ≡ true
    → grouped (placing_over placing fewer) n o p set ≡ grouped placing n o p set

-- a mutation over them is that mutation
abbrev pub FewerAreSerial : (O P F X Pl W : Type 0) → Type 0
FewerAreSerial O P F X Pl W =
    (mutating : Mutating O P F X Pl W) → IsReading mutating.reading → FirstCountsInTurn mutating
    → (fewer : O → List X → List F) (nests : List X → Bool)
    → LeavesOut mutating.reading fewer nests
    → (n : ℕ) (o : O) (p : P) (set : List X) (world : W) → nests set ≡ true
    → serial_grouped (mutating_over mutating fewer) n o p set world
    ≡ serial_grouped mutating n o p set world

-- the conflicts of the fewer fields are the conflicts, in their order
abbrev pub FewerConflict : (O F X E : Type 0) → Type 0
FewerConflict O F X E =
    (reading : Reading O F X) → IsReading reading → (told : F → E)
    → (fewer : O → List X → List F) (nests : List X → Bool) → LeavesOut reading fewer nests
    → (n : ℕ) (o : O) (set : List X) → nests set ≡ true
    → conflicts (reading_over reading fewer) told n o set ≡ conflicts reading told n o set
