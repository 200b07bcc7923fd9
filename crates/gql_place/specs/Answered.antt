-- Places of fields, by what their answers come to.
use Rattle.std.specs.Prelude.{◌≡◌, true}
use Rattle.std.specs.List.{Contains}
use Rattle.gql_base.specs.declared.pos.Pos.{Pos}
use Rattle.gql_place.specs.Filled.{Outcome, objects_in, place_with}
use Rattle.gql_select.specs.Grouped.{Beneath, Mutating, Placing}
use Rattle.gql_select.specs.Reading.{Reading}
use Rattle.gql_place.specs.declared.place.Place.{Place}

-- the place of a field on an object, with what is under its objects
abbrev pub answered : {O P F : Type 0} → (F → Pos) → (O → P → F → Outcome O P) → O → P → F
    → Beneath O P Place → Place
answered pos outcome object parent field below =
    place_with (pos field) (outcome object parent field) below

-- how fields become places by what their answers come to
abbrev pub answering : {O P F X : Type 0} → Reading O F X → (F → Pos) → (O → P → F → Outcome O P)
    → Placing O P F X Place
answering reading pos outcome = record { reading = reading; place = answered pos outcome }

-- how a mutation is answered by what answers come to at its root, and under it, in each world
abbrev pub mutating : {O P F X W : Type 0} → Reading O F X → (W → F → W) → (F → Pos)
    → (W → O → P → F → Outcome O P)
    → (W → O → P → F → Outcome O P) → Mutating O P F X Place W
mutating reading effect pos root outcome = record {
  reading = reading;
  effect = effect;
  root = λ world. answered pos (root world);
  place = λ world. answered pos (outcome world);
}

module _ {O P F X : Type 0} (reading : Reading O F X) (pos : F → Pos)
    (outcome : O → P → F → Outcome O P) where
  -- answers hang on what a field asks alone, and come to objects that are possible under it
  pub record IsAnswering : Type 0 where
    pub pos_of_both : (f g : F) → pos (reading.both f g) ≡ pos f
    pub outcome_of_both : (object : O) (parent : P) (f g : F)
        → outcome object parent (reading.both f g)
        ≡ outcome object parent f
    pub outcome_of_alike : (object : O) (parent : P) (f g : F) → reading.alike f g ≡ true
        → outcome object parent g ≡ outcome object parent f
    pub objects_are_possible : (object : O) (parent : P) (f : F) (inner : O)
        → Contains (objects_in (outcome object parent f).shape) inner
        → Contains (reading.objects object f) inner
