-- Conflicts between fields of one key (section 5.3.2), and what it means that two sets agree.
use Rattle.std.specs.Prelude.{◌≡◌, ℕ, zero, suc, true, ◌&&◌, not, List, [], ◌∷◌, ◌++◌}
use Rattle.std.specs.Prelude.{if◌then◌else◌}
use Rattle.std.specs.List.{Contains, flat_map}
use Rattle.std.specs.Str.{bytes_eq}
use Rattle.gql_base.specs.Pairs.{unite_all}
use Rattle.gql_select.specs.Reading.{Reading, keyed}

module _ {O F X : Type 0} (reading : Reading O F X) where
  -- two sets agree on an object: of one key there is one field, and under it the sets agree on
  -- each object that is possible there
  abbrev pub Agree : ℕ → O → List X → List X → Type 0
  Agree zero o one other = Unit {0}
  Agree (suc n) o one other =
      (f g : F) → Contains (reading.fields o one) f → Contains (reading.fields o other) g
      → reading.key f ≡ reading.key g
      → (reading.alike f g ≡ true) × ((inner : O) → Contains (reading.objects o f) inner
      → Agree n inner (reading.set f) (reading.set g))

  -- of two occurrences of a key the second is merged into the first where they are alike
  abbrev pub both_alike : F → F → F
  both_alike f g = if reading.alike f g then reading.both f g else f

  -- the occurrences of each key that are like its first one, as one field
  abbrev pub agreeing : List F → List (List ℕ × F)
  agreeing fs = unite_all both_alike [] (keyed reading fs)

  module _ {E : Type 0} (told : F → E) where
    -- the first occurrence of a key that isn't like the key's field
    abbrev pub first_differing : List ℕ × F → List F → List E
    first_differing m [] = []
    first_differing m (f ∷ fs) =
        if bytes_eq (reading.key f) m.0 && not (reading.alike m.1 f)
        then told f ∷ [] else first_differing m fs

    -- what is told of each key of a set that has unlike occurrences, and of the sets under, on
    -- each object that is possible there
    abbrev pub conflicts : ℕ → O → List X → List E
    conflicts zero o set = []
    conflicts (suc n) o set =
        flat_map (λ m. first_differing m (reading.fields o set)
        ++ flat_map (λ inner. conflicts n inner (reading.set m.1)) (reading.objects o m.1))
        (agreeing (reading.fields o set))
