-- How the selection sets of an object are read, over any kind of object type (O), of occurrence of
-- a field (F) and of selection (X) (GraphQL, October 2021, sections 5.3.2 and 6.3.2).
use Rattle.std.specs.Prelude.{◌≡◌, ℕ, Bool, true, List, [], ◌∷◌, ◌++◌}
use Rattle.gql_base.specs.Pairs.{unite_all}

-- the readings that the laws speak of: fields, their keys and sets, and what two occurrences of one
-- key have in common
pub record Reading (O F X : Type 0) : Type 0 where
  -- the occurrences of fields that an object has in a set, in document order
  pub fields : O → List X → List F
  -- the key of an occurrence in the response
  pub key : F → List ℕ
  -- the set of an occurrence
  pub set : F → List X
  -- the first of two occurrences, with the second's set after its own: one field stands for all
  -- occurrences of a key
  pub both : F → F → F
  -- whether two occurrences of one key ask the same
  pub alike : F → F → Bool
  -- the objects that are possible under an occurrence on an object
  pub objects : O → F → List O

-- A set is read as its parts are. Of united occurrences the first one counts, with the sets of
-- both; uniting is associative. Being alike is asked of first occurrences, goes both ways and
-- through a third, and alike occurrences have the same possible objects.
pub record IsReading {O F X : Type 0} (reading : Reading O F X) : Type 0 where
  pub fields_of_both : (o : O) (xs ys : List X) → reading.fields o (xs ++ ys) ≡ reading.fields o xs
      ++ reading.fields o ys
  pub set_of_both : (f g : F) → reading.set (reading.both f g) ≡ reading.set f ++ reading.set g
  pub both_of_both : (f g h : F)
      → reading.both (reading.both f g) h ≡ reading.both f (reading.both g h)
  pub objects_of_both : (o : O) (f g : F)
      → reading.objects o (reading.both f g) ≡ reading.objects o f
  pub objects_of_alike : (o : O) (f g : F) → reading.alike f g ≡ true
      → reading.objects o f ≡ reading.objects o g
  pub alike_both : (f g h : F) → reading.alike (reading.both f g) h ≡ reading.alike f h
  pub both_alike : (f g h : F) → reading.alike f (reading.both g h) ≡ reading.alike f g
  pub alike_turned : (f g : F) → reading.alike f g ≡ true → reading.alike g f ≡ true
  pub alike_through : (f g h : F) → reading.alike f g ≡ true → reading.alike g h ≡ true
      → reading.alike f h ≡ true

-- each value under its key, changed
abbrev pub over : {A B : Type 0} → (A → B) → List (List ℕ × A) → List (List ℕ × B)
over h [] = []
over h (p ∷ ps) = (p.0, h p.1) ∷ over h ps

module _ {O F X : Type 0} (reading : Reading O F X) where
  -- the occurrences under their keys
  abbrev pub keyed : List F → List (List ℕ × F)
  keyed [] = []
  keyed (f ∷ fs) = (reading.key f, f) ∷ keyed fs

  -- one field for each key, in the order of first occurrences (section 6.3.2)
  abbrev pub merged : List F → List (List ℕ × F)
  merged fs = unite_all reading.both [] (keyed fs)
