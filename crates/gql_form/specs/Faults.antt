-- What a reader answers beside what its definition reads. Want of memory may come at any place.
use Rattle.std.specs.Prelude.{◌≡◌, ◌∷◌, Result, Ok, Err}
use Rattle.gql_base.specs.ReadJson.{Reading}
use Rattle.gql_base.specs.declared.path_segment.PathSegment.{PathSegment}
use Rattle.gql_form.specs.declared.fault.Fault.{Fault}
use Rattle.gql_form.specs.declared.fault.Fault.TheVariants.{Bad, NoMemory}

-- the value that is read, as contracts see it by a function, or the first bad place
abbrev pub IsReadAs : {A B : Type 0} → (A → B) → Result A Fault → Reading B → Type 0
IsReadAs see (Ok read) reading = reading ≡ Ok (see read)
IsReadAs see (Err (Bad place)) reading = reading ≡ Err place
IsReadAs see (Err NoMemory) reading = Unit {0}

-- the value that is read, or the first bad place
abbrev pub IsRead : {A : Type 0} → Result A Fault → Reading A → Type 0
IsRead (Ok read) reading = reading ≡ Ok read
IsRead (Err (Bad place)) reading = reading ≡ Err place
IsRead (Err NoMemory) reading = Unit {0}

-- a fault, seen from before one more step
abbrev pub IsInside : PathSegment → Fault → Fault → Type 0
IsInside step (Bad place) (Bad outer) = outer ≡ step ∷ place
IsInside step NoMemory (Bad outer) = ⊥
IsInside step fault NoMemory = Unit {0}
