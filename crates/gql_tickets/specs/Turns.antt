-- The rule of tickets and turns: what the words and the slot of a table say together with what its
-- seats know.
use Rattle.std.specs.Prelude.{◌≡◌, ◌≢◌, ◌<◌, ◌≤◌, ◌+◌, ◌*◌, ◌^◌, ◌++◌, ◌⊎◌, ◌==◌}
use Rattle.std.specs.Prelude.{ℕ, zero, suc, Bool, true, false, if◌then◌else◌}
use Rattle.std.specs.Prelude.{List, [], ◌∷◌, length, Option, Some}
use mathlib.Core.Option.{none, some}
use mathlib.Core.Option as maybe
use lib.ListN.{get_elem?}
use Rattle.atomic_table.specs.Table.{State, Me}
use Rattle.gql_tickets.specs.declared.view.Part.{Part}
use Rattle.gql_tickets.specs.declared.view.View.{View}

abbrev pub mark : Bool → ℕ
mark true = 1
mark false = 0

module _ {O E : Type 0} where
  -- a view stands in this place
  abbrev pub At : List (View O E) → ℕ → View O E → Type 0
  At views id v = get_elem? views id ≡ some v

  -- f of each view, added up
  abbrev pub total : (View O E → ℕ) → List (View O E) → ℕ
  total f [] = 0
  total f (v ∷ vs) = f v + total f vs

  -- how often a number stands among parts
  abbrev pub times : ℕ → List (Part O E) → ℕ
  times n [] = 0
  times n (p ∷ ps) = mark (p.number == n) + times n ps

  -- what the first of them has seen, and its number
  abbrev pub seen_in : List (Part O E) → List E
  seen_in [] = []
  seen_in (p ∷ ps) = p.seen

  abbrev pub number_in : List (Part O E) → ℕ
  number_in [] = 0
  number_in (p ∷ ps) = p.number

  -- parts of which the thing was this one at first
  abbrev pub AreFrom : O → List (Part O E) → Type 0
  AreFrom origin [] = Unit {0}
  AreFrom origin (p ∷ ps) = (p.origin ≡ origin) × AreFrom origin ps

  -- so many numbers from one on, none of which has seen anything
  abbrev pub from : O → ℕ → ℕ → List (Part O E)
  from origin start zero = []
  from origin start (suc n) =
      record { origin = origin; number = start; seen = [] } ∷ from origin (start + 1) n

  -- what a seat knows that waits for nothing
  abbrev pub idle_view : List (Part O E) → ℕ → View O E
  idle_view parts drew = record {
    parts = parts;
    drew = drew;
    waits = false;
    ticket = 0;
    out = false;
    counted = false;
  }

  -- what the first seat knows
  abbrev pub maker : O → ℕ → View O E
  maker origin seats = idle_view (from origin 0 seats) 0

  abbrev pub first_part : List (Part O E) → List (Part O E)
  first_part [] = []
  first_part (p ∷ ps) = p ∷ []

  abbrev pub other_parts : List (Part O E) → List (Part O E)
  other_parts [] = []
  other_parts (p ∷ ps) = ps

  -- a seat is split: the first number goes to the new one
  abbrev pub left_of : View O E → View O E
  left_of v = idle_view (other_parts v.parts) 0

  abbrev pub right_of : View O E → View O E
  right_of v = idle_view (first_part v.parts) 0

  -- two seats are joined: one has the numbers of both, the other none
  abbrev pub both_of : View O E → View O E → View O E
  both_of v w = idle_view (v.parts ++ w.parts) (v.drew + w.drew)

  abbrev pub spent_one : View O E
  spent_one = idle_view [] 0

  -- a seat waits for nothing and has nothing
  pub record IsQuiet (v : View O E) : Type 0 where
    pub waits : v.waits ≡ false
    pub out : v.out ≡ false

module _ {E : Type 0} (by : E → ℕ) where
  -- the entries of one caller
  abbrev pub entries_by : ℕ → List E → List E
  entries_by n [] = []
  entries_by n (e ∷ es) = if by e == n then e ∷ entries_by n es else entries_by n es

  -- all callers are below this number
  abbrev pub AllBelow : ℕ → List E → Type 0
  AllBelow seats [] = Unit {0}
  AllBelow seats (e ∷ es) = (by e < seats) × AllBelow seats es

  -- of each number a journal has just the entries that its seat saw as its own
  abbrev pub AreAll : {O : Type 0} → List E → List (Part O E) → Type 0
  AreAll log [] = Unit {0}
  AreAll log (p ∷ ps) = (entries_by p.number log ≡ entries_by p.number p.seen) × AreAll log ps

-- IsAt origin log a: the thing a came of origin, and has this journal
module _ {O E A : Type 0} (by : E → ℕ) (IsAt : O → List E → A → Type 0) where
  -- a number has seen a front of the journal, in which all its own entries stand
  pub record IsPart (origin : O) (seats : ℕ) (log : List E) (p : Part O E) : Type 0 where
    pub origin_is : p.origin ≡ origin
    pub below : p.number < seats
    pub rest : List E
    pub seen : log ≡ p.seen ++ rest
    pub others : entries_by by p.number rest ≡ []

  abbrev pub AreParts : O → ℕ → List E → List (Part O E) → Type 0
  AreParts origin seats log [] = Unit {0}
  AreParts origin seats log (p ∷ ps) =
      IsPart origin seats log p × AreParts origin seats log ps

  -- what holds of each seat: one that waits stands for one number, and its ticket is one whose turn
  -- is to come; one that has the thing waits, and its turn has come
  pub record Knows (origin : O) (seats ticket turn : ℕ) (log : List E) (v : View O E) : Type 0 where
    pub parts : AreParts origin seats log v.parts
    pub one : v.waits ≡ true → length v.parts ≡ 1
    pub waiting : v.waits ≡ true → (turn ≤ v.ticket) × (v.ticket < ticket)
    pub has : v.out ≡ true → (v.waits ≡ true) × (v.ticket ≡ turn)
    pub drew : v.drew ≤ length v.parts * 4294967296

  -- the thing is at home, and no seat has taken it; or one has, which has seen the whole journal
  abbrev pub Lies : O → List E → List (maybe.Option (Option A)) → List (View O E) → Type 0
  Lies origin log homes views =
      ((held : A) × (homes ≡ some (Some held) ∷ []) × IsAt origin log held
      × ((id : ℕ) (v : View O E) → At views id v → v.out ≡ false))
      ⊎ ((homes ≡ none ∷ []) × (id : ℕ) × (v : View O E) × At views id v × (v.out ≡ true)
      × (seen_in v.parts ≡ log))

  -- the rule. The words are the next ticket, the ticket whose turn it is, and the length of the
  -- journal; no number stands twice, and each ticket from the turn on is that of one waiting seat
  pub record Kept (origin : O) (seats : ℕ) (s : State (Option A) (View O E)) : Type 0 where
    pub ticket : ℕ
    pub turn : ℕ
    pub log : List E
    pub words : s.words ≡ ticket ∷ turn ∷ length log ∷ []
    pub ordered : turn ≤ ticket
    pub drawn : total (λ v. v.drew) s.views ≡ ticket
    pub few : seats ≤ 65536
    pub seated : total (λ v. length v.parts) s.views ≡ seats
    pub once : (n : ℕ) → total (λ v. times n v.parts) s.views ≤ 1
    pub callers : AllBelow by seats log
    pub fits : (id : ℕ) (v : View O E) → At s.views id v → Knows origin seats ticket turn log v
    pub tickets : (id id' : ℕ) (v v' : View O E) → At s.views id v → At s.views id' v'
        → v.waits ≡ true → v'.waits ≡ true → v.ticket ≡ v'.ticket → id ≡ id'
    pub held : (t : ℕ) → turn ≤ t → t < ticket
        → (id : ℕ) × (v : View O E) × At s.views id v × (v.waits ≡ true) × (v.ticket ≡ t)
    pub lies : Lies origin log s.homes s.views

  -- what a seat knows, with what it has taken
  abbrev pub Hand : Type 0
  Hand = Me (Option A) (View O E)

  -- its turn has come, and it has taken the thing, whose journal begins with all that it had seen
  -- and has no more entries of its own
  pub record Takes (p : Part O E) (m n : Me (Option A) (View O E)) : Type 0 where
    pub taken : A
    pub between : List E
    pub parts : m.0.parts ≡ p ∷ []
    pub is : n ≡ (
      record m.0 {
        out = true;
        counted = false;
        parts = record p { seen = p.seen ++ between } ∷ [];
      },
      (0, Some taken) ∷ m.1,
    )
    pub kept : IsAt p.origin (p.seen ++ between) taken
    pub others : entries_by by p.number between ≡ []

  -- it took the thing, or found the turn of another
  abbrev pub Looks : Me (Option A) (View O E) → ℕ → Me (Option A) (View O E) → Type 0
  Looks m found n = ((found ≡ m.0.ticket) × ((p : Part O E) × Takes p m n))
      ⊎ ((found ≢ m.0.ticket) × (n ≡ m))

  -- a seat of this number, which waited for nothing, has the thing, whose journal begins with what
  -- it had seen and has no more entries of its own
  pub record Has (p : Part O E) (old : View O E) (place : Me (Option A) (View O E)) : Type 0 where
    pub taken : A
    pub between : List E
    pub is : place ≡ (
      record old {
        drew = old.drew + 1;
        waits = true;
        ticket = place.0.ticket;
        out = true;
        counted = false;
        parts = record p { seen = p.seen ++ between } ∷ [];
      },
      (0, Some taken) ∷ [],
    )
    pub kept : IsAt p.origin (p.seen ++ between) taken
    pub others : entries_by by p.number between ≡ []

  -- what it has is the thing with one entry more than it had seen, which is its own
  pub record IsOneMore (p : Part O E) (e : E) (out : List (ℕ × Option A)) : Type 0 where
    pub taken : A
    pub is : out ≡ (0, Some taken) ∷ []
    pub kept : IsAt p.origin (p.seen ++ e ∷ []) taken
    pub caller : by e ≡ p.number
    pub fits : length (p.seen ++ e ∷ []) < 2 ^ 63

  -- the entry was counted, and the seat has seen it
  pub record Counts (m : Me (Option A) (View O E)) (found : ℕ)
      (n : Me (Option A) (View O E)) : Type 0 where
    pub part : Part O E
    pub entry : E
    pub parts : m.0.parts ≡ part ∷ []
    pub more : IsOneMore part entry m.1
    pub is : n ≡ (
      record m.0 {
        counted = true;
        parts = record part { seen = part.seen ++ entry ∷ [] } ∷ [];
      },
      m.1,
    )

-- what the other steps tell: a ticket was drawn; the turn was passed, and the seat has nothing left
module _ {O E : Type 0} where
  abbrev pub draws : View O E → ℕ → View O E
  draws v found = record v { drew = v.drew + 1; waits = true; ticket = found }

  abbrev pub passes : View O E → View O E
  passes v = record v { waits = false; out = false; counted = false }

module _ {O E A : Type 0} where
  abbrev pub Draws : Me (Option A) (View O E) → ℕ → Me (Option A) (View O E) → Type 0
  Draws m found n = n ≡ (draws m.0 found, m.1)

  abbrev pub Passes : Me (Option A) (View O E) → ℕ → Me (Option A) (View O E) → Type 0
  Passes m found n = n ≡ (passes m.0, [])

module _ {O E A : Type 0} (by : E → ℕ) (IsAt : O → List E → A → Type 0) where
  -- a seat gave the thing back with one more entry, its own, which it counted, and passed the turn
  pub record Leaves (m n : Me (Option A) (View O E)) : Type 0 where
    pub part : Part O E
    pub entry : E
    pub parts : m.0.parts ≡ part ∷ []
    pub more : IsOneMore by IsAt part entry m.1
    pub is : n ≡ (
      passes (record m.0 {
        parts = record part { seen = part.seen ++ entry ∷ [] } ∷ [];
      }),
      [],
    )
