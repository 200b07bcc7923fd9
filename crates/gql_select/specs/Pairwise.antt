-- Which sets agree, and which have no conflicts.
use Rattle.std.specs.Prelude.{◌≡◌, ℕ, List, []}
use Rattle.std.specs.List.{Contains, flat_map}
use Rattle.gql_select.specs.Conflicts.{Agree, conflicts}
use Rattle.gql_select.specs.Reading.{IsReading, Reading}

-- a set that agrees with itself has no conflicts
abbrev pub AgreeingHasNone : (O F X E : Type 0) → Type 0
AgreeingHasNone O F X E =
    (reading : Reading O F X) → IsReading reading → (told : F → E) (n : ℕ) (o : O) (set : List X)
    → Agree reading n o set set
    → conflicts reading told n o set ≡ []

-- each two of some sets agree
abbrev pub EachAgree : {O F X N : Type 0} → Reading O F X → ℕ → O → (N → List X) → List N → Type 0
EachAgree {N = N} reading n o set ns =
    (one other : N) → Contains ns one → Contains ns other → Agree reading n o (set one) (set other)

-- sets of which each two agree have no conflicts together, where nothing stands for no fields
abbrev pub CleanPairs : (O F X E N : Type 0) → Type 0
CleanPairs O F X E N =
    (reading : Reading O F X) → IsReading reading → (told : F → E) (n : ℕ) (o : O)
    → reading.fields o [] ≡ []
    → (set : N → List X) (ns : List N) → EachAgree reading n o set ns
    → conflicts reading told n o (flat_map set ns) ≡ []

-- and each two of them agree where they have no conflicts together
abbrev pub PairsClean : (O F X E N : Type 0) → Type 0
PairsClean O F X E N =
    (reading : Reading O F X) → IsReading reading → (told : F → E) (n : ℕ) (o : O)
    (set : N → List X) (ns : List N)
    → conflicts reading told n o (flat_map set ns) ≡ []
    → EachAgree reading n o set ns
