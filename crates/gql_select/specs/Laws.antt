-- The laws on selections: what is answered apart and joined is what is answered once, where fields
-- of one key agree.
use Rattle.std.specs.Prelude.{◌≡◌, ℕ, suc, true, List, []}
use Rattle.gql_base.specs.declared.value.Value.{Value}
use Rattle.gql_doc.specs.declared.document.Field.{Field}
use Rattle.gql_doc.specs.declared.document.Positioned.{Positioned}
use Rattle.gql_doc.specs.declared.document.Selection.{Selection}
use Rattle.gql_select.specs.Alike.{alike, arguments_of}
use Rattle.gql_select.specs.Collected.{Setting}
use Rattle.gql_select.specs.Conflicts.{Agree, conflicts}
use Rattle.gql_select.specs.Constants.{constants, Declared}
use Rattle.gql_select.specs.Documents.{placing_by, reading}
use Rattle.gql_select.specs.Grouped.{at_root, below_root, Beneath, grouped, respond, respond_by}
use Rattle.gql_select.specs.Grouped.{IsPlacing, Mutating, Placing}
use Rattle.gql_select.specs.Grouped.{serial_grouped, serial_respond}
use Rattle.gql_select.specs.Kept.{kept, kept_setting}
use Rattle.gql_select.specs.Reading.{IsReading, merged, Reading}

-- a set without conflicts agrees with itself
abbrev pub NoConflictAgrees : (O F X E : Type 0) → Type 0
NoConflictAgrees O F X E =
    (reading : Reading O F X) → IsReading reading → (told : F → E) (n : ℕ) (o : O) (set : List X)
    → conflicts reading told n o set ≡ []
    → Agree reading n o set set

-- merged execution is answering by groups, where a group is all occurrences of a key
abbrev pub MergedGroupsAreGrouped : (O P F X Pl : Type 0) → Type 0
MergedGroupsAreGrouped O P F X Pl =
    (placing : Placing O P F X Pl) (join : Pl → Pl → Pl) (n : ℕ) (o : O) (p : P) (set : List X)
    → respond_by placing join (merged placing.reading) n o p set ≡ grouped placing n o p set

-- apart execution is merged execution, where the set agrees with itself
abbrev pub ApartIsMerged : (O P F X Pl : Type 0) → Type 0
ApartIsMerged O P F X Pl =
    (placing : Placing O P F X Pl) → IsReading placing.reading → (join : Pl → Pl → Pl)
    → IsPlacing placing join
    → (n : ℕ) (o : O) (p : P) (set : List X) → Agree placing.reading n o set set
    → respond placing join n o p set ≡ grouped placing n o p set

-- the same of a mutation, whose root keys change the world one after another
abbrev pub MutationApartIsMerged : (O P F X Pl W : Type 0) → Type 0
MutationApartIsMerged O P F X Pl W =
    (mutating : Mutating O P F X Pl W) → IsReading mutating.reading → (join : Pl → Pl → Pl)
    → ((world : W) → IsPlacing (at_root mutating world) join)
    → ((world : W) → IsPlacing (below_root mutating world) join)
    → (n : ℕ) (o : O) (p : P) (set : List X) (world : W) → Agree mutating.reading (suc n) o set set
    → serial_respond mutating join n o p set world ≡ serial_grouped mutating n o p set world

-- the sets of documents are read as the laws above ask
abbrev pub DocumentsAreRead : Type 0
DocumentsAreRead = (setting : Setting) → IsReading (reading setting)

-- occurrences that ask the same have the same constants, whatever is declared
abbrev pub SameConstants : Type 0
SameConstants =
    (known : List ℕ → Value) (declared : List Declared) (f g : Positioned Field) → alike f g ≡ true
    → constants known declared (arguments_of f) ≡ constants known declared (arguments_of g)

-- what agrees in a document agrees in what is kept of it
abbrev pub KeptAgrees : Type 0
KeptAgrees =
    (known : List ℕ → Value) (setting : Setting) (n : ℕ) (o : List ℕ)
    (set : List (Positioned Selection))
    → Agree (reading setting) n o set set
    → Agree (reading (kept_setting known setting)) n o (kept known set) (kept known set)

-- apart execution of what is kept of a document is merged execution, where the document has no
-- conflicts
abbrev pub KeptApartIsMerged : (P Pl E : Type 0) → Type 0
KeptApartIsMerged P Pl E =
    (known : List ℕ → Value) (setting : Setting)
    (place : List ℕ → P → Positioned Field → Beneath (List ℕ) P Pl → Pl) (join : Pl → Pl → Pl)
    → IsPlacing (placing_by (kept_setting known setting) place) join
    → (told : Positioned Field → E) (n : ℕ) (o : List ℕ) (p : P) (set : List (Positioned Selection))
    → conflicts (reading setting) told n o set ≡ []
    → respond (placing_by (kept_setting known setting) place) join n o p (kept known set)
    ≡ grouped (placing_by (kept_setting known setting) place) n o p (kept known set)
