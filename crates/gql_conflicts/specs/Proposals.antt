-- What a proposal of classes claims of a document.
use Rattle.std.specs.Prelude.{◌≡◌, ℕ, suc, ◌<◌, List, Some, slice_get}
use Rattle.std.specs.List.{Contains}
use Rattle.gql_base.specs.Pairs.{values_of}
use Rattle.gql_doc.specs.Depth.{Fragments, fragment_set, operation_set, selections_of}
use Rattle.gql_doc.specs.declared.document.ExecutableDocument.{ExecutableDocument}
use Rattle.gql_doc.specs.declared.document.Field.{Field}
use Rattle.gql_doc.specs.declared.document.FragmentDefinition.{FragmentDefinition}
use Rattle.gql_doc.specs.declared.document.OperationDefinition.{OperationDefinition}
use Rattle.gql_doc.specs.declared.document.Positioned.{Positioned}
use Rattle.gql_doc.specs.declared.document.Selection.{Selection}
use Rattle.gql_conflicts.specs.Classes.{AllFit, Fits, HasEntry, IsInClasses}
use Rattle.gql_conflicts.specs.Classes.{NameIsIn, key_at}
use Rattle.gql_conflicts.specs.Marks.{mark_of}
use Rattle.gql_conflicts.specs.declared.entry.Entry.{Entry}
use Rattle.gql_conflicts.specs.declared.proposal.Proposal.{Proposal}

module _ (fragments : Fragments) (proposal : Proposal) where
  -- a selection, or all, fit a class
  abbrev pub fits : ℕ → Selection → Type 0
  fits class selection = Fits fragments proposal.classes.items proposal.entries.items class
      selection

  abbrev pub all_fit : ℕ → List (Positioned Selection) → Type 0
  all_fit class selections = AllFit fragments proposal.classes.items proposal.entries.items class
      selections

  -- a field has an entry in a class
  abbrev pub has_entry : ℕ → Positioned Field → Type 0
  has_entry class field = HasEntry fragments proposal.classes.items proposal.entries.items class
      field

  -- the fragment of a name is in a class
  abbrev pub name_is_in : ℕ → List ℕ → Type 0
  name_is_in class name = NameIsIn fragments proposal.classes.items proposal.entries.items class
      name

  -- the set of the fragment at a place fits its class
  abbrev pub fragment_fits_at : ℕ → Type 0
  fragment_fits_at place =
      (class : ℕ) (fragment : Positioned FragmentDefinition)
      → slice_get (values_of fragments) place ≡ Some fragment
      → slice_get proposal.classes.items place ≡ Some class
      → all_fit class (selections_of (fragment_set fragment))

  -- the sets of all fragments fit their classes
  abbrev pub fragments_fit : Type 0
  fragments_fit = (place : ℕ) → fragment_fits_at place

  -- the set of an operation fits a class, or those of all do
  abbrev pub has_class : Positioned OperationDefinition → Type 0
  has_class operation = (class : ℕ) × all_fit class (selections_of (operation_set operation))

  abbrev pub each_fits : List (Positioned OperationDefinition) → Type 0
  each_fits operations =
      (operation : Positioned OperationDefinition) → Contains operations operation
      → has_class operation

-- a document is in the classes of a proposal
abbrev pub is_in_classes : ExecutableDocument → Proposal → Type 0
is_in_classes document proposal =
    IsInClasses document proposal.classes.items proposal.entries.items

-- the mark of an entry
abbrev pub mark_at : Entry → ℕ
mark_at entry = mark_of entry.class (key_at entry.field.now)

-- the mark of the entry at a place is less than that of the next one
abbrev pub ascends_at : List Entry → ℕ → Type 0
ascends_at entries place =
    (one other : Entry) → slice_get entries place ≡ Some one
    → slice_get entries (suc place) ≡ Some other
    → mark_at one < mark_at other
