-- Sets in classes: those that may be merged with each other are of one class. A class has one entry
-- for each key, so that all fields of a key in sets of a class ask the same.
use Rattle.std.specs.Prelude.{◌≡◌, ℕ, true, List, Some}
use Rattle.std.specs.Prelude.{slice_get}
use Rattle.std.specs.List.{Contains}
use Rattle.gql_base.specs.Names.{place_of}
use Rattle.gql_base.specs.Pairs.{names_of, values_of}
use Rattle.gql_doc.specs.Depth.{Fragments, fragment_set, operation_set, operations_in}
use Rattle.gql_doc.specs.Depth.{selections_of}
use Rattle.gql_doc.specs.Document.{key_of}
use Rattle.gql_doc.specs.declared.document.ExecutableDocument.{ExecutableDocument}
use Rattle.gql_doc.specs.declared.document.Field.{Field}
use Rattle.gql_doc.specs.declared.document.FragmentDefinition.{FragmentDefinition}
use Rattle.gql_doc.specs.declared.document.FragmentSpread.{FragmentSpread}
use Rattle.gql_doc.specs.declared.document.InlineFragment.{InlineFragment, out-InlineFragment}
use Rattle.gql_doc.specs.declared.document.OperationDefinition.{OperationDefinition}
use Rattle.gql_doc.specs.declared.document.Positioned.{Positioned}
use Rattle.gql_doc.specs.declared.document.Selection.{Selection, out-Selection}
use Rattle.gql_doc.specs.declared.document.Selection.TheOpen.{Selection-F}
use Rattle.gql_select.specs.Alike.{alike}
use Rattle.gql_select.specs.Collected.{own_selections}
use Rattle.gql_conflicts.specs.declared.entry.Entry.{Entry}

-- the key of a field where it stands
abbrev pub key_at : Positioned Field → List ℕ
key_at field = (key_of field.node).node

-- a class has one entry for a key
abbrev pub HasKeysOnce : List Entry → Type 0
HasKeysOnce entries =
    (one other : Entry) → Contains entries one → Contains entries other → one.class ≡ other.class
    → key_at one.field.now ≡ key_at other.field.now
    → one ≡ other

-- an entry of a class stands for a field: it has its key, and asks the same
pub record StandsFor (entry : Entry) (field : Positioned Field) (class : ℕ) : Type 0 where
  pub class_is : entry.class ≡ class
  pub key_is : key_at entry.field.now ≡ key_at field
  pub asks : alike entry.field.now field ≡ true

-- the entry of a field in a class
pub record IsEntry (entries : List Entry) (class : ℕ) (field : Positioned Field) (entry : Entry)
    : Type 0 where
  pub there : Contains entries entry
  pub stands : StandsFor entry field class

module _ (fragments : Fragments) (classes : List ℕ) (entries : List Entry) where
  -- A selection of a set fits the set's class: a field has an entry, to whose class its own set
  -- fits; a fragment is in the class itself.
  pub data Fits : ℕ → Selection → Type 0 where
    of_field : (class : ℕ) (selection : Selection) (field : Positioned Field) (entry : Entry)
        → out-Selection selection ≡ Selection-F.Field field → IsEntry entries class field entry
        → ((inner : Positioned Selection) → Contains (own_selections field) inner
        → Fits entry.beneath inner.node) → Fits class selection
    of_spread : (class : ℕ) (selection : Selection) (spread : Positioned FragmentSpread)
        → out-Selection selection ≡ Selection-F.FragmentSpread spread
        → ((place : ℕ) → place_of spread.node.fragment_name.node (names_of fragments) ≡ Some place
        → slice_get classes place ≡ Some class) → Fits class selection
    of_inline : (class : ℕ) (selection : Selection) (inline : Positioned InlineFragment)
        → out-Selection selection ≡ Selection-F.InlineFragment inline
        → ((inner : Positioned Selection)
        → Contains (selections_of (out-InlineFragment inline.node).selection_set) inner
        → Fits class inner.node) → Fits class selection

  -- all selections of a set do
  abbrev pub AllFit : ℕ → List (Positioned Selection) → Type 0
  AllFit class selections =
      (selection : Positioned Selection) → Contains selections selection
      → Fits class selection.node

  -- a field has an entry in a class, to whose class its own set fits
  pub record HasEntry (class : ℕ) (field : Positioned Field) : Type 0 where
    pub entry : Entry
    pub is : IsEntry entries class field entry
    pub beneath : AllFit entry.beneath (own_selections field)

  -- the fragment of a name, if there is one, is in a class
  abbrev pub NameIsIn : ℕ → List ℕ → Type 0
  NameIsIn class name =
      (place : ℕ) → place_of name (names_of fragments) ≡ Some place
      → slice_get classes place ≡ Some class

  -- the set of each fragment fits the fragment's class
  abbrev pub FragmentsFit : Type 0
  FragmentsFit =
      (place class : ℕ) (fragment : Positioned FragmentDefinition)
      → slice_get (values_of fragments) place ≡ Some fragment → slice_get classes place ≡ Some class
      → AllFit class (selections_of (fragment_set fragment))

-- a document in classes: each set fits one
pub record IsInClasses (document : ExecutableDocument) (classes : List ℕ) (entries : List Entry)
    : Type 0 where
  pub once : HasKeysOnce entries
  pub fragments : FragmentsFit document.fragments classes entries
  pub operations : (operation : Positioned OperationDefinition)
      → Contains (operations_in document.operations) operation
      → (class : ℕ) × AllFit document.fragments classes entries class
      (selections_of (operation_set operation))
