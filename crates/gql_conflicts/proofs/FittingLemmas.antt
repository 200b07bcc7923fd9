-- What the test of a proposal finds out, step by step.
use Rattle.std.proofs.Common.{◌≡◌, ℕ, zero, suc, Bool, List, [], ◌∷◌, Some, Ok, Err, IfOk, IsTrue, slice_get, ap, sym, subst, ◌∙◌, arith}
use Rattle.std.specs.Prelude.{Result}
use Rattle.std.specs.List.{Contains}
use Rattle.std.specs.Option.{option_map}
use Rattle.std.proofs.lemmas.Option.{slice_get-map}
use Rattle.gql_base.specs.Pairs.{values_of}
use Rattle.gql_doc.specs.Depth.{Fragments, fragment_set, operation_set, operations_in, selections_of}
use Rattle.gql_doc.specs.declared.document.ExecutableDocument.{ExecutableDocument}
use Rattle.gql_doc.specs.declared.document.DocumentOperations.{DocumentOperations}
use Rattle.gql_doc.specs.declared.document.DocumentOperations.TheVariants.{Single}
use Rattle.gql_doc.specs.declared.document.Field.{Field}
use Rattle.gql_doc.specs.declared.document.FragmentDefinition.{FragmentDefinition}
use Rattle.gql_doc.specs.declared.document.FragmentSpread.{FragmentSpread}
use Rattle.gql_doc.specs.declared.document.InlineFragment.{InlineFragment, out-InlineFragment}
use Rattle.gql_doc.specs.declared.document.OperationDefinition.{OperationDefinition}
use Rattle.gql_doc.specs.declared.document.Positioned.{Positioned}
use Rattle.gql_doc.specs.declared.document.Selection.{Selection, out-Selection}
use Rattle.gql_doc.specs.declared.document.Selection.TheOpen.{Selection-F}
use Rattle.gql_select.specs.Collected.{own_selections}
use Rattle.gql_conflicts.specs.Classes.{HasKeysOnce, StandsFor, of_field, of_inline, of_spread}
use Rattle.gql_conflicts.specs.Proposals.{all_fit, each_fits, fits, fragment_fits_at, fragments_fit, has_class, has_entry, is_in_classes, name_is_in}
use Rattle.gql_conflicts.specs.declared.entry.Entry.{Entry}
use Rattle.gql_conflicts.specs.declared.proposal.Proposal.{Proposal}

-- what holds of a value that was made, so does what follows from it
pub if_made : {A E : Type 0} (r : Result A E) (P Q : A → Type 0) → ((x : A) → P x → Q x) → IfOk r P → IfOk r Q
if_made (Ok x) P Q turn h = turn x h
if_made (Err e) P Q turn h = tt

module _ {E : Type 0} (fragments : Fragments) (proposal : Proposal) (class : ℕ) (r : Result Bool E) where
  pub field_has : (field : Positioned Field) (entry : Entry) (selections : List (Positioned Selection)) → Contains proposal.entries.items entry → StandsFor entry field class
      → selections ≡ own_selections field → IfOk r (λ fit. IsTrue fit → all_fit fragments proposal entry.beneath selections)
      → IfOk r (λ fit. IsTrue fit → has_entry fragments proposal class field)
  field_has field entry selections there stands same h =
      if_made r (λ fit. IsTrue fit → all_fit fragments proposal entry.beneath selections) (λ fit. IsTrue fit → has_entry fragments proposal class field)
      (λ fit all so. record {
        entry = entry;
        is = record { there = there; stands = stands };
        beneath = subst (all_fit fragments proposal entry.beneath) same (all so);
      }) h

  pub field_is : (selection : Selection) (field : Positioned Field) → out-Selection selection ≡ Selection-F.Field field
      → IfOk r (λ fit. IsTrue fit → has_entry fragments proposal class field) → IfOk r (λ fit. IsTrue fit → fits fragments proposal class selection)
  field_is selection field opened h =
      if_made r (λ fit. IsTrue fit → has_entry fragments proposal class field) (λ fit. IsTrue fit → fits fragments proposal class selection)
      (λ fit has so. of_field class selection field (has so).entry opened (has so).is (has so).beneath) h

  pub inline_is : (selection : Selection) (inline : Positioned InlineFragment) (selections : List (Positioned Selection)) → out-Selection selection ≡ Selection-F.InlineFragment inline
      → selections ≡ selections_of (out-InlineFragment inline.node).selection_set
      → IfOk r (λ fit. IsTrue fit → all_fit fragments proposal class selections) → IfOk r (λ fit. IsTrue fit → fits fragments proposal class selection)
  inline_is selection inline selections opened same h =
      if_made r (λ fit. IsTrue fit → all_fit fragments proposal class selections) (λ fit. IsTrue fit → fits fragments proposal class selection)
      (λ fit all so. of_inline class selection inline opened (subst (all_fit fragments proposal class) same (all so))) h

  pub operation_is : (operation : Positioned OperationDefinition) (selections : List (Positioned Selection)) → selections ≡ selections_of (operation_set operation)
      → IfOk r (λ fit. IsTrue fit → all_fit fragments proposal class selections) → IfOk r (λ fit. IsTrue fit → has_class fragments proposal operation)
  operation_is operation selections same h =
      if_made r (λ fit. IsTrue fit → all_fit fragments proposal class selections) (λ fit. IsTrue fit → has_class fragments proposal operation)
      (λ fit all so. (class, subst (all_fit fragments proposal class) same (all so))) h

  pub fragment_is : (place : ℕ) (name : List ℕ) (fragment : Positioned FragmentDefinition) (selections : List (Positioned Selection))
      → slice_get proposal.classes.items place ≡ Some class → slice_get fragments place ≡ Some (name, fragment) → selections ≡ selections_of (fragment_set fragment)
      → IfOk r (λ fit. IsTrue fit → all_fit fragments proposal class selections) → IfOk r (λ fit. IsTrue fit → fragment_fits_at fragments proposal place)
  fragment_is place name fragment selections classed at same h =
      if_made r (λ fit. IsTrue fit → all_fit fragments proposal class selections) (λ fit. IsTrue fit → fragment_fits_at fragments proposal place)
      (λ fit all so other this stands belongs.
      let value : slice_get (values_of fragments) place ≡ Some fragment = slice_get-map (λ p. p.1) fragments place ∙ ap (option_map (λ p. p.1)) at in
      let one_class : class ≡ other = cc in
      let one_fragment : fragment ≡ this = cc in
      subst (λ c. all_fit fragments proposal c (selections_of (fragment_set this))) one_class
      (subst (λ f. all_fit fragments proposal class (selections_of (fragment_set f))) one_fragment (subst (all_fit fragments proposal class) same (all so)))) h

pub spread_is : (fragments : Fragments) (proposal : Proposal) (class : ℕ) (selection : Selection) (spread : Positioned FragmentSpread) (name : List ℕ) (fit : Bool)
    → out-Selection selection ≡ Selection-F.FragmentSpread spread → name ≡ spread.node.fragment_name.node
    → (IsTrue fit → name_is_in fragments proposal class name) → IsTrue fit → fits fragments proposal class selection
spread_is fragments proposal class selection spread name fit opened same leads so =
    of_spread class selection spread opened (subst (name_is_in fragments proposal class) same (leads so))

-- the only operation
pub only_fits : {E : Type 0} (fragments : Fragments) (proposal : Proposal) (operations : DocumentOperations) (operation : Positioned OperationDefinition) (r : Result Bool E)
    → operations ≡ Single operation → IfOk r (λ fit. IsTrue fit → has_class fragments proposal operation)
    → IfOk r (λ fit. IsTrue fit → each_fits fragments proposal (operations_in operations))
only_fits fragments proposal operations operation r is h =
    if_made r (λ fit. IsTrue fit → has_class fragments proposal operation) (λ fit. IsTrue fit → each_fits fragments proposal (operations_in operations))
    (λ fit has so. subst (λ o. each_fits fragments proposal (operations_in o)) (sym is) (one (has so))) h
  where
    one : has_class fragments proposal operation → each_fits fragments proposal (operation ∷ [])
    one has other (zero, within, same) = subst (has_class fragments proposal) same has
    one has other (suc k, within, same) = absurd (omega (arith, within))

-- a document whose parts fit is in classes
pub all_in : {E : Type 0} (document : ExecutableDocument) (proposal : Proposal) (r : Result Bool E) → HasKeysOnce proposal.entries.items → fragments_fit document.fragments proposal
    → IfOk r (λ fit. IsTrue fit → each_fits document.fragments proposal (operations_in document.operations))
    → IfOk r (λ fit. IsTrue fit → is_in_classes document proposal)
all_in document proposal r once fragments h =
    if_made r (λ fit. IsTrue fit → each_fits document.fragments proposal (operations_in document.operations)) (λ fit. IsTrue fit → is_in_classes document proposal)
    (λ fit each so. record { once = once; fragments = λ place class fragment at belongs. fragments place class fragment at belongs; operations = each so }) h
