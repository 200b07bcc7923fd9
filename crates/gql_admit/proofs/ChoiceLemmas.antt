-- The operation of a name, by the place of the name.
use Rattle.std.proofs.Common.{◌≡◌, ℕ, List, Option, Some, None, Ok, Err, slice_get, refl, ap, sym, ◌∙◌}
use Rattle.std.specs.Option.{option_map}
use Rattle.gql_base.specs.Names.{place_of}
use Rattle.gql_base.specs.Pairs.{names_of, values_of}
use Rattle.gql_base.specs.declared.server_error.ServerError.{ServerError}
use Rattle.gql_doc.specs.Depth.{Fragments}
use Rattle.gql_doc.specs.declared.document.DocumentOperations.TheVariants.{Multiple}
use Rattle.gql_doc.specs.declared.document.OperationDefinition.{OperationDefinition}
use Rattle.gql_doc.specs.declared.document.Positioned.{Positioned}
use Rattle.gql_fields.proofs.PairLemmas.{under_at}
use Rattle.gql_rules.specs.ChosenOperation.{Operation, chosen, named, operation_of}
use Rattle.gql_admit.specs.declared.chosen.Chosen.{Chosen}
use Rattle.gql_admit.specs.Choice.{choice_of, kind_of}
use Rattle.gql_admit.specs.Refusal.{no_operation_error}

module _ (fragments : Fragments) (operations : List (List ℕ × Positioned OperationDefinition)) (name : List ℕ) where
  pub name_missing : (error : ServerError) → None ≡ place_of name (names_of operations) → error ≡ no_operation_error (Some name)
      → Err error ≡ choice_of fragments (Some name) (chosen (Multiple operations) (Some name))
  name_missing error missing told =
      ap Err told ∙ ap (λ o. choice_of fragments (Some name) (option_map (named name) o)) (sym (under_at name operations None missing))

  pub name_found : (place : ℕ) (answer : Chosen) → Some place ≡ place_of name (names_of operations)
      → slice_get (values_of operations) place ≡ Some answer.operation → answer.operation_name ≡ Some name → answer.fragments ≡ fragments
      → Ok answer ≡ choice_of fragments (Some name) (chosen (Multiple operations) (Some name))
  name_found place answer found at own kept =
      ap Ok (λ i. record { operation_name = own i; operation = answer.operation; fragments = kept i })
      ∙ ap (λ o. choice_of fragments (Some name) (option_map (named name) o)) (sym (under_at name operations (Some place) found ∙ at))

-- the kind of a choice, by the operation that was found
pub kind_of_found : (choice : Option Operation) (found : Positioned OperationDefinition) → Some found ≡ option_map operation_of choice
    → Some found.node.ty ≡ kind_of choice
kind_of_found None found told = cc
kind_of_found (Some operation) found told = (let same : found ≡ operation_of operation = cc in ap (λ f. Some f.node.ty) same)

pub kind_of_none : (choice : Option Operation) → None ≡ option_map operation_of choice → None ≡ kind_of choice
kind_of_none None told = refl
kind_of_none (Some operation) told = cc
