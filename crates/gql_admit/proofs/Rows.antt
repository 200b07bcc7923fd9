-- Choices and texts of refusals, computed.
use Rattle.std.proofs.Common.{◌≡◌, [], ◌∷◌, Some, None, refl}
use Rattle.std.specs.Prelude.{codes}
use Rattle.gql_doc.specs.declared.document.DocumentOperations.TheVariants.{Multiple, Single}
use Rattle.gql_doc.specs.declared.document.OperationDefinition.{OperationDefinition}
use Rattle.gql_doc.specs.declared.document.Positioned.{Positioned}
use Rattle.gql_rules.specs.ChosenOperation.{chosen, named}
use Rattle.gql_admit.specs.Refusal.{no_operation_text, unknown_operation_text}

module _ (one other : Positioned OperationDefinition) where
  -- a document of one operation without a name
  anonymous : chosen (Single one) None ≡ Some (None, one)
  anonymous = refl

  anonymous_by_name : chosen (Single one) (Some (codes "A")) ≡ None
  anonymous_by_name = refl

  -- query A { .. }
  lone : chosen (Multiple ((codes "A", one) ∷ [])) None ≡ Some (named (codes "A") one)
  lone = refl

  -- query A { .. } query B { .. }
  second_of_two : chosen (Multiple ((codes "A", one) ∷ (codes "B", other) ∷ [])) (Some (codes "B")) ≡ Some (named (codes "B") other)
  second_of_two = refl

  none_of_two : chosen (Multiple ((codes "A", one) ∷ (codes "B", other) ∷ [])) None ≡ None
  none_of_two = refl

  another_name : chosen (Multiple ((codes "A", one) ∷ (codes "B", other) ∷ [])) (Some (codes "C")) ≡ None
  another_name = refl

an_operation_text : no_operation_text (Some (codes "x")) ≡ codes "Unknown operation named \"x\""
unfolding unknown_operation_text
an_operation_text = refl
