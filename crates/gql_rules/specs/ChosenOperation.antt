-- Which operation of a document a request runs, if any (GraphQL, October 2021, section 6.1).
use Rattle.std.specs.Prelude.{ℕ, List, [], ◌∷◌, Option, None, Some}
use Rattle.std.specs.Option.{option_map}
use Rattle.gql_base.specs.Pairs.{under}
use Rattle.gql_doc.specs.declared.document.DocumentOperations.{DocumentOperations}
use Rattle.gql_doc.specs.declared.document.DocumentOperations.TheVariants.{Single, Multiple}
use Rattle.gql_doc.specs.declared.document.OperationDefinition.{OperationDefinition}
use Rattle.gql_doc.specs.declared.document.Positioned.{Positioned}

-- an operation, and its own name, if it has one
abbrev pub Operation : Type 0
Operation = Option (List ℕ) × Positioned OperationDefinition

-- an operation under its name
abbrev pub named : List ℕ → Positioned OperationDefinition → Operation
named name operation = (Some name, operation)

abbrev pub operation_of : Operation → Positioned OperationDefinition
operation_of operation = operation.1

-- the operation of a list that has one alone
abbrev pub only : List (List ℕ × Positioned OperationDefinition) → Option Operation
only [] = None
only (p ∷ []) = Some (named p.0 p.1)
only (p ∷ (q ∷ ps)) = None

-- the operation of the name that a request asks for; where it asks for none, the only one
abbrev pub chosen : DocumentOperations → Option (List ℕ) → Option Operation
chosen (Single operation) None = Some (None, operation)
chosen (Single operation) (Some name) = None
chosen (Multiple operations) None = only operations
chosen (Multiple operations) (Some name) = option_map (named name) (under name operations)
