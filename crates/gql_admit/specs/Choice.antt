-- What the choice of an operation answers (GraphQL, October 2021, section 6.1).
use Rattle.std.specs.Prelude.{ℕ, List, Option, None, Some, Result, Ok, Err}
use Rattle.std.specs.Option.{option_map}
use Rattle.gql_base.specs.declared.server_error.ServerError.{ServerError}
use Rattle.gql_doc.specs.Depth.{Fragments}
use Rattle.gql_doc.specs.declared.document.ExecutableDocument.{ExecutableDocument}
use Rattle.gql_doc.specs.declared.document.OperationType.{OperationType}
use Rattle.gql_rules.specs.ChosenOperation.{Operation, chosen, operation_of}
use Rattle.gql_admit.specs.Refusal.{no_operation_error}
use Rattle.gql_admit.specs.declared.chosen.Chosen.{Chosen}

-- the kind of an operation, if there is one
abbrev pub kind_of : Option Operation → Option OperationType
kind_of operation = option_map (λ o. (operation_of o).node.ty) operation

-- a chosen operation with the fragments of its document
abbrev pub with_fragments : Fragments → Operation → Chosen
with_fragments fragments operation =
    record { operation_name = operation.0; operation = operation.1; fragments = fragments }

-- what the choice answers
abbrev pub choice_of : Fragments → Option (List ℕ) → Option Operation → Result Chosen ServerError
choice_of fragments name None = Err (no_operation_error name)
choice_of fragments name (Some operation) = Ok (with_fragments fragments operation)

abbrev pub choice : ExecutableDocument → Option (List ℕ) → Result Chosen ServerError
choice document name = choice_of document.fragments name (chosen document.operations name)
