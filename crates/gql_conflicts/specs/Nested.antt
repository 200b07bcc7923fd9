-- Documents whose sets nest within so many levels.
use Rattle.std.specs.Prelude.{◌≡◌, ℕ, None}
use Rattle.gql_doc.specs.Depth.{deep_from, operation_set, operations_in}
use Rattle.gql_doc.specs.First.{first_in}
use Rattle.gql_doc.specs.declared.document.ExecutableDocument.{ExecutableDocument}

-- so many levels suffice for the sets of a document's operations
abbrev pub AreNested : ExecutableDocument → ℕ → Type 0
AreNested document levels =
    first_in (λ operation. deep_from document.fragments levels (operation_set operation))
    (operations_in document.operations) ≡ None
