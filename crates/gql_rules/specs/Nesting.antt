-- How many levels suffice for the sets of a document.
use Rattle.std.specs.Prelude.{◌≡◌, ℕ, ◌+◌, ◌<◌, ◌^◌, None}
use Rattle.gql_doc.specs.Depth.{deep, deep_from, operation_set, operations_in}
use Rattle.gql_doc.specs.First.{first_in}
use Rattle.gql_doc.specs.declared.document.ExecutableDocument.{ExecutableDocument}

-- that so many levels suffice for the sets of a document's operations
pub record NestsWithin (document : ExecutableDocument) (levels : ℕ) : Type 0 where
  pub none : first_in (λ operation. deep_from document.fragments levels (operation_set operation))
      (operations_in document.operations) ≡ None

-- that a document lies within some limit on the depth
pub record IsWithinDepth (document : ExecutableDocument) : Type 0 where
  pub limit : ℕ
  pub fits : limit + 1 < 2 ^ 64
  pub within : deep document limit ≡ None
