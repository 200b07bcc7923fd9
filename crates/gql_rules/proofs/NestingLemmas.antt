-- Levels that suffice for a document within its limit on the depth.
use Rattle.std.proofs.Common.{◌≡◌, ℕ, suc, ◌<◌, List, [], ◌∷◌, None, refl, arith}
use Rattle.gql_doc.specs.Depth.{Fragments, deep_from, operation_set, operations_in}
use Rattle.gql_doc.specs.First.{first_in}
use Rattle.gql_doc.specs.declared.document.ExecutableDocument.{ExecutableDocument}
use Rattle.gql_doc.specs.declared.document.OperationDefinition.{OperationDefinition}
use Rattle.gql_doc.specs.declared.document.Positioned.{Positioned}
use Rattle.gql_doc.proofs.DepthLaws.{deep_less}
use Rattle.gql_lists.proofs.FirstLemmas.{both_none, none_behind, none_here}
use Rattle.gql_rules.specs.Nesting.{IsWithinDepth, NestsWithin}

nests_all : (fragments : Fragments) (depth levels : ℕ) (operations : List (Positioned OperationDefinition)) → depth < levels
    → first_in (λ operation. deep_from fragments (suc depth) (operation_set operation)) operations ≡ None
    → first_in (λ operation. deep_from fragments levels (operation_set operation)) operations ≡ None
nests_all fragments depth levels [] most none = refl
nests_all fragments depth levels (operation ∷ operations) most none =
    both_none _ _
    (deep_less fragments (suc depth) levels (operation_set operation) (omega arith) (none_here _ _ none))
    (nests_all fragments depth levels operations most (none_behind _ _ none))

-- more levels than a limit that suffices
pub nests_within : (document : ExecutableDocument) (levels : ℕ) (within : IsWithinDepth document) → within.limit < levels → NestsWithin document levels
nests_within document levels within most = record {
  none = nests_all document.fragments within.limit levels (operations_in document.operations) most within.within;
}
