-- The list of a document's conflicts, where there is none.
use Rattle.std.proofs.Common.{ℕ, [], sym, subst}
use Rattle.std.specs.List.{Contains}
use Rattle.gql_doc.specs.declared.document.ExecutableDocument.{ExecutableDocument}
use Rattle.gql_conflicts.specs.DocumentConflicts.{IsClear, Lists}
use Rattle.gql_conflicts.specs.Rooted.{Rooted}

-- a document without conflicts has no conflict to list
pub none_listed : (rooted : Rooted) (document : ExecutableDocument) (levels : ℕ) → IsClear document → Lists rooted document levels []
none_listed rooted document levels clear = record {
  exact = λ found. (
    λ h. subst (λ all. Contains all found) (sym (clear rooted levels)) h,
    λ h. subst (λ all. Contains all found) (clear rooted levels) h,
  );
}
