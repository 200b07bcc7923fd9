-- The limits of a document: how deep its sets may lie, and how many directives a field may have.
use Rattle.std.specs.Prelude.{ℕ, suc, Option, None, Some, Result, Ok, Err}
use Rattle.gql_base.specs.declared.server_error.ServerError.{ServerError}
use Rattle.gql_doc.specs.Depth.{deep}
use Rattle.gql_doc.specs.declared.document.ExecutableDocument.{ExecutableDocument}
use Rattle.gql_doc.specs.declared.document.Field.{Field}
use Rattle.gql_doc.specs.declared.document.Positioned.{Positioned}
use Rattle.gql_select.specs.Alike.{name_of}
use Rattle.gql_select.specs.Crowded.{crowded}
use Rattle.gql_admit.specs.Refusal.{depth_error, directives_error}

-- a check that passes where nothing is found, and else refuses with what is told of it
abbrev pub refused_by : {A : Type 0} → (A → ServerError) → Option A → Result (Unit {0}) ServerError
refused_by tell None = Ok tt
refused_by tell (Some found) = Err (tell found)

-- what the check of the depth answers: the first set in document order that lies deeper than the
-- limit is refused
abbrev pub depth_checked : ExecutableDocument → ℕ → Result (Unit {0}) ServerError
depth_checked document limit = refused_by (depth_error limit) (deep document limit)

-- what is told of a field with too many directives
abbrev pub crowded_error : ℕ → Positioned Field → ServerError
crowded_error limit field = directives_error limit (name_of field) field.pos

-- what the check of directives answers of a document within this limit on the depth: the first
-- field with more directives than the limit is refused
abbrev pub directives_checked : ExecutableDocument → ℕ → ℕ → Result (Unit {0}) ServerError
directives_checked document limit depth =
    refused_by (crowded_error limit) (crowded document limit (suc depth))
