-- What a test knows of a query that it reads: its sets nest, and so does that of its first field.
use Rattle.std.proofs.Common.{◌≡◌, ℕ, zero, List, [], ◌∷◌, Option, Some, None, Result, Ok, slice_get, refl, sym, ◌∙◌, arith}
use Rattle.std.specs.List.{Contains}
use Rattle.gql_base.specs.declared.pos.Pos.{Pos}
use Rattle.gql_base.specs.declared.server_error.ServerError.{ServerError}
use Rattle.gql_doc.specs.Depth.{deep, field_set, selections_of}
use Rattle.gql_doc.specs.declared.document.ExecutableDocument.{ExecutableDocument}
use Rattle.gql_doc.specs.declared.document.Field.{Field}
use Rattle.gql_doc.specs.declared.document.Positioned.{Positioned}
use Rattle.gql_doc.specs.declared.document.Selection.{Selection, out-Selection}
use Rattle.gql_doc.specs.declared.document.Selection.TheOpen.{Selection-F}
use Rattle.gql_doc.proofs.DepthLaws.{field_nests}
use Rattle.gql_request.specs.QueryEnv.{NestsIn, levels_of}
use Rattle.gql_request.specs.declared.query_env.QueryEnv.{QueryEnv}
use Rattle.gql_admit.specs.Limits.{depth_checked, refused_by}
use Rattle.gql_admit.specs.Refusal.{depth_error}

-- a document whose depth passes has no set that lies too deep
pub not_deep : (document : ExecutableDocument) (limit : ℕ) (passed : Result (Unit {0}) ServerError) → passed ≡ depth_checked document limit → passed ≡ Ok tt
    → deep document limit ≡ None
not_deep document limit passed is ok = by (depth_error limit) (deep document limit) (sym is ∙ ok)
  where
    by : (f : Pos → ServerError) (o : Option Pos) → refused_by f o ≡ Ok tt → o ≡ None
    by f None h = refl
    by f (Some pos) h = cc

stands_first : {A : Type 0} (xs : List A) (x : A) → slice_get xs 0 ≡ Some x → Contains xs x
stands_first [] x at = cc
stands_first (y ∷ ys) x at = let same : y ≡ x = cc in (zero, omega arith, same)

-- the set of the first field nests within the levels of its query
pub first_nests : (env : QueryEnv) (selection : Positioned Selection) (field : Positioned Field) → NestsIn env env.operation.node.selection_set
    → slice_get (selections_of env.operation.node.selection_set) 0 ≡ Some selection → out-Selection selection.node ≡ Selection-F.Field field
    → NestsIn env (field_set field)
first_nests env selection field nests at is =
    field_nests env.fragments (levels_of env) env.operation.node.selection_set selection field nests (stands_first _ selection at) is
