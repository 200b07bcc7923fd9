-- The errors of requests that a limit or the choice of the operation refuses.
use Rattle.std.specs.Prelude.{ℕ, List, ◌++◌, Option, None, Some, codes}
use Rattle.std.specs.Fmt.{decimal}
use Rattle.gql_base.specs.declared.pos.Pos.{Pos}
use Rattle.gql_base.specs.declared.server_error.ServerError.{ServerError}
use Rattle.gql_rules.specs.Refusal.{refusal}

unfoldable pub depth_text : ℕ → List ℕ
depth_text limit =
    codes "The recursion depth of the query cannot be greater than `" ++ decimal limit ++ codes "`"

-- the error of a set that lies too deep
abbrev pub depth_error : ℕ → Pos → ServerError
depth_error limit place = refusal (depth_text limit) (Some place)

unfoldable pub directives_text : List ℕ → ℕ → List ℕ
directives_text name limit =
    codes "The number of directives on the field `"
    ++ (name ++ (codes "` cannot be greater than `" ++ (decimal limit ++ codes "`")))

-- the error of a field of this name with too many directives
abbrev pub directives_error : ℕ → List ℕ → Pos → ServerError
directives_error limit name place = refusal (directives_text name limit) (Some place)

unfoldable pub unknown_operation_text : List ℕ → List ℕ
unknown_operation_text name = codes "Unknown operation named \"" ++ name ++ codes "\""

-- the text of a request from which no operation can be chosen, by the name that it asks for
abbrev pub no_operation_text : Option (List ℕ) → List ℕ
no_operation_text None = codes "Operation name required in request."
no_operation_text (Some name) = unknown_operation_text name

abbrev pub no_operation_error : Option (List ℕ) → ServerError
no_operation_error name = refusal (no_operation_text name) None
