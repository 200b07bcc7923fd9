-- How deep the sets of a query lie.
use Rattle.std.specs.Prelude.{◌≡◌, ℕ, None}
use Rattle.gql_doc.specs.declared.document.Positioned.{Positioned}
use Rattle.gql_doc.specs.declared.document.SelectionSet.{SelectionSet}
use Rattle.gql_doc.specs.Depth.{deep_from}
use Rattle.gql_request.specs.declared.query_env.QueryEnv.{QueryEnv}

-- the levels of sets that suffice for the operation and what it spreads
abbrev pub levels_of : QueryEnv → ℕ
levels_of env = env.levels

-- that a set, with what it spreads, nests within the levels of an environment
abbrev pub NestsIn : QueryEnv → Positioned SelectionSet → Type 0
NestsIn env set = deep_from env.fragments (levels_of env) set ≡ None
