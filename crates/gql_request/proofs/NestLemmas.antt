-- Sets without selections nest within one level.
use Rattle.std.proofs.Common.{◌≡◌, ℕ, List, [], None, ap, sym, subst}
use Rattle.std.specs.Prelude.{option_and_then}
use Rattle.gql_doc.specs.declared.document.Positioned.{Positioned}
use Rattle.gql_doc.specs.declared.document.Selection.{Selection}
use Rattle.gql_doc.specs.declared.document.SelectionSet.{SelectionSet}
use Rattle.gql_doc.specs.First.{first_in}
use Rattle.gql_doc.specs.Depth.{Fragments, selections_of, set_beneath, deep_from}
use Rattle.gql_request.specs.declared.query_env.QueryEnv.{QueryEnv}
use Rattle.gql_request.specs.QueryEnv.{levels_of, NestsIn}

pub empty_within : (fragments : Fragments) (set : Positioned SelectionSet) → selections_of set ≡ [] → deep_from fragments 1 set ≡ None
empty_within fragments set empty =
    ap (λ (xs : List (Positioned Selection)). first_in (λ x. option_and_then (deep_from fragments 0) (set_beneath fragments x)) xs) empty

pub empty_nests : (env : QueryEnv) (set : Positioned SelectionSet) → levels_of env ≡ 1 → selections_of set ≡ [] → NestsIn env set
empty_nests env set one empty = subst (λ (n : ℕ). deep_from env.fragments n set ≡ None) (sym one) (empty_within env.fragments set empty)
