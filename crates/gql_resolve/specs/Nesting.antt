-- How deep the selections that are left of a set lie.
use Rattle.std.specs.Prelude.{◌≡◌, ℕ, zero, suc, List, Option, None, Some, option_and_then}
use Rattle.gql_base.specs.declared.pos.Pos.{Pos}
use Rattle.gql_doc.specs.Depth.{Fragments, deep_from, set_beneath}
use Rattle.gql_doc.specs.First.{first_in}
use Rattle.gql_doc.specs.declared.document.Positioned.{Positioned}
use Rattle.gql_doc.specs.declared.document.Selection.{Selection}

-- where the first of these selections leads too deep, where so many levels are left, that of their
-- own set among them
abbrev pub rest_deep : Fragments → ℕ → List (Positioned Selection) → Option Pos
rest_deep fragments zero selections = Some (record { line = 0; column = 0 })
rest_deep fragments (suc left) selections =
    first_in
    (λ selection. option_and_then (deep_from fragments left) (set_beneath fragments selection))
    selections

-- that so many levels suffice for these selections, as they do for a set of them
abbrev pub RestNests : Fragments → ℕ → List (Positioned Selection) → Type 0
RestNests fragments left selections = rest_deep fragments left selections ≡ None
