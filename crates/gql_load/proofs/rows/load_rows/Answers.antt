use Rattle.std.proofs.Common.{[], ◌∷◌, ◌++◌, ap, ◌∙◌}
use Rattle.gql_load.specs.Rows.{load_row}
use Rattle.gql_load.proofs.NumberLemmas.{mapped_more, mapped_none}
use Rattle.gql_load.proofs.rows.load_rows.Goals as goal

pub loop-place-init : goal.loop-place-init
loop-place-init c = c.in_ok-rows.ensures ∙ mapped_none load_row

pub loop-place-preserved : goal.loop-place-preserved
loop-place-preserved c =
    c.in_ok-push.ensures.ok ∙ ap (λ row. c.loop-place.rows ++ row ∷ []) c.in_ok-load_row.ensures
    ∙ mapped_more load_row c.loop-place.rows c.loop-place.place c.loop-place.invariant
