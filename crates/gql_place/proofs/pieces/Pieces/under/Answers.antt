use Rattle.std.proofs.Common.{ap, sym, ◌∙◌}
use Rattle.std.specs.List.{zip}
use Rattle.gql_base.specs.Pairs.{names_of}
use Rattle.gql_place.specs.Pieces.{places_in}
use Rattle.gql_place.proofs.PieceLemmas.{keyed_data}
use Rattle.gql_place.proofs.pieces.Pieces.under.Goals as goal

pub returns-in_ok-with_values-in-Data : goal.returns-in_ok-with_values-in-Data
returns-in_ok-with_values-in-Data c =
    keyed_data (names_of c.args.keys.now) c.in-Data.values.items c.in_ok-with_values-in-Data.field-0 c.in_ok-with_values-in-Data.ensures
    ∙ ap (λ pieces. zip (names_of c.args.keys.now) (places_in pieces)) (sym c.in-Data.is)
