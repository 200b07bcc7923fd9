use Rattle.std.proofs.Common.{rules}
use Rattle.std.proofs.lemmas.Fn.{always_returns_same}
use Rattle.gql_base.proofs.InOrderLemmas.{placed, to_name}
use Rattle.gql_base.proofs.error_extension_values.place_of.Goals as goal

pub returns : goal.returns
returns c =
    placed c.args.name.now c.args.pairs.now c.binary_search_by.result c.requires c.binary_search_by.ensures.bound
    (c.binary_search_by.ensures.position (to_name c.args.name.now) (always_returns_same _ _ _ (λ a r g h. (search rules, search rules))))
