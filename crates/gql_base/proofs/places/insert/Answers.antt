use Rattle.std.proofs.Common.{rules}
use Rattle.gql_base.proofs.PlacesLemmas.{tree_set}
use Rattle.gql_base.proofs.places.insert.Goals as goal

pub returns-clause-ok : goal.returns-clause-ok
returns-clause-ok c =
    tree_set c.args.tree.now c.insert.new.self c.args.name.now c.in_ok-key.key c.args.place (search rules) c.in_ok-insert.ensures.updates
