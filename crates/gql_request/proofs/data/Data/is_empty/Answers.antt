use Rattle.std.proofs.Common.{arith, vec_len}
use Rattle.std.proofs.lemmas.Grind.{common_steps}
use Rattle.gql_request.proofs.DataLemmas.{none_among}
use Rattle.gql_request.proofs.data.Data.is_empty.Goals as goal

pub returns : goal.returns
returns c =
    let each =
    none_among c.self.inside.tree.keys.items c.self.inside.values.items c.args.self.now (vec_len c.self.inside.values) c.self.invariant.1 c.self.view_is
    c.self.inside.values.ok.0 in
    grind (arith, common_steps, each.0, each.1)
