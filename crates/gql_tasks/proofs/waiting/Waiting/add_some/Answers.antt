use Rattle.std.proofs.Common.{length, ap, arith, length-append}
use Rattle.gql_tasks.specs.Waiting.{all_in, numbers_between}
use Rattle.gql_tasks.proofs.BlockLemmas.{between-length}
use Rattle.gql_tasks.proofs.waiting.Waiting.add_some.Goals as goal

pub invariant_of-self-2 : goal.invariant_of-self-2
invariant_of-self-2 c =
    let old = all_in c.self.inside.blocks.items in
    let more = numbers_between c.args.next c.in_ok-stop.stop in
    let size = ap length c.in_ok-stop.ensures.added in
    let both = length-append old more in
    let count = between-length c.args.next c.in_ok-stop.stop in
    let was = c.self.invariant in
    omega arith
