use Rattle.std.proofs.Common.{arith}
use Rattle.gql_tasks.proofs.BlockLemmas.{numbers_added}
use Rattle.gql_tasks.proofs.waiting.Waiting.add.Goals as goal

pub loop-next-preserved : goal.loop-next-preserved
loop-next-preserved c =
    let on = c.in_ok-next.ensures in
    let before = c.loop-next.invariant in
    record {
      all = numbers_added c.args.self.now c.loop-next.self c.add_some.new.self c.args.first c.loop-next.next c.in_ok-next.next before.from_first (omega (arith, on.within))
          before.all on.added;
      from_first = omega (arith, on.within, before.from_first);
      within = on.within.1;
    }
