use Rattle.std.proofs.Common.{arith, rules}
use Rattle.gql_tasks.proofs.ArenaLemmas.{all_wait}
use Rattle.gql_tasks.proofs.settling.make_tasks.Goals as goal

pub returns-clause-waits : goal.returns-clause-waits
returns-clause-waits g c =
    let old = c.args.arena.now in
    all_wait g.row.F.Denot old.waiting c.add.new.self c.loop-i.arena.waiting old.states.items c.reserve.new.self.items c.loop-i.arena.states.items
    c.len.result c.args.count c.loop-i.i c.requires.waits (search rules) c.in_ok-add.ensures.added c.loop-i.invariant.waits c.reserve.ensures.items c.loop-i.invariant.states (omega arith)
