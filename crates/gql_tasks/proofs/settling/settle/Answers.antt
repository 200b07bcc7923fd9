use Rattle.std.proofs.Common.{◌∙◌}
use Rattle.gql_tasks.proofs.ArenaLemmas.{one_less}
use Rattle.gql_lists.proofs.SliceLemmas.{get_within}
use Rattle.gql_tasks.proofs.settling.settle.Goals as goal

pub take-requires : goal.take-requires
take-requires g c = get_within c.args.arena.now.waiting c.args.place c.args.number c.requires.stands

pub make_tasks-requires : goal.make_tasks-requires
make_tasks-requires g c =
    record { waits = c.take.ensures ∙ one_less g.row.F.Denot c.args.arena.now.waiting c.args.arena.now.states.items c.args.place c.args.number c.requires.waits c.requires.stands }
