use Rattle.std.proofs.Common.{refl}
use Rattle.gql_conflicts.specs.declared.visit.Visit.{Visit}
use Rattle.gql_conflicts.proofs.WalkedLemmas.{only_adds}
use Rattle.gql_conflicts.proofs.seen.Seen.add.Goals as goal

pub returns : goal.returns
returns c =
    let visit : Visit = record { merged = c.args.merged; clean = c.args.clean; before = c.in_ok-before.before } in
    only_adds c.args.merged c.args.clean c.args.self.now.visits.items c.push.new.self.items visit c.in_ok-push.ensures.items
    (record { like = record { left_is = refl; ty_is = refl; sets_are = refl }; clean_is = refl })
