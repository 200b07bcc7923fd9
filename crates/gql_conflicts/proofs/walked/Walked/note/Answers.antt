use Rattle.std.proofs.Common.{true, refl}
use Rattle.gql_conflicts.specs.declared.walked.Walked.{Walked}
use Rattle.gql_conflicts.proofs.CleanLemmas.{adds_none}
use Rattle.gql_conflicts.proofs.WalkedLemmas.{keeps_added}
use Rattle.gql_conflicts.proofs.walked.Walked.note.Goals as goal

pub returns : goal.returns
returns c =
    let old = c.args.self.now in
    let new : Walked = record { found = old.found; seen = c.add.new.self; pairs = old.pairs } in
    λ reader.
    keeps_added reader c.args.merged true old old new
    (record {
      found_are = refl;
      seen_is = refl;
      clean_adds = λ so. adds_none c.args.merged old.pairs.pairs.items;
      others_stay = λ so. refl;
    })
    refl refl c.in_ok-add.ensures
