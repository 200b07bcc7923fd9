use Rattle.std.proofs.Common.{◌≡◌, true, false, refl, sym, ◌∙◌}
use Rattle.gql_conflicts.proofs.walked.Walked.pair_up.Goals as goal

pub returns : goal.returns
returns c =
    let so : c.args.clean ≡ true = cc in
    record {
      found_are = refl;
      seen_is = refl;
      clean_adds = λ clean. c.in_ok-add_all.ensures;
      others_stay = λ bad. absurd (let no : true ≡ false = sym so ∙ bad in cc);
    }
