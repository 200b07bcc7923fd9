use Rattle.std.proofs.Common.{◌==◌, None, rules, tests}
use Rattle.std.proofs.lemmas.Iterator.{YieldsList-from_map}
use Rattle.std.proofs.lemmas.Iterator.Consumers.{YieldsList-at, fold_from_yields_List}
use Rattle.std.proofs.lemmas.Iterator.Splits.{YieldsList-from_slice_split}
use Rattle.gql_multipart.specs.Accept.{better}
use Rattle.gql_multipart.specs.Offer.{offer_at}
use Rattle.gql_multipart.specs.Token.{trimmed}
use Rattle.gql_multipart.proofs.accept.best_offer.Goals as goal

pub returns : goal.returns
returns c =
    fold_from_yields_List _ better None c.fold.result c.fold.ensures.ran
    (YieldsList-from_map _ (λ piece. offer_at (trimmed piece))
    (YieldsList-at c.map.ensures.source
    (YieldsList-from_slice_split _ (λ b. b == 44) c.args.accept.now c.split.ensures.rest c.split.ensures.done
    c.split.ensures.closure (λ x r q k. search (rules, tests))))
    c.map.ensures.closure (λ x r q k. search rules))
    (λ a x b q k. search rules)
