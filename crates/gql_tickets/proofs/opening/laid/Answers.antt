use Rattle.std.proofs.Common.{ap, ◌∙◌, ◌++◌, ◌∷◌, [], Some}
use Rattle.gql_tickets.specs.Journals.{IsAt}
use Rattle.gql_tickets.proofs.OpeningLemmas.{opens_with}
use Rattle.gql_tickets.proofs.opening.laid.Goals as goal

pub new-requires : goal.new-requires
new-requires g c = opens_with g.A.Journaled.caller (IsAt g.A.Journaled) c.args.key.now.first.value c.args.key.now.seats
    c.push.new.self.items c.args.thing
    (c.in_ok-push.ensures.items ∙ ap (λ l. l ++ Some c.args.thing ∷ []) c.in_ok-slots.ensures.items)
    c.requires.at c.requires.few
