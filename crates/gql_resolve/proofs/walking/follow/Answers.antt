use Rattle.std.proofs.Common.{List, ℕ, ap, sym, ◌∙◌}
use Rattle.std.specs.Option.{option_copied}
use Rattle.gql_base.specs.Pairs.{under}
use Rattle.gql_resolve.proofs.StepLemmas.{spread_entered}
use Rattle.gql_resolve.proofs.walking.follow.Goals as goal

pub returns-in-Some : goal.returns-in-Some
returns-in-Some c =
    spread_entered c.args.opened.env.now c.args.opened.left c.args.first.now c.args.rest.now c.requires.nests
    c.behind-in-Some.result c.behind-in-Some.ensures.env c.behind-in-Some.ensures.left c.behind-in-Some.ensures.selections c.args.spread.now c.in-Some.fragment.now
    c.deeper-inner.result c.requires.is
    (ap (λ (name : List ℕ). under name c.args.opened.env.now.fragments) (sym c.as_str-name.ensures) ∙ sym c.get.ensures ∙ ap option_copied c.in-Some.is)
    c.deeper-inner.ensures.env c.deeper-inner.ensures.left c.deeper-inner.ensures.selections
