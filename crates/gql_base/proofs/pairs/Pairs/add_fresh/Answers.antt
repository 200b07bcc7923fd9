use Rattle.std.proofs.Common.{[], ◌∷◌, ◌++◌, ap, ◌∙◌}
use Rattle.gql_base.proofs.PairLemmas.{fresh_place, pairs_pushed}
use Rattle.gql_base.proofs.pairs.Pairs.add_fresh.Goals as goal

pub add_fresh-requires : goal.add_fresh-requires
add_fresh-requires g c =
    fresh_place c.args.name c.self.inside.names c.self.inside.values.items c.args.self.now c.self.invariant c.self.view_is c.requires

pub returns-clause-added : goal.returns-clause-added
returns-clause-added g c =
    pairs_pushed c.self.inside.names c.self.inside.values.items c.args.self.now c.args.name c.args.value c.add_fresh.new.self
    c.push_reserved.new.self.items c.self.invariant c.self.view_is c.in_ok-add_fresh.ensures.ok
    (c.push_reserved.ensures.items ∙ ap (λ vs. vs ++ c.args.value ∷ []) c.in_ok-reserve.ensures.items)
