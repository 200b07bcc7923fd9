use Rattle.std.proofs.Common.{length, ap, sym, ◌∙◌}
use Rattle.std.specs.List.{zip}
use Rattle.gql_base.proofs.PairLemmas.{pairs_names, pairs_long}
use Rattle.gql_base.proofs.pairs.Pairs.with_values.Goals as goal

pub invariant_of-result : goal.invariant_of-result
invariant_of-result g c =
    c.requires ∙ pairs_long c.self.inside.names c.self.inside.values.items c.args.self.now c.self.invariant c.self.view_is
    ∙ ap length (sym c.in_ok-names.ensures)

pub returns : goal.returns
returns g c =
    let named = pairs_names c.self.inside.names c.self.inside.values.items c.args.self.now c.self.invariant c.self.view_is in
    ap (λ ks. zip ks c.args.values.items) (c.in_ok-names.ensures ∙ sym named)
