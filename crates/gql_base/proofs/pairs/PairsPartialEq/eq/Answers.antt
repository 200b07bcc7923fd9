use Rattle.std.proofs.Common.{◌&&◌, refl, ap, sym, ◌∙◌}
use Rattle.std.specs.Cmp.Lexicographic.{pointwise}
use Rattle.gql_base.proofs.PairLemmas.{same_pairs}
use Rattle.gql_base.proofs.pairs.PairsPartialEq.eq.Goals as goal

pub returns-then-eq : goal.returns-then-eq
returns-then-eq g c =
    ap (λ named. named && c.eq-then-eq.result) (sym c.if-eq.true)
    ∙ same_pairs g.T.PartialEq.eq c.self.inside.names c.other.inside.names c.self.inside.values.items c.other.inside.values.items c.args.self.now
    c.args.other.now c.eq.result c.eq-then-eq.result c.eq.ensures
    (c.eq-then-eq.ensures ∙ (λ i. pointwise g.T.PartialEq.eq (c.as_slice.ensures.value i) (c.as_slice-then-eq.ensures.value i)))
    c.self.invariant c.other.invariant c.self.view_is c.other.view_is

pub returns-else-eq : goal.returns-else-eq
returns-else-eq g c =
    let values = pointwise g.T.PartialEq.eq c.self.inside.values.items c.other.inside.values.items in
    c.if-eq.false ∙ ap (λ named. named && values) (sym c.if-eq.false)
    ∙ same_pairs g.T.PartialEq.eq c.self.inside.names c.other.inside.names c.self.inside.values.items c.other.inside.values.items c.args.self.now
    c.args.other.now c.eq.result values c.eq.ensures refl c.self.invariant c.other.invariant c.self.view_is c.other.view_is
