-- A part is added under its name, or the name is doubled.
use Rattle.std.proofs.Common.{ap, ◌∙◌}
use Rattle.gql_base.specs.Pairs.{under}
use Rattle.gql_doc.proofs.TakenLaws.{looked_up, pairs_stay, pairs_grow, doubled_here, doubled_within}
use Rattle.gql_doc.proofs.draft.add_named.Goals as goal

pub returns-then-is_some-clause-pairs : goal.returns-then-is_some-clause-pairs
returns-then-is_some-clause-pairs g c =
    pairs_stay c.args.name c.args.pairs.now c.args.draft.part
    (looked_up c.args.name c.args.pairs.now c.get.result c.is_some.result _ (c.get.ensures ∙ ap (λ n. under n c.args.pairs.now) c.as_str.ensures) c.is_some.ensures c.if-is_some.true)

pub returns-then-is_some-clause-doubled : goal.returns-then-is_some-clause-doubled
returns-then-is_some-clause-doubled g c =
    doubled_here c.args.name c.args.pairs.now c.args.pos c.args.doubled.now c.args.draft.doubled c.or.result
    (looked_up c.args.name c.args.pairs.now c.get.result c.is_some.result _ (c.get.ensures ∙ ap (λ n. under n c.args.pairs.now) c.as_str.ensures) c.is_some.ensures c.if-is_some.true)
    c.or.ensures

pub returns-clause-pairs : goal.returns-clause-pairs
returns-clause-pairs g c =
    pairs_grow c.args.name c.add_fresh.result c.args.pairs.now c.add_fresh.new.self c.args.draft.part
    (looked_up c.args.name c.args.pairs.now c.get.result c.is_some.result _ (c.get.ensures ∙ ap (λ n. under n c.args.pairs.now) c.as_str.ensures) c.is_some.ensures c.if-is_some.false)
    c.add_fresh.ensures.added

pub returns-clause-doubled : goal.returns-clause-doubled
returns-clause-doubled g c =
    doubled_within c.args.name c.add_fresh.result c.args.pairs.now c.args.pos c.args.doubled.now c.args.draft.doubled c.or-2.result
    (looked_up c.args.name c.args.pairs.now c.get.result c.is_some.result _ (c.get.ensures ∙ ap (λ n. under n c.args.pairs.now) c.as_str.ensures) c.is_some.ensures c.if-is_some.false)
    c.or-2.ensures
