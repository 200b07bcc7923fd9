use Rattle.std.proofs.Common.{Some, ap, ◌∙◌}
use Rattle.gql_schema.specs.Ranks.{is_ranked, needs_low}
use Rattle.gql_schema.specs.Table.{types_of}
use Rattle.gql_lists.proofs.AllLemmas.{all_fails, all_more}
use Rattle.gql_schema.proofs.ranks.are_ranks.Goals as goal

pub returns-then-not-needs_at_most : goal.returns-then-not-needs_at_most
returns-then-not-needs_at_most c =
    let table = types_of c.args.types.now in
    all_fails (is_ranked table c.args.ranks.now) table c.loop-place.place (c.entry.result.0.now, c.entry.result.1.now) c.needs_at_most.result c.entry.ensures
    (c.needs_at_most.ensures ∙ ap (λ r. needs_low table c.args.ranks.now r (Some c.entry.result.1.now)) c.rank_of.ensures) c.if-not-needs_at_most.true

pub loop-place-preserved : goal.loop-place-preserved
loop-place-preserved c =
    let table = types_of c.args.types.now in
    all_more (is_ranked table c.args.ranks.now) table c.loop-place.place (c.entry.result.0.now, c.entry.result.1.now) c.needs_at_most.result
    c.loop-place.invariant c.entry.ensures
    (c.needs_at_most.ensures ∙ ap (λ r. needs_low table c.args.ranks.now r (Some c.entry.result.1.now)) c.rank_of.ensures) c.if-not-needs_at_most.false
