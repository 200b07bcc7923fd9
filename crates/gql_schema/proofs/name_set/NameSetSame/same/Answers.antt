use Rattle.std.proofs.Common.{sym, ◌∙◌}
use Rattle.gql_base.proofs.PairLemmas.{take-more-same, same-name}
use Rattle.gql_schema.proofs.name_set.NameSetSame.same.Goals as goal

pub loop-place-preserved : goal.loop-place-preserved
loop-place-preserved c =
    take-more-same c.args.self.now c.args.other.now c.loop-place.place _ _ c.at-name.ensures c.at-other_name.ensures
    (same-name c.at-name.result.now c.at-other_name.result.now (sym c.if-ne.false ∙ c.ne.ensures)) c.loop-place.invariant
