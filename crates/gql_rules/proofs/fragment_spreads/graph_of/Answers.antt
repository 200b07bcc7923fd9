use Rattle.std.proofs.Common.{length, subst, sym}
use Rattle.gql_base.specs.Pairs.{names_of, values_of}
use Rattle.gql_fields.proofs.PairLemmas.{value_at}
use Rattle.gql_rules.specs.FragmentSpreads.{spread_in}
use Rattle.gql_rules.proofs.CycleLemmas.{AllBelow, all_more}
use Rattle.gql_rules.proofs.SpreadLemmas.{map_step}
use Rattle.gql_rules.proofs.fragment_spreads.graph_of.Goals as goal

pub loop-place-preserved : goal.loop-place-preserved
loop-place-preserved c = record {
  graph =
      map_step (spread_in (names_of c.args.fragments.now)) (values_of c.args.fragments.now) c.loop-place.place c.at.result.1.now c.loop-place.graph
      c.push.new.self c.in_ok-spread_in_fragment.field-0 (value_at c.args.fragments.now c.loop-place.place _ _ c.at.ensures)
      c.loop-place.invariant.graph c.in_ok-spread_in_fragment.ensures.places c.in_ok-push.ensures.ok;
  all =
      subst (AllBelow (length c.args.fragments.now)) (sym c.in_ok-push.ensures.ok)
      (all_more (length c.args.fragments.now) c.loop-place.graph c.in_ok-spread_in_fragment.field-0 c.loop-place.invariant.all c.in_ok-spread_in_fragment.ensures.below);
}
