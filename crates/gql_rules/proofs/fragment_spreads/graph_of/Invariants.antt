use Rattle.std.proofs.Common.{◌≡◌, length, map, take}
use Rattle.gql_base.specs.Pairs.{names_of, values_of}
use Rattle.gql_rules.specs.FragmentSpreads.{spread_in}
use Rattle.gql_rules.proofs.CycleLemmas.{AllBelow}
use Rattle.gql_rules.proofs.fragment_spreads.graph_of.Given as goal

abbrev pub invariant-loop-place : goal.invariant-loop-place
invariant-loop-place l = record {
  graph : l.graph ≡ map (spread_in (names_of l.fragments)) (take l.place (values_of l.fragments));
  all : AllBelow (length l.fragments) l.graph;
}
