use Rattle.std.proofs.Common.{◌≡◌, ◌++◌, length, take}
use Rattle.std.specs.List.{flat_map}
use Rattle.gql_base.specs.Pairs.{names_of}
use Rattle.gql_rules.specs.Reaching.{AreBelow}
use Rattle.gql_rules.specs.FragmentSpreads.{selection_spreads}
use Rattle.gql_rules.proofs.fragment_spreads.+spreads.Given as goal

abbrev pub invariant-spread_in_selections-loop-selection : goal.invariant-spread_in_selections-loop-selection
invariant-spread_in_selections-loop-selection l = record {
  places : l.places ≡ l.initial.places ++ flat_map (λ selection. selection_spreads (names_of l.fragments) selection.node) (take l.selection-index l.selections);
  below : AreBelow (length l.fragments) l.places;
}
