use Rattle.std.proofs.Common.{take}
use Rattle.gql_base.specs.Places.{HasPlaces}
use Rattle.gql_base.proofs.places.tree_of.Given as goal

abbrev pub invariant-loop-place : goal.invariant-loop-place
invariant-loop-place l = HasPlaces l.tree (take l.place l.names)
