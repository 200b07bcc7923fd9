use Rattle.std.specs.Vec.Iter.{into_iter_items}
use Rattle.gql_admit.specs.KnownVariables.{known_by}
use Rattle.gql_admit.proofs.KeepLemmas.{IsKeeping}
use Rattle.gql_admit.proofs.keeping.+keep.Given as goal

abbrev pub invariant-keep_selections-loop-selection : goal.invariant-keep_selections-loop-selection
invariant-keep_selections-loop-selection l = IsKeeping (known_by l.known) l.fn.selections l.left (into_iter_items l.selection-iterator)
