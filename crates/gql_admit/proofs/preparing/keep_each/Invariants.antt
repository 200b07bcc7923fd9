use Rattle.std.proofs.Common.{◌≡◌, ◌++◌, map}
use Rattle.std.specs.Vec.Iter.{into_iter_items}
use Rattle.gql_select.specs.Kept.{kept_fragment}
use Rattle.gql_admit.specs.KnownVariables.{known_by}
use Rattle.gql_admit.proofs.preparing.keep_each.Given as goal

abbrev pub invariant-loop-fragment : goal.invariant-loop-fragment
invariant-loop-fragment l =
    l.kept.items ++ map (kept_fragment (known_by l.known)) (into_iter_items l.fragment-iterator)
    ≡ map (kept_fragment (known_by l.known)) l.fn.fragments.items
