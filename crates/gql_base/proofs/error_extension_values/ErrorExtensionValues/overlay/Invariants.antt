use Rattle.std.proofs.Common.{◌≡◌}
use Rattle.std.specs.Vec.Iter.{into_iter_items}
use Rattle.gql_base.specs.ErrorExtensions.{overlaid}
use Rattle.gql_base.proofs.error_extension_values.ErrorExtensionValues.overlay.Given as goal

abbrev pub invariant-loop-name : goal.invariant-loop-name
invariant-loop-name l =
    overlaid l.initial.self l.fn.values ≡ overlaid l.self (into_iter_items l.name-iterator)
