use Rattle.std.proofs.Common.{◌≡◌, take}
use Rattle.gql_base.proofs.error_extension_values.ErrorExtensionValuesCopied.try_clone.Given as goal

abbrev pub invariant-loop-name : goal.invariant-loop-name
invariant-loop-name l = l.pairs.items ≡ take l.name-index l.name-items
