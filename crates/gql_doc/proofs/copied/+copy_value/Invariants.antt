use Rattle.std.proofs.Common.{◌≡◌, take}
use Rattle.gql_base.specs.Pairs.{values_of}
use Rattle.gql_doc.proofs.copied.+copy_value.Given as goal

abbrev pub invariant-copy_values-loop-value : goal.invariant-copy_values-loop-value
invariant-copy_values-loop-value l = l.copies ≡ take l.value-index l.values

abbrev pub invariant-copy_members-loop-place : goal.invariant-copy_members-loop-place
invariant-copy_members-loop-place l = l.values.items ≡ values_of (take l.place l.members)
