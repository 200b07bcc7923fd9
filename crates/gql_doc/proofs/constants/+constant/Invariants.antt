use Rattle.std.proofs.Common.{◌≡◌, map, take}
use Rattle.gql_base.specs.Pairs.{values_of}
use Rattle.gql_doc.specs.Drafts.{constant_in}
use Rattle.gql_doc.proofs.constants.+constant.Given as goal

abbrev pub invariant-constants_of-loop-value : goal.invariant-constants_of-loop-value
invariant-constants_of-loop-value l = l.constants ≡ map constant_in (take l.value-index l.values)

abbrev pub invariant-members_of-loop-place : goal.invariant-members_of-loop-place
invariant-members_of-loop-place l = l.constants.items ≡ map constant_in (values_of (take l.place l.members))
