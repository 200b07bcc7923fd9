use Rattle.std.proofs.Common.{length, ◌-◌}
use Rattle.gql_tasks.proofs.BlockLemmas.{IsSought}
use Rattle.gql_tasks.proofs.waiting.find.Given as goal

abbrev pub invariant-blocks-2 : goal.invariant-blocks-2
invariant-blocks-2 l = IsSought l.blocks.items l.place l.block l.index

abbrev pub decreases-blocks-2 : goal.decreases-blocks-2
decreases-blocks-2 l = length l.blocks.items - l.block
