use Rattle.gql_base.specs.Pairs.{names_of}
use Rattle.gql_rules.specs.AlikeOperations.{AreGathered}
use Rattle.gql_rules.proofs.reached_uses.starts_of.Given as goal

abbrev pub invariant-loop-place : goal.invariant-loop-place
invariant-loop-place l = AreGathered (names_of l.against.fragments.now) l.operations l.place l.starts
