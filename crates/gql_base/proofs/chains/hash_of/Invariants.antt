use Rattle.std.proofs.Common.{◌≡◌, drop}
use Rattle.gql_base.specs.Chains.{hash_of, mixed_with}
use Rattle.gql_base.proofs.chains.hash_of.Given as goal

abbrev pub invariant-loop-byte : goal.invariant-loop-byte
invariant-loop-byte l = mixed_with l.hash (drop l.byte-index l.bytes) ≡ hash_of l.bytes
