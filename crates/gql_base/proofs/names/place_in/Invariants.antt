use Rattle.std.proofs.Common.{◌≡◌, take, None}
use Rattle.gql_base.specs.Names.{place_of}
use Rattle.gql_base.proofs.names.place_in.Given as goal

abbrev pub invariant-loop-place : goal.invariant-loop-place
invariant-loop-place l = place_of l.name (take l.place l.names) ≡ None
