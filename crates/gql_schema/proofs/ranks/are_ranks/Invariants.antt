use Rattle.std.proofs.Common.{◌≡◌, true, take}
use Rattle.std.specs.List.{list_all}
use Rattle.gql_schema.specs.Ranks.{is_ranked}
use Rattle.gql_schema.specs.Table.{types_of}
use Rattle.gql_schema.proofs.ranks.are_ranks.Given as goal

abbrev pub invariant-loop-place : goal.invariant-loop-place
invariant-loop-place l = list_all (is_ranked (types_of l.types) l.ranks) (take l.place (types_of l.types)) ≡ true
