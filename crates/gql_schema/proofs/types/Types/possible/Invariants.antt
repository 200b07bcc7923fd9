use Rattle.std.proofs.Common.{◌≡◌, filter, take}
use Rattle.gql_base.specs.Pairs.{names_of}
use Rattle.gql_schema.specs.Table.{types_of}
use Rattle.gql_schema.specs.TableReading.{is_possible_object}
use Rattle.gql_schema.proofs.types.Types.possible.Given as goal

abbrev pub invariant-loop-place : goal.invariant-loop-place
invariant-loop-place l = l.names ≡ names_of (filter (is_possible_object (types_of l.self) l.type_name) (take l.place (types_of l.self)))
