use Rattle.std.proofs.Common.{◌≡◌, true, take}
use Rattle.std.specs.List.{list_all}
use Rattle.gql_schema.specs.InputObject.{input_fields}
use Rattle.gql_schema.specs.Ranks.{is_low_field}
use Rattle.gql_schema.specs.Table.{types_of}
use Rattle.gql_schema.proofs.ranks.fields_need_at_most.Given as goal

abbrev pub invariant-loop-place : goal.invariant-loop-place
invariant-loop-place l = list_all (is_low_field (types_of l.types) l.ranks l.most) (take l.place (input_fields l.input)) ≡ true
