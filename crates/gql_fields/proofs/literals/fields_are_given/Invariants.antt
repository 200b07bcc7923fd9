use Rattle.std.proofs.Common.{◌≡◌, true, take}
use Rattle.std.specs.List.{list_all}
use Rattle.gql_schema.specs.Fits.{is_given}
use Rattle.gql_schema.specs.InputObject.{input_fields}
use Rattle.gql_fields.proofs.literals.fields_are_given.Given as goal

abbrev pub invariant-loop-place : goal.invariant-loop-place
invariant-loop-place l = list_all (is_given l.members) (take l.place (input_fields l.input)) ≡ true
