use Rattle.std.proofs.Common.{◌≡◌, take}
use Rattle.std.specs.List.{filter_map}
use Rattle.gql_schema.specs.InputObject.{input_fields}
use Rattle.gql_schema.specs.NameSet.{with_names}
use Rattle.gql_schema.specs.Sound.{needed_name}
use Rattle.gql_schema.proofs.containment.add_needed_of.Given as goal

abbrev pub invariant-loop-place : goal.invariant-loop-place
invariant-loop-place l = l.reached ≡ with_names l.initial.reached (filter_map needed_name (take l.place (input_fields l.input)))
