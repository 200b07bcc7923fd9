use Rattle.std.proofs.Common.{take}
use Rattle.std.specs.List.{flat_map}
use Rattle.gql_base.specs.Pairs.{values_of}
use Rattle.gql_conflicts.specs.Nesting.{OperationsNest}
use Rattle.gql_conflicts.specs.Walk.{operation_tells}
use Rattle.gql_conflicts.specs.Walked.{Walks}
use Rattle.gql_conflicts.proofs.fields_in_set_can_merge.add_several.Given as goal

abbrev pub invariant-loop-place : goal.invariant-loop-place
invariant-loop-place l =
    OperationsNest l.reader (values_of l.operations)
    → Walks l.reader (flat_map (operation_tells l.reader) (take l.place (values_of l.operations))) l.clean l.initial.walked l.walked
