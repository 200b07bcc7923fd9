use Rattle.std.proofs.Common.{◌+◌, ◌*◌, take}
use Rattle.std.specs.List.{flat_map}
use Rattle.gql_select.specs.Collected.{own_selections}
use Rattle.gql_conflicts.specs.Groups.{groups_tell, united}
use Rattle.gql_conflicts.specs.Nesting.{GroupNests, GroupsNest}
use Rattle.gql_conflicts.specs.Walk.{beneath_tells, set_tells}
use Rattle.gql_conflicts.specs.Walked.{Walks}
use Rattle.gql_conflicts.proofs.walk.+walk.Given as goal

abbrev pub invariant-add_groups-loop-place : goal.invariant-add_groups-loop-place
invariant-add_groups-loop-place l =
    GroupsNest l.reader l.groups → Walks l.reader (groups_tell (beneath_tells l.reader l.left l.object) (take l.place l.groups)) l.clean l.initial.walked l.walked

abbrev pub invariant-add_on_each-loop-place : goal.invariant-add_on_each-loop-place
invariant-add_on_each-loop-place l =
    GroupNests l.reader l.group → Walks l.reader (flat_map (set_tells l.reader l.left (own_selections (united l.group))) (take l.place l.objects)) l.clean l.initial.walked l.walked

abbrev pub decreases-add_on_object : goal.decreases-add_on_object
decreases-add_on_object l = 9 * l.left

abbrev pub decreases-add_on_each : goal.decreases-add_on_each
decreases-add_on_each l = 9 * l.left + 1

abbrev pub decreases-add_on_objects : goal.decreases-add_on_objects
decreases-add_on_objects l = 9 * l.left + 2

abbrev pub decreases-add_merged : goal.decreases-add_merged
decreases-add_merged l = 9 * l.left + 3

abbrev pub decreases-add_in_type : goal.decreases-add_in_type
decreases-add_in_type l = 9 * l.left + 4

abbrev pub decreases-add_beneath : goal.decreases-add_beneath
decreases-add_beneath l = 9 * l.left + 5

abbrev pub decreases-add_group : goal.decreases-add_group
decreases-add_group l = 9 * l.left + 6

abbrev pub decreases-add_groups : goal.decreases-add_groups
decreases-add_groups l = 9 * l.left + 7

abbrev pub decreases-add_among : goal.decreases-add_among
decreases-add_among l = 9 * l.left + 8
