use Rattle.std.proofs.Common.{take}
use Rattle.gql_select.specs.Collected.{Setting}
use Rattle.gql_select.specs.Behind.{all_behind}
use Rattle.gql_conflicts.specs.Groups.{AreGroups}
use Rattle.gql_conflicts.proofs.grouping.group_fields.Given as goal

abbrev pub invariant-loop-field : goal.invariant-loop-field
invariant-loop-field l = (setting : Setting) → AreGroups setting l.keys l.groups.items (all_behind (take l.field-index l.fields))
