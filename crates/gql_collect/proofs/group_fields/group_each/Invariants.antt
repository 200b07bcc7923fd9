use Rattle.std.proofs.Common.{◌≡◌, ◌++◌, length}
use Rattle.std.specs.Vec.Iter.{into_iter_items}
use Rattle.gql_select.specs.Collected.{Setting}
use Rattle.gql_select.specs.Documents.{reading}
use Rattle.gql_select.specs.Reading.{keyed}
use Rattle.gql_select.specs.Behind.{all_behind}
use Rattle.gql_collect.specs.Groups.{under_names}
use Rattle.gql_collect.proofs.group_fields.group_each.Given as goal

abbrev pub invariant-loop-field : goal.invariant-loop-field
invariant-loop-field l = record {
  paired : length l.groups.items ≡ length l.names.items;
  rest : (setting : Setting) → under_names l.names.items l.groups.items ++ keyed (reading setting) (all_behind (into_iter_items l.field-iterator))
      ≡ keyed (reading setting) (all_behind l.fn.fields.items);
}
