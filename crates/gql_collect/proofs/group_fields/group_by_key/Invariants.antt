use Rattle.std.proofs.Common.{◌≡◌, length}
use Rattle.std.specs.Vec.Iter.{into_iter_items}
use Rattle.gql_base.specs.Pairs.{unite_all}
use Rattle.gql_select.specs.Collected.{Setting}
use Rattle.gql_select.specs.Documents.{both, reading}
use Rattle.gql_select.specs.Reading.{keyed, merged}
use Rattle.gql_select.specs.Behind.{all_behind}
use Rattle.gql_collect.specs.Groups.{under_keys}
use Rattle.gql_collect.proofs.group_fields.group_by_key.Given as goal

abbrev pub invariant-loop-field : goal.invariant-loop-field
invariant-loop-field l = record {
  paired : length l.groups.items ≡ length l.keys;
  rest : (setting : Setting) → unite_all both (under_keys l.keys l.groups.items) (keyed (reading setting) (all_behind (into_iter_items l.field-iterator)))
      ≡ merged (reading setting) (all_behind l.fn.fields.items);
}
