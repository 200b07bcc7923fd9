use Rattle.std.proofs.Common.{◌≤◌, take, length, sym, subst, arith}
use Rattle.std.proofs.lemmas.List.{take_all}
use Rattle.gql_select.specs.Behind.{all_behind}
use Rattle.gql_conflicts.specs.Groups.{AreGroups}
use Rattle.gql_conflicts.proofs.WalkLemmas.{bare, groups_of}
use Rattle.gql_collect.proofs.OccurrenceLemmas.{behind_more}
use Rattle.gql_conflicts.proofs.grouping.group_fields.Goals as goal

pub add_occurrence-requires : goal.add_occurrence-requires
add_occurrence-requires c = (c.loop-field.invariant bare).paired

pub loop-field-preserved : goal.loop-field-preserved
loop-field-preserved c =
    let fields = c.args.fields.now in
    let at = c.loop-field.field-index in
    λ setting.
    subst (λ fs. AreGroups setting c.add_occurrence.new.keys c.add_occurrence.new.groups.items fs)
    (sym (behind_more fields at c.field-item.result c.loop-field-test.true c.field-item.is))
    (c.in_ok-add_occurrence.ensures setting (all_behind (take at fields)) (c.loop-field.invariant setting))

pub returns : goal.returns
returns c =
    let fields = c.args.fields.now in
    let at = c.loop-field.field-index in
    let over : length fields ≤ at = omega arith in
    λ setting.
    groups_of setting (all_behind fields) c.loop-field.keys c.loop-field.groups.items c.len-distinct.ensures.distinct
    (subst (λ fs. AreGroups setting c.loop-field.keys c.loop-field.groups.items (all_behind fs)) (take_all at fields over) (c.loop-field.invariant setting))
