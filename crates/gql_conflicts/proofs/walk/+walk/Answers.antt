use Rattle.std.proofs.Common.{◌≡◌, ◌-◌, ◌<◌, ◌≤◌, IsTrue, true, ℕ, List, [], suc, length, ap, refl, rules, sym, subst, ◌∙◌, arith}
use Rattle.std.proofs.lemmas.Option.{slice_get_read}
use Rattle.std.specs.List.{flat_map}
use Rattle.std.specs.Option.{IfSome, option_copied}
use Rattle.gql_schema.specs.TableReading.{possible}
use Rattle.gql_select.specs.Alike.{name_of}
use Rattle.gql_select.specs.Collected.{own_selections}
use Rattle.gql_select.specs.Behind.{all_behind}
use Rattle.gql_conflicts.specs.Groups.{group_tells, groups_tell, told_of, united}
use Rattle.gql_conflicts.specs.Merged.{IsMergedOf, merged_tells}
use Rattle.gql_conflicts.specs.Nesting.{FieldsNest, GroupNests, GroupsNest}
use Rattle.gql_conflicts.specs.Reader.{setting_by}
use Rattle.gql_conflicts.specs.Rooted.{rooted_of}
use Rattle.gql_conflicts.specs.Walk.{among_tells, beneath_tells, set_tells, type_tells}
use Rattle.gql_conflicts.specs.Walked.{Walks}
use Rattle.gql_conflicts.specs.declared.conflict.Conflict.{Conflict}
use Rattle.gql_conflicts.specs.declared.walked.Walked.{Walked}
use Rattle.gql_conflicts.proofs.MergedLemmas.{told_merged}
use Rattle.gql_conflicts.proofs.NestedLemmas.{groups_nest}
use Rattle.gql_conflicts.proofs.WalkLemmas.{name_of_united, nothing_beneath}
use Rattle.gql_conflicts.proofs.WalkedLemmas.{beneath_told, unknown_told, walks_at, walks_begin, walks_end, walks_for, walks_kept, walks_none, walks_same, walks_set, walks_step, walks_then, walks_told}
use Rattle.gql_conflicts.proofs.walk.+walk.Goals as goal

pub add_among-returns : goal.add_among-returns
add_among-returns t c =
    let reader = c.args.reader.now in
    let fields = all_behind c.args.fields.now in
    let beneath = beneath_tells reader c.args.left c.args.object.now in
    let groups = c.in_ok-groups.groups.items in
    let are = c.in_ok-groups.ensures (setting_by reader) in
    let listed = c.as_slice.ensures.value in
    walks_for reader c.add_groups.result (GroupsNest reader c.as_slice.result.now) (FieldsNest reader fields) (groups_tell beneath c.as_slice.result.now)
    (among_tells reader c.args.left c.args.object.now fields) c.args.walked.now c.add_groups.new.walked
    (λ nest. subst (GroupsNest reader) (sym listed) (groups_nest reader groups fields are.united_are nest))
    (λ nest. ap (groups_tell beneath) listed ∙ are.tell beneath) c.add_groups.ensures

pub add_groups-loop-place-init : goal.add_groups-loop-place-init
add_groups-loop-place-init t c = λ nest.
    walks_begin c.args.reader.now (group_tells (beneath_tells c.args.reader.now c.args.left c.args.object.now)) c.args.groups.now c.args.walked.now

pub add_groups-loop-place-preserved : goal.add_groups-loop-place-preserved
add_groups-loop-place-preserved t c =
    let within : c.loop-place.place < length c.args.groups.now = search rules in
    let read = slice_get_read c.args.groups.now (length c.args.groups.now) c.loop-place.place c.index-groups-place.result refl within c.index-groups-place.is in
    λ nest.
    walks_step c.args.reader.now (group_tells (beneath_tells c.args.reader.now c.args.left c.args.object.now)) c.args.groups.now c.loop-place.place
    c.index-groups-place.result _ _ c.args.walked.now c.loop-place.walked c.add_group.new.walked read (c.loop-place.invariant nest)
    (c.in_ok-clean.ensures (nest c.loop-place.place c.index-groups-place.result read))

pub add_groups-returns : goal.add_groups-returns
add_groups-returns t c =
    let over : length c.args.groups.now ≤ c.loop-place.place = omega arith in
    λ nest.
    walks_end c.args.reader.now (group_tells (beneath_tells c.args.reader.now c.args.left c.args.object.now)) c.args.groups.now c.loop-place.place
    c.loop-place.clean c.args.walked.now c.loop-place.walked over (c.loop-place.invariant nest)

pub add_group-returns : goal.add_group-returns
add_group-returns t c =
    let reader = c.args.reader.now in
    let unlike = told_of c.args.group.now.unlike in
    let beneath = beneath_tells reader c.args.left c.args.object.now (united c.args.group.now) in
    let old = c.args.walked.now in
    let now : Walked = record { found = c.add_unlike.new.found; seen = old.seen; pairs = old.pairs } in
    λ nest.
    walks_then reader unlike beneath _ _ old now c.add_beneath.new.walked
    (subst (λ clean. Walks reader unlike clean old now) (sym c.in_ok-alike.ensures.clean) (walks_told reader unlike old now c.in_ok-alike.ensures.told refl refl))
    (c.in_ok-clean.ensures nest)

pub add_beneath-returns-then-has_no_set : goal.add_beneath-returns-then-has_no_set
add_beneath-returns-then-has_no_set t c =
    let so : IsTrue c.has_no_set.result = cc in
    let reader = c.args.reader.now in
    let field = united c.args.group.now in
    λ nest.
    walks_same reader [] (beneath_tells reader c.args.left c.args.object.now field) true c.args.walked.now c.args.walked.now
    (sym (nothing_beneath reader c.args.left c.args.object.now field (c.has_no_set.ensures so))) (walks_none reader c.args.walked.now)

pub add_beneath-returns-in-None : goal.add_beneath-returns-in-None
add_beneath-returns-in-None t c =
    let reader = c.args.reader.now in
    let field = united c.args.group.now in
    λ nest.
    walks_same reader [] (beneath_tells reader c.args.left c.args.object.now field) true c.args.walked.now c.args.walked.now
    (unknown_told reader c.args.left c.args.object.now field _ (c.as_str-name.ensures ∙ ap name_of c.field.ensures ∙ sym (name_of_united c.args.group.now))
    (sym c.type_beneath.ensures ∙ ap option_copied c.in-None.is)) (walks_none reader c.args.walked.now)

pub add_beneath-returns-in-Some : goal.add_beneath-returns-in-Some
add_beneath-returns-in-Some t c =
    let reader = c.args.reader.now in
    let group = c.args.group.now in
    let field = united group in
    walks_for reader c.add_in_type.result (GroupNests reader group) (GroupNests reader group)
    (type_tells reader c.args.left c.in-Some.ty.now (own_selections field)) (beneath_tells reader c.args.left c.args.object.now field)
    c.args.walked.now c.add_in_type.new.walked (λ nest. nest)
    (λ nest. beneath_told reader c.args.left c.args.object.now field c.in-Some.ty.now _
    (c.as_str-name.ensures ∙ ap name_of c.field.ensures ∙ sym (name_of_united group)) (sym c.type_beneath.ensures ∙ ap option_copied c.in-Some.is))
    c.add_in_type.ensures

pub add_in_type-returns-in-Some : goal.add_in_type-returns-in-Some
add_in_type-returns-in-Some t c =
    let reader = c.args.reader.now in
    let is = subst (λ found. IfSome found (IsMergedOf reader c.args.left c.args.ty.now c.args.group.now)) c.in-Some.is c.in_ok-found.ensures in
    walks_at reader c.add_merged.result (λ ty. IsMergedOf reader c.args.left ty c.args.group.now c.in-Some.merged) (GroupNests reader c.args.group.now)
    (λ ty. type_tells reader c.args.left ty (own_selections (united c.args.group.now))) c.args.ty.now c.args.walked.now c.add_merged.new.walked is
    c.add_merged.ensures

pub add_merged-returns-in-Some : goal.add_merged-returns-in-Some
add_merged-returns-in-Some t c =
    let reader = c.args.reader.now in
    let merged = c.args.merged in
    let own = own_selections (united c.args.group.now) in
    let walked = c.args.walked.now in
    let known = subst (λ found. IfSome found (λ clean. Walks reader (merged_tells reader merged) clean walked walked)) c.in-Some.is (c.answer.ensures reader) in
    λ ty is nest.
    walks_same reader (merged_tells reader merged) (type_tells reader c.args.left ty own) c.in-Some.clean walked walked
    (told_merged reader merged c.args.left ty own is.left_is is.ty_is is.has) known

pub add_merged-returns-then-passes : goal.add_merged-returns-then-passes
add_merged-returns-then-passes t c =
    let so : IsTrue c.passes.result = cc in
    let reader = c.args.reader.now in
    let merged = c.args.merged in
    let own = own_selections (united c.args.group.now) in
    let old = c.args.walked.now in
    let new = c.note.new.self in
    λ ty is nest.
    walks_same reader (merged_tells reader merged) (type_tells reader c.args.left ty own) true old new
    (told_merged reader merged c.args.left ty own is.left_is is.ty_is is.has)
    (walks_kept reader merged true old old new (c.passes.ensures reader so) (c.in_ok-note.ensures reader))

pub add_merged-returns : goal.add_merged-returns
add_merged-returns t c =
    let reader = c.args.reader.now in
    let merged = c.args.merged in
    let left = c.args.left in
    let own = own_selections (united c.args.group.now) in
    let old = c.args.walked.now in
    let now = c.add_on_objects.new.walked in
    let new = c.remember.new.self in
    let clean = c.in_ok-clean.clean in
    λ ty is nest.
    walks_same reader (merged_tells reader merged) (type_tells reader left ty own) clean old new (told_merged reader merged left ty own is.left_is is.ty_is is.has)
    (walks_kept reader merged clean old now new
    (walks_same reader (type_tells reader left merged.ty.now own) (merged_tells reader merged) clean old now
    (sym (told_merged reader merged left merged.ty.now own is.left_is refl is.has)) (c.in_ok-clean.ensures nest))
    (c.in_ok-remember.ensures reader))

pub add_on_objects-returns : goal.add_on_objects-returns
add_on_objects-returns t c =
    let reader = c.args.reader.now in
    let nests = GroupNests reader c.args.group.now in
    let tells : List (List ℕ) → List Conflict = flat_map (set_tells reader c.args.left (own_selections (united c.args.group.now))) in
    walks_for reader c.add_on_each.result nests nests (tells c.in_ok-objects.objects)
    (tells (possible (rooted_of reader.rooted.now).table c.args.ty.now)) c.args.walked.now c.add_on_each.new.walked (λ nest. nest)
    (λ nest. ap tells c.in_ok-objects.ensures) c.add_on_each.ensures

pub add_on_each-loop-place-init : goal.add_on_each-loop-place-init
add_on_each-loop-place-init t c = λ nest.
    walks_begin c.args.reader.now (set_tells c.args.reader.now c.args.left (own_selections (united c.args.group.now))) c.args.objects.now c.args.walked.now

pub add_on_each-loop-place-preserved : goal.add_on_each-loop-place-preserved
add_on_each-loop-place-preserved t c = λ nest.
    walks_step c.args.reader.now (set_tells c.args.reader.now c.args.left (own_selections (united c.args.group.now))) c.args.objects.now c.loop-place.place
    c.at.result.now _ _ c.args.walked.now c.loop-place.walked c.add_on_object.new.walked c.at.ensures (c.loop-place.invariant nest)
    (c.in_ok-clean.ensures nest)

pub add_on_each-returns : goal.add_on_each-returns
add_on_each-returns t c =
    let over : length c.args.objects.now ≤ c.loop-place.place = omega arith in
    λ nest.
    walks_end c.args.reader.now (set_tells c.args.reader.now c.args.left (own_selections (united c.args.group.now))) c.args.objects.now c.loop-place.place
    c.loop-place.clean c.args.walked.now c.loop-place.walked over (c.loop-place.invariant nest)

pub add_on_object-returns : goal.add_on_object-returns
add_on_object-returns t c =
    let one : c.args.left ≡ suc (c.args.left - 1) = omega (arith, c.if-left-eq0.false) in
    let listed = c.as_slice.ensures.value in
    walks_set c.args.reader.now c.add_among.result c.args.left (c.args.left - 1) (own_selections (united c.args.group.now)) c.args.object.now
    (all_behind c.as_slice.result.now) c.args.walked.now c.add_among.new.walked one (ap all_behind listed ∙ c.in_ok-fields.ensures) c.add_among.ensures
