-- The laws on what execution means, proved.
use Rattle.std.proofs.Common.{◌≡◌, ℕ, zero, suc, Bool, true, false, List, [], length, take, refl, ap, sym, ◌∙◌, arith}
use lib.Seq.{take_all}
use Rattle.gql_base.specs.Pairs.{values_of}
use Rattle.gql_doc.specs.declared.document.Field.{Field}
use Rattle.gql_doc.specs.declared.document.Positioned.{Positioned}
use Rattle.gql_doc.specs.declared.document.Selection.{Selection}
use Rattle.gql_meaning.proofs.CompletionLemmas.{shape_fits}
use Rattle.gql_meaning.proofs.ExecutionLemmas.{are_fitting, asks_nothing, asks_nothing_in_turn, needs_no_answer, needs_no_answer_in_turn, no_world_changed, only_asking}
use Rattle.gql_meaning.specs.Counted.{counting_in_turn, counts_by, total}
use Rattle.gql_meaning.specs.Outcomes.{field_outcome, named_outcome}
use Rattle.gql_collect.proofs.DeclaredFieldLemmas.{agree_declared, is_declared_reading}
use Rattle.gql_collect.specs.Execution.{Execution, setting_in}
use Rattle.gql_meaning.specs.Laws.{ApartIsMerged, CompletionFits, HasNoConflicts, IntrospectionAsksNothing, IntrospectionChangesNoWorld, IntrospectionNeedsNoAnswer, OnlyAnswersChangeWorlds}
use Rattle.gql_meaning.specs.Responses.{apart_by, asking_keys, kept_in, kept_reading, levels_beneath, merged_by, mutating, root_asking, root_keys, root_place, world_after, world_by, world_of, Written}
use Rattle.gql_meaning.specs.Served.{Served}
use Rattle.gql_collect.specs.TableSetting.{declared_arguments}
use Rattle.gql_place.proofs.LawProofs.{is_answering, mutation_places_apart_are_merged, places_apart_are_merged}
use Rattle.gql_place.specs.Answered.{IsAnswering}
use Rattle.gql_place.specs.Join.{join}
use Rattle.gql_resolve.specs.Call.{Call}
use Rattle.gql_resolve.specs.declared.answer.Answer.{Answer}
use Rattle.gql_resolve.specs.declared.field_value.FieldValue.{FieldValue}
use Rattle.gql_select.proofs.ConflictLemmas.{agree_from}
use Rattle.gql_select.proofs.DocumentLemmas.{is_reading}
use Rattle.gql_select.proofs.KeptLemmas.{agree_kept}
use Rattle.gql_select.specs.Conflicts.{Agree, conflicts}
use Rattle.gql_select.specs.Documents.{reading}
use Rattle.gql_select.specs.Grouped.{below_root, grouped, serial_grouped, serial_respond, world_behind}
use Rattle.gql_select.specs.Kept.{kept_setting}
use Rattle.gql_select.specs.Reading.{IsReading}

pub completion_fits : (V : Type 0) → CompletionFits V
completion_fits V = shape_fits V

-- what is left of the selections is read as their parts are
is_kept_reading : (execution : Execution) → IsReading (kept_reading execution)
is_kept_reading execution = is_declared_reading execution (kept_setting execution.known (setting_in execution))

-- answers hang on what is asked, and come to possible objects, whichever fields are declared
answers_kept : {V : Type 0} (is_root : Bool) (execution : Execution) (answer : Call V → Answer V)
    → IsAnswering (kept_reading execution) (λ field. field.pos) (field_outcome is_root execution answer)
answers_kept is_root execution answer =
    let is = is_answering execution.known (setting_in execution) (declared_arguments execution.schema)
    (named_outcome is_root execution answer) (are_fitting is_root execution answer) in
    record {
      pos_of_both = is.pos_of_both;
      outcome_of_both = is.outcome_of_both;
      outcome_of_alike = is.outcome_of_alike;
      objects_are_possible = is.objects_are_possible;
    }

-- what is left of an operation without conflicts agrees with itself
agrees_inside : {V E : Type 0} (written : Written V) (told : Positioned Field → E) (n : ℕ)
    → conflicts (reading (setting_in written.execution)) told n written.asked.object written.asked.selections ≡ []
    → Agree (kept_reading written.execution) n written.asked.object (kept_in written.execution written.asked)
    (kept_in written.execution written.asked)
agrees_inside written told n none =
    let execution = written.execution in
    let setting = setting_in execution in
    let asked = written.asked in
    agree_declared execution (kept_setting execution.known setting) n asked.object (kept_in execution asked) (kept_in execution asked)
    (agree_kept execution.known setting n asked.object asked.selections asked.selections
    (agree_from (reading setting) (is_reading setting) told n asked.object asked.selections none))

module _ {V W E : Type 0} (served : Served V W) (written : Written V) (told : Positioned Field → E) where
  -- the root keys of a mutation, with so many levels of sets, the root's among them
  keys_apart : (n : ℕ) → conflicts (reading (setting_in written.execution)) told n written.asked.object written.asked.selections ≡ []
      → serial_respond (mutating served written) join (levels_beneath n) written.asked.object written.asked.parent (kept_in written.execution written.asked) served.world
      ≡ serial_grouped (mutating served written) (levels_beneath n) written.asked.object written.asked.parent (kept_in written.execution written.asked) served.world
  keys_apart zero none = refl
  keys_apart (suc n) none =
      let execution = written.execution in
      let asked = written.asked in
      mutation_places_apart_are_merged (List ℕ) (FieldValue V) (Positioned Field) (Positioned Selection) W (kept_reading execution)
      (is_kept_reading execution) (world_after execution served.effect asked) (λ field. field.pos)
      (λ w. field_outcome true execution (λ call. served.answer call w)) (λ w. field_outcome false execution (λ call. served.answer call w))
      (λ w. answers_kept true execution (λ call. served.answer call w)) (λ w. answers_kept false execution (λ call. served.answer call w))
      n asked.object asked.parent (kept_in execution asked) served.world (agrees_inside written told (suc n) none)

  members_apart : (mutates : Bool) → HasNoConflicts told written → apart_by served written mutates ≡ merged_by served written mutates
  members_apart false none =
      let execution = written.execution in
      let asked = written.asked in
      places_apart_are_merged (List ℕ) (FieldValue V) (Positioned Field) (Positioned Selection) (kept_reading execution)
      (is_kept_reading execution) (λ field. field.pos) (field_outcome false execution (λ call. served.answer call served.world))
      (answers_kept false execution (λ call. served.answer call served.world))
      execution.levels asked.object asked.parent (kept_in execution asked) (agrees_inside written told execution.levels none)
  members_apart true none = keys_apart written.execution.levels none

pub apart_is_merged : (V W E : Type 0) → ApartIsMerged V W E
apart_is_merged V W E = λ served written told none. ap (root_place written.pos) (members_apart served written told written.mutates none)

module _ {V W : Type 0} (served : Served V W) (written : Written V) where
  answers_alone : (mutates : Bool)
      → world_by served written mutates (root_keys written.execution written.asked)
      ≡ world_by served written mutates (take (length (asking_keys written.execution written.asked)) (asking_keys written.execution written.asked))
  answers_alone false = refl
  answers_alone true =
      let execution = written.execution in
      let asked = written.asked in
      only_asking (world_of execution served.effect) (λ w. refl) (root_asking execution asked) (root_keys execution asked) served.world
      ∙ sym (ap (world_behind (world_after execution served.effect asked) served.world) (take_all (length (asking_keys execution asked)) (asking_keys execution asked) (omega arith)))

  module _ (only : written.execution.only_introspection ≡ true) where
    none_counted : (mutates : Bool) → total (values_of (counts_by served written mutates)) ≡ 0
    none_counted false = asks_nothing written.execution (λ call. served.answer call served.world) only written.execution.levels written.asked
    none_counted true =
        asks_nothing_in_turn written.execution served.answer (world_after written.execution served.effect written.asked) written.asked.object written.asked.parent only
        (λ behind f inner value. grouped (below_root (counting_in_turn served written) behind) (levels_beneath written.execution.levels) inner value
        ((kept_reading written.execution).set f))
        (root_keys written.execution written.asked) served.world

    none_changed : (mutates : Bool) → world_by served written mutates (root_keys written.execution written.asked) ≡ served.world
    none_changed false = refl
    none_changed true = no_world_changed written.execution served.effect written.asked only (root_keys written.execution written.asked) served.world

    none_needed : (other : Served V W) (mutates : Bool) → merged_by served written mutates ≡ merged_by other written mutates
    none_needed other false =
        needs_no_answer written.execution (λ call. served.answer call served.world) only (λ call. other.answer call other.world) written.execution.levels written.asked
    none_needed other true =
        needs_no_answer_in_turn written.execution served.answer (world_after written.execution served.effect written.asked) written.asked.object written.asked.parent only
        other.answer (world_after written.execution other.effect written.asked) (levels_beneath written.execution.levels)
        (root_keys written.execution written.asked) served.world other.world

pub only_answers_change_worlds : (V W : Type 0) → OnlyAnswersChangeWorlds V W
only_answers_change_worlds V W = λ served written. answers_alone served written written.mutates

pub introspection_asks_nothing : (V W : Type 0) → IntrospectionAsksNothing V W
introspection_asks_nothing V W = λ served written only. none_counted served written only written.mutates

pub introspection_needs_no_answer : (V W : Type 0) → IntrospectionNeedsNoAnswer V W
introspection_needs_no_answer V W = λ served other written only. ap (root_place written.pos) (none_needed served written only other written.mutates)

pub introspection_changes_no_world : (V W : Type 0) → IntrospectionChangesNoWorld V W
introspection_changes_no_world V W = λ served written only. none_changed served written only written.mutates
