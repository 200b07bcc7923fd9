-- The members of the root of a mutation, of the places of its root keys, one after another.
use Rattle.std.proofs.Common.{◌≡◌, ℕ, zero, suc, Bool, true, false, List, [], ◌∷◌, ◌++◌, map, Option, Some, None, refl, ap, sym, subst, ◌∙◌}
use Rattle.std.specs.List.{AllByRecursion}
use Rattle.std.specs.Str.{bytes_eq}
use Rattle.gql_base.specs.Pairs.{HasDistinctNames, under, unite_all, values_of}
use Rattle.gql_base.specs.declared.value.Value.TheVariants as value
use Rattle.gql_doc.specs.Depth.{operation_set}
use Rattle.gql_doc.specs.declared.document.Field.{Field}
use Rattle.gql_doc.specs.declared.document.Positioned.{Positioned}
use Rattle.gql_tasks.specs.Phases.{answer_between, Serving, world_past}
use Rattle.gql_engine.specs.declared.scene.Scene.{Scene}
use Rattle.gql_collect.specs.Execution.{Asking, field_asking}
use Rattle.gql_meaning.specs.Outcomes.{field_outcome}
use Rattle.gql_meaning.specs.Responses.{Members, placed, world_of}
use Rattle.gql_place.specs.Filled.{place_with}
use Rattle.gql_place.specs.Alike.{AreAlikeMembers, Paired, Same, SameMembers}
use Rattle.gql_place.specs.Join.{join}
use Rattle.gql_place.specs.Pieces.{place_in}
use Rattle.gql_place.specs.declared.piece.Piece.{Piece}
use Rattle.gql_place.specs.declared.place.Place.{Place}
use Rattle.gql_place.proofs.PieceLemmas.{members_cons, members_refl, same_of}
use Rattle.gql_resolve.specs.Call.{Call}
use Rattle.gql_resolve.specs.Layers.{layers_of}
use Rattle.gql_resolve.specs.declared.answer.Answer.{Answer}
use Rattle.gql_resolve.specs.declared.field_value.FieldValue.{FieldValue}
use Rattle.gql_select.specs.Collected.{own_selections}
use Rattle.gql_select.specs.Documents.{both, reading}
use Rattle.gql_select.specs.Grouped.{in_turn, respond_by, world_behind}
use Rattle.gql_select.specs.Reading.{keyed}
use Rattle.gql_select.proofs.UnitingLemmas.{distinct_united, either, united_distinct}
use Rattle.gql_collect.specs.Asks.{asking_by, asks_of}
use Rattle.gql_objects.specs.Outcomes.{outcome_by}
use Rattle.gql_objects.specs.Members.{absent_place, members_with, typename_place}
use Rattle.gql_objects.specs.Assembly.{IsRight}
use Rattle.gql_collect.specs.Basis.{execution_of, setting_by}
use Rattle.gql_collect.specs.GroupFields.{collected, groups_by, keeps_whole, reading_by}
use Rattle.gql_objects.specs.Jobs.{Job, job_of, jobs_of_as}
use Rattle.gql_collect.specs.Levels.{Asked, asked_in_as, asked_on}
use Rattle.gql_objects.specs.ExecuteSelectionSet.{beneath_by}
use Rattle.gql_engine.specs.ExecuteQuery.{basis_by, job_subject, Nests, root_selections, root_spot}
use Rattle.gql_engine.specs.ExecuteMutation.{answer_in_phase, answering, key_jobs_by, keys_by, last_world_of, PlacedInTurn, serial_members_by}
use Rattle.gql_objects.specs.PlaceStore.{present}
use Rattle.gql_collect.specs.Nesting.{IsWithin}
use Rattle.gql_collect.specs.declared.asks.Asks.{Asks}
use Rattle.gql_collect.specs.declared.asks.Asks.TheVariants as asks
use Rattle.gql_collect.specs.declared.basis.Basis.{Basis}
use Rattle.gql_collect.specs.declared.basis.Grouping.{Grouping}
use Rattle.gql_collect.proofs.AsksLemmas.{asking_is}
use Rattle.gql_objects.proofs.OutcomeLemmas.{outcome_is}
use Rattle.gql_objects.proofs.MembersLemmas.{fill-Absent, fill-Leaf, places_under}
use Rattle.gql_collect.proofs.CollectedLemmas.{all_collected}
use Rattle.gql_collect.proofs.NestingLemmas.{both_within, merged_all, nests_within}
use Rattle.gql_engine.proofs.FewerKeyLemmas.{keys_leave}

-- one place more
module _ {V W : Type 0} (serving : Serving V W) where
  pub placed_next : (world : W) (done : List (Job V)) (root : Job V) (os : List (Option Piece)) (place : Piece)
      → PlacedInTurn serving world done os
      → IsRight (answer_in_phase serving (world_past serving job_subject world done) root) root place
      → PlacedInTurn serving world (done ++ root ∷ []) (os ++ Some place ∷ [])
  placed_next world [] root [] place placed right = ((place, refl, right), tt)
  placed_next world [] root (o ∷ os) place placed right = absurd placed
  placed_next world (one ∷ done) root [] place placed right = absurd placed
  placed_next world (one ∷ done) root (o ∷ os) place placed right =
      (placed.0, placed_next (serving.effect one.asking.call world) done root os place placed.1 right)

-- under a root key the answers of its phase are those of the world that it leaves
module _ {V W : Type 0} (basis : Basis) (answer : Call V → W → Answer V) (before behind : W) where
  pub below_outcome : (object : List ℕ) (parent : FieldValue V) (field : Positioned Field)
      → field_outcome false (execution_of basis) (answer_between answer before behind) object parent field
      ≡ field_outcome false (execution_of basis) (λ call. answer call behind) object parent field
  below_outcome object parent field =
      outcome_is false (execution_of basis) parent (answer_between answer before behind) object field
      ∙ by (asks_of (execution_of basis) object field)
      ∙ sym (outcome_is false (execution_of basis) parent (λ call. answer call behind) object field)
    where
      by : (a : Asks) → outcome_by false (execution_of basis) (answer_between answer before behind) object parent a
          ≡ outcome_by false (execution_of basis) (λ call. answer call behind) object parent a
      by asks.Typename = refl
      by asks.Nothing = refl
      by (asks.Call resolver ty arguments) = refl

  pub below_alike : (n : ℕ) (field : Positioned Field) (object : List ℕ) (parent : FieldValue V)
      → beneath_by basis (answer_between answer before behind) n field object parent
      ≡ beneath_by basis (λ call. answer call behind) n field object parent
  below_alike n field object parent =
      λ i. respond_by (record { reading = reading_by basis.grouping basis; place = λ o p f below. place_with f.pos (below_outcome o p f i) below }) join
      (groups_by basis.grouping (setting_by basis)) n object parent (own_selections field)

-- keys that stand once each do so once they are answered
module _ {F Pl W : Type 0} (effect : W → F → W) (placed : W → W → F → Pl) where
  absent_in_turn : (k : List ℕ) (ms : List (List ℕ × F)) (world : W) → under k ms ≡ None → under k (in_turn effect placed world ms) ≡ None
  absent_in_turn k [] world none = refl
  absent_in_turn k (m ∷ ms) world none =
      either (bytes_eq k m.0) (under k (in_turn effect placed world (m ∷ ms)) ≡ None)
      (λ e. let found : under k (m ∷ ms) ≡ Some m.1 = rw e refl in cc)
      (λ e. let past : under k (m ∷ ms) ≡ under k ms = rw e refl in
      let rest : under k (in_turn effect placed (effect world m.1) ms) ≡ None = absent_in_turn k ms (effect world m.1) (sym past ∙ none) in rw e rest)

  distinct_in_turn : (ms : List (List ℕ × F)) (world : W) → HasDistinctNames ms → HasDistinctNames (in_turn effect placed world ms)
  distinct_in_turn [] world d = tt
  distinct_in_turn (m ∷ ms) world d = (absent_in_turn m.0 ms (effect world m.1) d.0, distinct_in_turn ms (effect world m.1) d.1)

-- members of the same names stand once each in both
same_under : (k : List ℕ) (ms ns : Members) → Paired AreAlikeMembers ms ns → under k ns ≡ None → under k ms ≡ None
same_under k [] [] same none = refl
same_under k [] (n ∷ ns) same none = absurd same
same_under k (m ∷ ms) [] same none = absurd same
same_under k (m ∷ ms) (n ∷ ns) same none =
    either (bytes_eq k n.0) (under k (m ∷ ms) ≡ None)
    (λ e. let found : under k (n ∷ ns) ≡ Some n.1 = rw e refl in cc)
    (λ e. let past : under k (n ∷ ns) ≡ under k ns = rw e refl in
    let rest : under k ms ≡ None = same_under k ms ns same.1 (sym past ∙ none) in
    let differs : bytes_eq k m.0 ≡ false = ap (bytes_eq k) same.0.0 ∙ e in rw differs rest)

same_distinct : (ms ns : Members) → Paired AreAlikeMembers ms ns → HasDistinctNames ns → HasDistinctNames ms
same_distinct [] [] same d = tt
same_distinct [] (n ∷ ns) same d = absurd same
same_distinct (m ∷ ms) [] same d = absurd same
same_distinct (m ∷ ms) (n ∷ ns) same d =
    ((same_under m.0 ms ns same.1 (ap (λ k. under k ns) same.0.0 ∙ d.0)), same_distinct ms ns same.1 d.1)

-- members that stand once each are the same once they are united
united_same : (whole : Bool) (ms ns : Members) → SameMembers whole ms ns → HasDistinctNames ns → SameMembers whole (unite_all join [] ms) ns
united_same true ms ns same d = ap (unite_all join []) same ∙ united_distinct join ns d
united_same false ms ns same d = subst (λ xs. Paired AreAlikeMembers xs ns) (sym (united_distinct join ms (same_distinct ms ns same d))) same

module _ {V W : Type 0} (how : Grouping) (scene : Scene V) (serving : Serving V W) (n : ℕ) where
  -- what is under a root key that left this world
  abbrev beneath : W → Positioned Field → List ℕ → FieldValue V → Members
  beneath behind field object parent = beneath_by (basis_by how scene) (λ call. serving.answer call behind) n field object parent

  abbrev own_asking : Positioned Field → Option (Asking V)
  own_asking field = field_asking true (execution_of (basis_by how scene)) (root_spot scene).object (root_spot scene).parent field

  -- the place of a root key, by what it asks
  abbrev key_place : W → W → Positioned Field → Asks → Place
  key_place before behind field a = place_with field.pos
      (outcome_by true (execution_of (basis_by how scene)) (λ call. serving.answer call before) (root_spot scene).object (root_spot scene).parent a)
      (beneath behind field)

  abbrev asked_by_key : Asks → Option (Asking V)
  asked_by_key a = asking_by true (layers_of (basis_by how scene).layers) (root_spot scene).parent a

  abbrev left_by : W → Option (Asking V) → W
  left_by world asking = world_of (execution_of (basis_by how scene)) serving.effect world asking

  -- one root key, and those after it
  one_key : (key : List ℕ) (field : Positioned Field) (a : Asks) (world : W) (os : List (Option Piece)) (jobs : List (Job V)) (members : List (List ℕ × Asked))
      (rest : W → Members)
      → ((w : W) (ps : List (Option Piece)) → PlacedInTurn serving w jobs ps
      → SameMembers (keeps_whole how) (places_under (root_spot scene).object members (map place_in (present ps))) (rest w))
      → IsWithin (setting_by (basis_by how scene)) n (own_selections field)
      → PlacedInTurn serving world (job_of (basis_by how scene) (root_spot scene) field (asked_by_key a) ++ jobs) os
      → SameMembers (keeps_whole how)
      (places_under (root_spot scene).object ((key, record { basis = basis_by how scene; field = field; asks = a }) ∷ members) (map place_in (present os)))
      ((key, key_place world (left_by world (asked_by_key a)) field a) ∷ rest (left_by world (asked_by_key a)))
  one_key key field asks.Typename world os jobs members rest others within placed =
      members_cons (keeps_whole how) key _ _ (places_under (root_spot scene).object members (map place_in (present os))) (rest world)
      (same_of (keeps_whole how) (typename_place field.pos (root_spot scene).object) (key_place world world field asks.Typename)
      (λ i. record { pos = field.pos; non_null = true; added = []; headers = []; tree = sym (fill-Leaf field.pos (beneath world field) (value.String (root_spot scene).object)) i }))
      (others world os placed)
  one_key key field asks.Nothing world os jobs members rest others within placed =
      members_cons (keeps_whole how) key _ _ (places_under (root_spot scene).object members (map place_in (present os))) (rest world)
      (same_of (keeps_whole how) (absent_place field.pos) (key_place world world field asks.Nothing)
      (λ i. record { pos = field.pos; non_null = false; added = []; headers = []; tree = sym (fill-Absent field.pos (beneath world field)) i }))
      (others world os placed)
  one_key key field (asks.Call resolver ty arguments) world [] jobs members rest others within placed = absurd placed
  one_key key field (asks.Call resolver ty arguments) world (o ∷ os) jobs members rest others within placed =
      let behind = left_by world (asked_by_key (asks.Call resolver ty arguments)) in
      let here = placed.0 in
      let right : Same (keeps_whole how) (place_in here.0) (key_place world behind field (asks.Call resolver ty arguments)) =
      subst (Same (keeps_whole how) (place_in here.0))
      (λ i. place_with field.pos
      (outcome_by true (execution_of (basis_by how scene)) (λ call. serving.answer call world) (root_spot scene).object (root_spot scene).parent (asks.Call resolver ty arguments))
      (λ object parent. below_alike (basis_by how scene) serving.answer world behind n field object parent i))
      (here.2 n within) in
      subst (λ q. SameMembers (keeps_whole how)
      (places_under (root_spot scene).object ((key, record { basis = basis_by how scene; field = field; asks = asks.Call resolver ty arguments }) ∷ members)
      (map place_in (present (q ∷ os))))
      ((key, key_place world behind field (asks.Call resolver ty arguments)) ∷ rest behind)) (sym here.1)
      (members_cons (keeps_whole how) key (place_in here.0) (key_place world behind field (asks.Call resolver ty arguments))
      (places_under (root_spot scene).object members (map place_in (present os))) (rest behind) right (others behind os placed.1))

  -- all of them
  pub keys_are : (fields : List (List ℕ × Positioned Field)) (world : W) (os : List (Option Piece))
      → AllByRecursion (λ field. IsWithin (setting_by (basis_by how scene)) n (own_selections field)) (values_of fields)
      → PlacedInTurn serving world (jobs_of_as true (basis_by how scene) (root_spot scene) fields) os
      → SameMembers (keeps_whole how)
      (places_under (root_spot scene).object (asked_on (basis_by how scene) (root_spot scene).object fields) (map place_in (present os)))
      (in_turn (answering scene serving.answer serving.effect).effect
      (λ before behind field. placed (execution_of (basis_by how scene)) true (λ call. serving.answer call before) (root_spot scene).object (root_spot scene).parent field (beneath behind field))
      world fields)
  keys_are [] world [] within all = members_refl (keeps_whole how) []
  keys_are [] world (o ∷ os) within all = absurd all
  keys_are (member ∷ fields) world os within all =
      let a = asks_of (execution_of (basis_by how scene)) (root_spot scene).object member.1 in
      let same : own_asking member.1 ≡ asked_by_key a = asking_is true (execution_of (basis_by how scene)) (root_spot scene).parent (root_spot scene).object member.1 in
      let rest : W → Members = λ w. in_turn (answering scene serving.answer serving.effect).effect
      (λ before behind field. placed (execution_of (basis_by how scene)) true (λ call. serving.answer call before) (root_spot scene).object (root_spot scene).parent field (beneath behind field))
      w fields in
      subst (SameMembers (keeps_whole how)
      (places_under (root_spot scene).object (asked_on (basis_by how scene) (root_spot scene).object (member ∷ fields)) (map place_in (present os))))
      (λ i. (
        member.0,
        place_with member.1.pos
            (sym (outcome_is true (execution_of (basis_by how scene)) (root_spot scene).parent (λ call. serving.answer call world) (root_spot scene).object member.1) i)
            (beneath (left_by world (sym same i)) member.1),
      ) ∷ rest (left_by world (sym same i)))
      (one_key member.0 member.1 a world os (jobs_of_as true (basis_by how scene) (root_spot scene) fields) (asked_on (basis_by how scene) (root_spot scene).object fields) rest
      (λ w ps. keys_are fields w ps within.1) within.0
      (subst (λ q. PlacedInTurn serving world (job_of (basis_by how scene) (root_spot scene) member.1 q ++ jobs_of_as true (basis_by how scene) (root_spot scene) fields) os) same all))

module _ {V W : Type 0} (how : Grouping) (scene : Scene V) (serving : Serving V W) where
  -- the members of the root are those of the definition
  pub members_in_turn : (world : W) (os : List (Option Piece)) (n : ℕ) → Nests scene n → PlacedInTurn serving world (key_jobs_by how scene) os
      → SameMembers (keeps_whole how)
      (members_with (root_spot scene).object (asked_in_as true (basis_by how scene) (root_spot scene).object (root_selections scene)) (map place_in (present os)))
      (serial_members_by scene serving.answer serving.effect how world n)
  members_in_turn world os zero nests placed = cc
  members_in_turn world os (suc n) nests placed =
      let setting = setting_by (basis_by how scene) in
      let fields : List (Positioned Field) = collected how (basis_by how scene) (root_spot scene).object (root_selections scene) in
      united_same (keeps_whole how) _ _
      (keys_are how scene serving n (keys_by how scene) world os
      (merged_all (λ field. IsWithin setting n (own_selections field)) (λ f g h k. both_within setting n f g h k) setting fields
      (all_collected how (basis_by how scene) (root_spot scene).object (λ field. IsWithin setting n (own_selections field)) (root_selections scene)
      (nests_within setting n (operation_set scene.env.now.operation) nests (root_spot scene).object))) placed)
      (distinct_in_turn (answering scene serving.answer serving.effect).effect
      (λ before behind field. (answering scene serving.answer serving.effect).root before (root_spot scene).object (root_spot scene).parent field (beneath how scene serving n behind field))
      (keys_by how scene) world (distinct_united both [] (keyed (reading setting) fields) tt))

  -- one root key, and the world after it
  one_past : (world : W) (field : Positioned Field) (asking : Option (Asking V)) (jobs : List (Job V))
      → world_past serving job_subject world (job_of (basis_by how scene) (root_spot scene) field asking ++ jobs)
      ≡ world_past serving job_subject (world_of (execution_of (basis_by how scene)) serving.effect world asking) jobs
  one_past world field None jobs = refl
  one_past world field (Some asking) jobs = refl

  keys_past : (fields : List (List ℕ × Positioned Field)) (world : W)
      → world_past serving job_subject world (jobs_of_as true (basis_by how scene) (root_spot scene) fields)
      ≡ world_behind (answering scene serving.answer serving.effect).effect world fields
  keys_past [] world = refl
  keys_past (member ∷ fields) world =
      let asking = field_asking true (execution_of (basis_by how scene)) (root_spot scene).object (root_spot scene).parent member.1 in
      one_past world member.1 asking (jobs_of_as true (basis_by how scene) (root_spot scene) fields)
      ∙ keys_past fields (world_of (execution_of (basis_by how scene)) serving.effect world asking)

  -- the world after the tasks of all root keys is the last one of the definition
  pub last_past : (world : W) → world_past serving job_subject world (key_jobs_by how scene) ≡ last_world_of scene serving.effect world
  last_past world = keys_past (keys_by how scene) world ∙ keys_leave scene serving.effect how world
