-- Sets that nest: where each fragment is entered once within a set, the walk tells what it tells over all fields.
use Rattle.std.proofs.Common.{◌≡◌, ℕ, zero, suc, Bool, true, false, List, [], ◌∷◌, ◌++◌, map, Some, slice_get, None, refl, ap, sym, subst, ◌∙◌, arith}
use Rattle.std.specs.List.{AllByRecursion, Contains, flat_map}
use Rattle.gql_doc.specs.Depth.{deep_from, operation_set, operations_in}
use Rattle.gql_doc.specs.First.{first_in}
use Rattle.gql_doc.specs.declared.document.ExecutableDocument.{ExecutableDocument}
use Rattle.gql_doc.specs.declared.document.Field.{Field}
use Rattle.gql_doc.specs.declared.document.OperationDefinition.{OperationDefinition}
use Rattle.gql_doc.specs.declared.document.Positioned.{Positioned}
use Rattle.gql_doc.specs.declared.document.Selection.{Selection}
use Rattle.gql_lists.proofs.FirstLemmas.{none_behind, none_here}
use Rattle.gql_select.proofs.ConflictLemmas.{left_out, merged_in}
use Rattle.gql_select.proofs.DocumentLemmas.{is_reading, set_of_both}
use Rattle.gql_select.proofs.FewerConflictLemmas.{conflicts_fewer}
use Rattle.gql_select.proofs.FewerLemmas.{fewer_nests}
use Rattle.gql_select.proofs.OnceLemmas.{leaves_out, nests_of}
use Rattle.gql_select.proofs.ThinLemmas.{each_into}
use Rattle.gql_select.proofs.UnitingLemmas.{either}
use Rattle.gql_select.specs.Alike.{alike}
use Rattle.gql_select.specs.Collected.{Setting, own_selections}
use Rattle.gql_select.specs.Conflicts.{agreeing, both_alike, conflicts, first_differing}
use Rattle.gql_select.specs.Documents.{both, reading}
use Rattle.gql_select.specs.Fewer.{reading_over}
use Rattle.gql_select.specs.Once.{collect_once, nests}
use Rattle.gql_conflicts.specs.DocumentConflicts.{told}
use Rattle.gql_conflicts.specs.Groups.{united}
use Rattle.gql_conflicts.specs.Nested.{AreNested}
use Rattle.gql_conflicts.specs.Nesting.{FieldsNest, GroupsNest, Nests, OperationNests, OperationsNest}
use Rattle.gql_conflicts.specs.Reader.{fields_by, setting_by}
use Rattle.gql_conflicts.specs.Walk.{among_tells, beneath_tells, collected, objects_at, set_tells}
use Rattle.gql_conflicts.specs.declared.conflict.Conflict.{Conflict}
use Rattle.gql_conflicts.specs.declared.group.Group.{Group}
use Rattle.gql_conflicts.specs.declared.reader.Reader.{Reader}
use Rattle.gql_conflicts.proofs.BelowLemmas.{contains_at}

-- what stands at a place is contained
in_at : {A : Type 0} (xs : List A) (i : ℕ) (x : A) → slice_get xs i ≡ Some x → Contains xs x
in_at [] i x at = cc
in_at (y ∷ xs) zero x at = (zero, omega arith, let same : y ≡ x = cc in same)
in_at (y ∷ xs) (suc i) x at = let (k, within, is) = in_at xs i x at in (suc k, omega (arith, within), is)

some_same : {A : Type 0} (x y : A) → Some x ≡ Some y → x ≡ y
some_same x y e = cc

same_head : {A : Type 0} (x y : A) (xs ys : List A) → x ∷ xs ≡ y ∷ ys → x ≡ y
same_head x y xs ys e = cc

same_tail : {A : Type 0} (x y : A) (xs ys : List A) → x ∷ xs ≡ y ∷ ys → xs ≡ ys
same_tail x y xs ys e = cc

-- lists that are the same at each item
flat_all : {A B : Type 0} (h k : A → List B) (P : A → Type 0) → ((x : A) → P x → h x ≡ k x) → (xs : List A) → AllByRecursion P xs
    → flat_map h xs ≡ flat_map k xs
flat_all h k P same [] all = refl
flat_all h k P same (x ∷ xs) all =
    let here = same x all.0 in
    let behind = flat_all h k P same xs all.1 in
    λ i. here i ++ behind i

module _ (reader : Reader) where
  abbrev by : Setting
  by = setting_by reader

  -- the levels suffice for the set of a field
  abbrev Fits : Positioned Field → Type 0
  Fits field = nests by.fragments by.levels (own_selections field) ≡ true

  both_fit : (f g : Positioned Field) → Fits f → Fits g → Fits (both f g)
  both_fit f g one other = ap (nests by.fragments by.levels) (set_of_both f g) ∙ (leaves_out by).together (own_selections f) (own_selections g) one other

  alike_fit : (f g : Positioned Field) → Fits f → Fits g → Fits (both_alike (reading by) f g)
  alike_fit f g one other =
      either (alike f g) (Fits (both_alike (reading by) f g))
      (λ e. subst Fits (sym (merged_in (reading by) (is_reading by) f g e)) (both_fit f g one other))
      (λ e. subst Fits (sym (left_out (reading by) (is_reading by) f g e)) one)

  -- and for what is united of fields for which they suffice
  agreeing_fit : (fields : List (Positioned Field)) → ((field : Positioned Field) → Contains fields field → Fits field)
      → AllByRecursion (λ (m : List ℕ × Positioned Field). Fits m.1) (agreeing (reading by) fields)
  agreeing_fit fields each = each_into (reading by) (both_alike (reading by)) Fits alike_fit [] fields tt each

  -- those of an object's fields do in selections that nest
  pub collected_nest : (object : List ℕ) (selections : List (Positioned Selection)) (fields : List (Positioned Field)) → fields ≡ collected reader object selections
      → Nests reader selections → FieldsNest reader fields
  collected_nest object selections fields is nest = λ place field at so.
      fewer_nests (reading by) (is_reading by) (collect_once by) (nests by.fragments by.levels) (leaves_out by) object selections (nest so) field
      (in_at (collect_once by object selections) place field
      (subst (λ once. slice_get (fields_by once by object selections) place ≡ Some field) so (subst (λ fs. slice_get fs place ≡ Some field) is at)))

  -- so do those of groups
  fit_at : (groups : List Group) (ms : List (List ℕ × Positioned Field)) → map united groups ≡ map (λ (m : List ℕ × Positioned Field). m.1) ms
      → AllByRecursion (λ (m : List ℕ × Positioned Field). Fits m.1) ms
      → (place : ℕ) (group : Group) → slice_get groups place ≡ Some group → Fits (united group)
  fit_at [] ms same all place group at = cc
  fit_at (other ∷ groups) [] same all place group at = cc
  fit_at (other ∷ groups) (m ∷ ms) same all zero group at =
      subst Fits (sym (same_head (united other) m.1 _ _ same) ∙ ap united (some_same other group at)) all.0
  fit_at (other ∷ groups) (m ∷ ms) same all (suc place) group at =
      fit_at groups ms (same_tail (united other) m.1 _ _ same) all.1 place group at

  pub groups_nest : (groups : List Group) (fields : List (Positioned Field))
      → map united groups ≡ map (λ (m : List ℕ × Positioned Field). m.1) (agreeing (reading by) fields)
      → FieldsNest reader fields → GroupsNest reader groups
  groups_nest groups fields same nest = λ place group at so.
      fit_at groups (agreeing (reading by) fields) same (agreeing_fit fields (λ field there. let (i, is) = contains_at fields field there in nest i field is so)) place group at

  module _ (left : ℕ) (object : List ℕ) (selections : List (Positioned Selection)) where
    -- what is told of a key, and beneath it
    abbrev key_tells : List (Positioned Field) → List ℕ × Positioned Field → List Conflict
    key_tells fields m = first_differing (reading by) told m fields ++ beneath_tells reader left object m.1

    abbrev once_tells : List (Positioned Field) → List ℕ × Positioned Field → List Conflict
    once_tells fields m =
        first_differing (reading by) told m fields
        ++ flat_map (λ inner. conflicts (reading_over (reading by) (collect_once by)) told left inner (own_selections m.1)) (objects_at reader object m.1)

    key_same : (fields : List (Positioned Field)) (m : List ℕ × Positioned Field) → Fits m.1 → once_tells fields m ≡ key_tells fields m
    key_same fields m fit =
        λ i. first_differing (reading by) told m fields
        ++ flat_map (λ inner. conflicts_fewer (reading by) (is_reading by) told (collect_once by) (nests by.fragments by.levels) (leaves_out by) left inner
        (own_selections m.1) fit i) (objects_at reader object m.1)

    -- the fields of which each fragment is entered once tell what all fields tell
    once_told : nests by.fragments by.levels selections ≡ true → among_tells reader left object (collect_once by object selections)
        ≡ set_tells reader (suc left) selections object
    once_told nest =
        let fields : List (Positioned Field) = collect_once by object selections in
        sym (flat_all (once_tells fields) (key_tells fields) (λ (m : List ℕ × Positioned Field). Fits m.1) (key_same fields) (agreeing (reading by) fields)
        (agreeing_fit fields
        (fewer_nests (reading by) (is_reading by) (collect_once by) (nests by.fragments by.levels) (leaves_out by) object selections nest)))
        ∙ conflicts_fewer (reading by) (is_reading by) told (collect_once by) (nests by.fragments by.levels) (leaves_out by) (suc left) object selections nest

    by_once : (once : Bool) → (once ≡ true → nests by.fragments by.levels selections ≡ true)
        → among_tells reader left object (fields_by once by object selections) ≡ set_tells reader (suc left) selections object
    by_once true nest = once_told (nest refl)
    by_once false nest = refl

    pub level_told : Nests reader selections → among_tells reader left object (collected reader object selections) ≡ set_tells reader (suc left) selections object
    level_told nest = by_once reader.once nest

  -- the sets of a document's operations nest
  nests_more : (one : Positioned OperationDefinition) (operations : List (Positioned OperationDefinition)) → OperationNests reader one
      → OperationsNest reader operations
      → (place : ℕ) (operation : Positioned OperationDefinition) → slice_get (one ∷ operations) place ≡ Some operation → OperationNests reader operation
  nests_more one operations here behind zero operation at = subst (OperationNests reader) (some_same one operation at) here
  nests_more one operations here behind (suc place) operation at = behind place operation at

  each_nests : (operations : List (Positioned OperationDefinition))
      → (reader.once ≡ true → first_in (λ operation. deep_from reader.fragments.now reader.levels (operation_set operation)) operations ≡ None)
      → OperationsNest reader operations
  each_nests [] nest = λ place operation at. absurd (let bad : None ≡ Some operation = at in cc)
  each_nests (one ∷ operations) nest =
      nests_more one operations (λ so. nests_of reader.fragments.now reader.levels (operation_set one) (none_here _ _ (nest so)))
      (each_nests operations (λ so. none_behind _ _ (nest so)))

  pub document_nests : (document : ExecutableDocument) → reader.fragments.now ≡ document.fragments → (reader.once ≡ true → AreNested document reader.levels)
      → OperationsNest reader (operations_in document.operations)
  document_nests document are nest =
      each_nests (operations_in document.operations)
      (λ so. subst (λ fragments. first_in (λ operation. deep_from fragments reader.levels (operation_set operation)) (operations_in document.operations) ≡ None)
      (sym are) (nest so))
