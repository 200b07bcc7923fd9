-- The operation of an admitted request has no conflicts: its document has none.
use Rattle.std.proofs.Common.{rules, ◌≡◌, ◌&&◌, ◌++◌, ℕ, suc, Bool, true, false, List, [], ◌∷◌, map, Option, Some, None, Result, Ok, Err, option_map, refl, ap, sym, subst, ◌∙◌, if◌then◌else◌}
use Rattle.std.specs.Prelude.{codes, option_and_then}
use Rattle.std.specs.Cmp.Lexicographic.{bytes_decides}
use Rattle.std.specs.List.{Contains, flat_map}
use Rattle.std.specs.Option.{is_some}
use Rattle.std.specs.Str.{bytes_eq}
use Rattle.gql_base.specs.Pairs.{names_of, under, values_of}
use Rattle.gql_base.specs.TypeRef.{innermost}
use Rattle.gql_base.specs.declared.pos.Pos.{Pos}
use Rattle.gql_base.specs.declared.server_error.ServerError.{ServerError}
use Rattle.gql_base.specs.declared.type_ref.TypeRef.{the_lemmas}
use Rattle.gql_base.specs.declared.type_ref.TypeRef.TheVariants as ref
use Rattle.gql_doc.specs.Depth.{deep, Fragments, operation_set, operations_in, selections_of}
use Rattle.gql_doc.specs.declared.document.DocumentOperations.{DocumentOperations}
use Rattle.gql_doc.specs.declared.document.DocumentOperations.TheVariants.{Multiple, Single}
use Rattle.gql_doc.specs.declared.document.ExecutableDocument.{ExecutableDocument}
use Rattle.gql_doc.specs.declared.document.OperationDefinition.{OperationDefinition}
use Rattle.gql_doc.specs.declared.document.OperationType.{OperationType}
use Rattle.gql_doc.specs.declared.document.OperationType.TheVariants as kinds
use Rattle.gql_doc.specs.declared.document.Positioned.{Positioned}
use Rattle.gql_doc.specs.declared.fault.ParseFault.{ParseFault}
use Rattle.gql_fields.specs.Terms.{Terms}
use Rattle.gql_fields.specs.declared.breach.Breach.{Breach}
use Rattle.gql_rules.specs.Asked.{Asked}
use Rattle.gql_rules.specs.ChosenOperation.{chosen, named, only, Operation}
use Rattle.gql_rules.specs.FieldMerging.{conflict_breach, rooted_in}
use Rattle.gql_rules.specs.RulesChecked.{conflicting, IsChecked, refused_with}
use Rattle.gql_rules.proofs.BreachLemmas.{first_in, none_in}
use Rattle.gql_admit.specs.Choice.{choice, choice_of, with_fragments}
use Rattle.gql_admit.specs.Limits.{refused_by}
use Rattle.gql_admit.specs.Refusal.{depth_error}
use Rattle.gql_admit.specs.Stages.{asked_by, both_pass, directives_limited, given_by_rules, IsLimited, IsRead, limits_checked, settled, StagesGive}
use Rattle.gql_admit.specs.declared.chosen.Chosen.{Chosen}
use Rattle.gql_conflicts.specs.DocumentConflicts.{conflicts_at, document_conflicts, IsConflict, operation_conflicts, told}
use Rattle.gql_conflicts.specs.Rooted.{object_named as root_named, objects_beneath, objects_of as objects_at, Rooted, root_of, setting_of as setting_at}
use Rattle.gql_conflicts.specs.declared.conflict.Conflict.{Conflict}
use Rattle.gql_collect.specs.Execution.{setting_in}
use Rattle.gql_collect.specs.TableSetting.{entities_field, field_in, objects_of}
use Rattle.gql_request.specs.declared.request.Request.{Request}
use Rattle.gql_meaning.specs.Laws.{HasNoConflicts}
use Rattle.gql_schema.specs.Keyed.{IsKeyed}
use Rattle.gql_schema.specs.Object.{object_name}
use Rattle.gql_schema.specs.Table.{types_of}
use Rattle.gql_schema.specs.TableReading.{Declared, field, has_type, possible, TypeTable}
use Rattle.gql_schema.specs.Types.{type_name}
use Rattle.gql_schema.specs.declared.object.Object.{Object}
use Rattle.gql_schema.specs.declared.schema_type.SchemaType.{SchemaType}
use Rattle.gql_schema.specs.declared.schema_type.SchemaType.TheVariants as types
use Rattle.gql_select.specs.Collected.{Setting}
use Rattle.gql_select.specs.Conflicts.{conflicts}
use Rattle.gql_select.specs.Documents.{reading}
use Rattle.gql_exec.specs.Admission.{terms_for}
use Rattle.gql_exec.specs.Admitted.{IsAdmitted}
use Rattle.gql_exec.specs.Root.{object_in, object_named, or_text, root_for, root_object}
use Rattle.gql_exec.specs.Schema.{settings_of, types_in}
use Rattle.gql_exec.specs.Written.{written_of}
use Rattle.gql_settings.specs.Settings.{entities_for}
use Rattle.gql_exec.specs.declared.dynamic_request.DynamicRequest.{DynamicRequest}
use Rattle.gql_exec.specs.declared.schema.Schema.{Schema}

-- Which objects are possible under a field: conflicts are looked for on those that an execution knows.

entity_innermost : innermost (ref.NonNull (ref.List (ref.Named (codes "_Entity")))) ≡ codes "_Entity"
entity_innermost = search (rules, the_lemmas)

objects_alike : (table : TypeTable) (found : Option Declared) → objects_of table found ≡ objects_at table found
objects_alike table None = refl
objects_alike table (Some declared) = refl

module _ (table : TypeTable) (query : List ℕ) (mutation subscription : Option (List ℕ)) where
  -- the table with its roots, where entities are found by this resolver, if there is one
  abbrev rooted_by : Option ℕ → Rooted
  rooted_by resolver = record { table = table; query = query; mutation = mutation; subscription = subscription; entities = is_some resolver }

  beneath_alike : (resolver : Option ℕ) (object name : List ℕ)
      → objects_of table (field_in (record { table = table; entities = option_map (λ r. record { root = query; resolver = r }) resolver }) object name)
      ≡ objects_beneath (rooted_by resolver) object name
  beneath_alike None object name = objects_alike table (field table object name)
  beneath_alike (Some r) object name =
      elim (bytes_eq name (codes "_entities") && bytes_eq object query) as (λ (t : Bool).
      objects_of table (if t then Some (entities_field (record { root = query; resolver = r })) else field table object name)
      ≡ (if t then possible table (codes "_Entity") else objects_at table (field table object name))) [
        | true ↦ ap (possible table) entity_innermost
        | false ↦ objects_alike table (field table object name)
      ]

-- The root of an operation.

keyed_first : (p : List ℕ × SchemaType) (ps : TypeTable) → IsKeyed type_name (p ∷ ps) → p.0 ≡ type_name p.1
keyed_first p ps keyed = let both : p.0 ∷ names_of ps ≡ type_name p.1 ∷ map (λ (q : List ℕ × SchemaType). type_name q.1) ps = keyed in cc

keyed_behind : (p : List ℕ × SchemaType) (ps : TypeTable) → IsKeyed type_name (p ∷ ps) → IsKeyed type_name ps
keyed_behind p ps keyed = let both : p.0 ∷ names_of ps ≡ type_name p.1 ∷ map (λ (q : List ℕ × SchemaType). type_name q.1) ps = keyed in cc

keyed_at : (table : TypeTable) → IsKeyed type_name table → (name : List ℕ) (ty : SchemaType) → under name table ≡ Some ty → name ≡ type_name ty
keyed_at [] keyed name ty is = absurd (cc)
keyed_at (p ∷ ps) keyed name ty is =
    (elim (bytes_eq name p.0) as (λ (t : Bool). (t ≡ true → name ≡ p.0) → (if t then Some p.1 else under name ps) ≡ Some ty → name ≡ type_name ty) [
      | true ↦ λ same found.
          let own : p.0 ≡ type_name p.1 = keyed_first p ps keyed in
          let there : Some p.1 ≡ Some ty = found in
          let here : p.1 ≡ ty = cc in
          same refl ∙ own ∙ ap type_name here
      | false ↦ λ same found. keyed_at ps (keyed_behind p ps keyed) name ty found
    ]) (bytes_decides name p.0).0 is

module _ (table : TypeTable) (keyed : IsKeyed type_name table) (object : Object) where
  by_type : (name : List ℕ) (ty : SchemaType) → under name table ≡ Some ty → object_in ty ≡ Some object → root_named table name ≡ Some (object_name object)
  by_type name (types.Object found) is in_it =
      let same : found ≡ object = cc in
      let own : name ≡ object_name found = keyed_at table keyed name (types.Object found) is in
      rw is (ap Some (own ∙ ap object_name same))
  by_type name (types.Scalar scalar) is in_it = absurd (cc)
  by_type name (types.InputObject input) is in_it = absurd (cc)
  by_type name (types.Enum enum) is in_it = absurd (cc)
  by_type name (types.Interface interface) is in_it = absurd (cc)
  by_type name (types.Union union) is in_it = absurd (cc)
  by_type name (types.Subscription subscription) is in_it = absurd (cc)

  by_found : (name : List ℕ) (found : Option SchemaType) → under name table ≡ found → option_and_then object_in found ≡ Some object
      → root_named table name ≡ Some (object_name object)
  by_found name None is in_it = absurd (cc)
  by_found name (Some ty) is in_it = by_type name ty is in_it

or_ok : {A : Type 0} (text : List ℕ) (o : Option A) (x : A) → or_text text o ≡ Ok x → o ≡ Some x
or_ok text None x is = absurd (cc)
or_ok text (Some y) x is = let same : y ≡ x = cc in ap Some same

module _ (schema : Schema) (request : Request) where
  abbrev terms : Terms
  terms = terms_for schema request.introspection_mode

  by_name : (o : Option (List ℕ)) (object : Object) → IsKeyed type_name terms.table → option_and_then (object_named schema) o ≡ Some object
      → option_and_then (root_named terms.table) o ≡ Some (object_name object)
  by_name None object keyed is = absurd (cc)
  by_name (Some name) object keyed is = by_found terms.table keyed object name (under name terms.table) refl is

  -- the root of an operation that is executed is the one on which its conflicts are looked for
  root_is : (ty : OperationType) (object : Object) → IsKeyed type_name terms.table → root_for schema ty ≡ Ok object
      → root_of (rooted_in terms) ty ≡ Some (object_name object)
  root_is kinds.Query object keyed is =
      by_name (Some (settings_of schema).query) object keyed (or_ok (codes "Query root not found") (root_object schema kinds.Query) object is)
  root_is kinds.Mutation object keyed is =
      by_name (settings_of schema).mutation object keyed (or_ok (codes "Mutation root not found") (root_object schema kinds.Mutation) object is)
  root_is kinds.Subscription object keyed is = absurd (cc)

-- A document without breaches has no conflicts.

all_none : {A : Type 0} (xs : List A) → ((x : A) → Contains xs x → ⊥) → xs ≡ []
all_none [] none = refl
all_none (x ∷ xs) none = absurd (none x (first_in x xs))

refused_none : (breaches : List Breach) (passed : Unit {0}) → Ok passed ≡ refused_with breaches → breaches ≡ []
refused_none [] passed is = refl
refused_none (found ∷ others) passed is = absurd (cc)

module _ (terms : Terms) (asked : Asked) (document : ExecutableDocument) where
  no_conflicts : (passed : Unit {0}) → deep document terms.depth ≡ None → IsChecked terms asked document (Ok passed)
      → document_conflicts (rooted_in terms) document (suc terms.depth) ≡ []
  no_conflicts passed within checked = all_none (document_conflicts (rooted_in terms) document (suc terms.depth)) none
    where
      none : (conflict : Conflict) → IsConflict (rooted_in terms) document (suc terms.depth) conflict → ⊥
      none conflict stands =
          none_in (conflict_breach conflict) ⊥
          (subst (λ breaches. Contains breaches (conflict_breach conflict)) (refused_none checked.breaches passed checked.answer)
          ((checked.all.exact (conflict_breach conflict)).1
          (conflicting (record { levels = suc terms.depth; nests = record { none = within }; conflict = conflict; stands = stands; is = refl }))))

-- the first of two checks passes where both do
first_passes : (tell : Pos → ServerError) (found : Option Pos) (second : Result (Unit {0}) ServerError) (passed : Unit {0})
    → both_pass (refused_by tell found) second ≡ Ok passed → found ≡ None
first_passes tell None second passed is = refl
first_passes tell (Some place) second passed is = absurd (cc)

append_none : {A : Type 0} (xs ys : List A) → xs ++ ys ≡ [] → (xs ≡ []) × (ys ≡ [])
append_none [] ys is = (refl, is)
append_none (x ∷ xs) ys is = absurd (cc)

-- nothing is told of a chosen operation where nothing is told of any
module _ {E : Type 0} (tells : Positioned OperationDefinition → List E) where
  NoneOf : Option Operation → Type 0
  NoneOf None = Unit {0}
  NoneOf (Some operation) = tells operation.1 ≡ []

  none_under : (name : List ℕ) (pairs : List (List ℕ × Positioned OperationDefinition)) → flat_map tells (values_of pairs) ≡ []
      → NoneOf (option_map (named name) (under name pairs))
  unfolding NoneOf
  none_under name [] none = tt
  none_under name (p ∷ ps) none =
      elim (bytes_eq name p.0) as (λ (b : Bool). NoneOf (option_map (named name) (if b then Some p.1 else under name ps))) [
        | true ↦ (append_none (tells p.1) (flat_map tells (values_of ps)) none).0
        | false ↦ none_under name ps (append_none (tells p.1) (flat_map tells (values_of ps)) none).1
      ]

  none_only : (pairs : List (List ℕ × Positioned OperationDefinition)) → flat_map tells (values_of pairs) ≡ [] → NoneOf (only pairs)
  unfolding NoneOf
  none_only [] none = tt
  none_only (p ∷ []) none = (append_none (tells p.1) [] none).0
  none_only (p ∷ (q ∷ ps)) none = tt

  none_chosen : (operations : DocumentOperations) (name : Option (List ℕ)) → flat_map tells (operations_in operations) ≡ [] → NoneOf (chosen operations name)
  unfolding NoneOf
  none_chosen (Single operation) None none = (append_none (tells operation) [] none).0
  none_chosen (Single operation) (Some name) none = tt
  none_chosen (Multiple operations) None none = none_only operations none
  none_chosen (Multiple operations) (Some name) none = none_under name operations none

  none_by_choice : (fragments : Fragments) (name : Option (List ℕ)) (o : Option Operation) (answer : Chosen) → NoneOf o → choice_of fragments name o ≡ Ok answer
      → (tells answer.operation ≡ []) × (answer.fragments ≡ fragments)
  unfolding NoneOf
  none_by_choice fragments name None answer none is = absurd (cc)
  none_by_choice fragments name (Some operation) answer none is =
      let same : with_fragments fragments operation ≡ answer = cc in
      (ap (λ (a : Chosen). tells a.operation) (sym same) ∙ none, ap (λ (a : Chosen). a.fragments) (sym same))

-- What is known of an operation that the stages give.

module _ (terms : Terms) (request : Request) where
  -- the operation has no conflicts
  abbrev IsClean : Chosen → Type 0
  IsClean given = operation_conflicts (rooted_in terms) given.fragments (suc terms.depth) given.operation ≡ []

  from_choice : (given : Chosen) (document : ExecutableDocument) (o : Result Chosen ServerError) → choice document request.operation_name ≡ o
      → Ok given ≡ settled o → document_conflicts (rooted_in terms) document (suc terms.depth) ≡ [] → IsClean given
  from_choice given document (Err error) is same none = absurd (cc)
  from_choice given document (Ok found) is same none =
      let tells : Positioned OperationDefinition → List Conflict = operation_conflicts (rooted_in terms) document.fragments (suc terms.depth) in
      let at : (tells found.operation ≡ []) × (found.fragments ≡ document.fragments)
      = none_by_choice tells document.fragments request.operation_name (chosen document.operations request.operation_name) found
      (none_chosen tells document.operations request.operation_name none) is in
      let one : given ≡ found = cc in
      subst IsClean (sym one) (ap (λ fs. operation_conflicts (rooted_in terms) fs (suc terms.depth) found.operation) at.1 ∙ at.0)

  from_checked : (given : Chosen) (document : ExecutableDocument) (checked : Result (Unit {0}) (List ServerError)) → deep document terms.depth ≡ None
      → IsChecked terms (asked_by request) document checked → Ok given ≡ given_by_rules request document checked → IsClean given
  from_checked given document (Ok passed) within rules same =
      from_choice given document (choice document request.operation_name) refl same (no_conflicts terms (asked_by request) document passed within rules)
  from_checked given document (Err errors) within rules same = absurd (cc)

  from_limited : (given : Chosen) (document : ExecutableDocument) (limited : Result (Unit {0}) ServerError) → limits_checked terms document ≡ limited
      → IsLimited terms request document limited (Ok given) → IsClean given
  from_limited given document (Ok passed) limits is =
      from_checked given document is.checked
      (first_passes (depth_error terms.depth) (deep document terms.depth) (directives_limited document terms.depth terms.directives) passed limits)
      is.rules is.answer
  from_limited given document (Err error) limits is = absurd (cc)

  from_read : (given : Chosen) (read : Result ExecutableDocument ParseFault) → IsRead terms request read (Ok given) → IsClean given
  from_read given (Ok document) is = from_limited given document (limits_checked terms document) refl is
  from_read given (Err fault) is = absurd (cc)

  clean : (given : Chosen) → StagesGive terms request (Ok given) → IsClean given
  clean given stages = from_read given stages.read stages.answer

module _ {V : Type 0} (schema : Schema) (request : DynamicRequest V) (admitted : IsAdmitted schema request.inner) where
  -- conflicts are looked for where fields are read for the execution
  settings_alike : setting_at (rooted_in (terms_for schema request.inner.introspection_mode)) admitted.chosen.fragments (suc (settings_of schema).depth)
      ≡ setting_in (written_of schema request admitted).execution
  settings_alike =
      let settings = settings_of schema in
      let table = types_of (types_in schema) in
      λ i. record {
        fragments = admitted.chosen.fragments;
        levels = suc settings.depth;
        covers = has_type table;
        beneath = λ on name. sym (beneath_alike table settings.query settings.mutation settings.subscription
            (entities_for settings request.inner.introspection_mode) on name) i;
      }

  pub no_conflicts_written : HasNoConflicts told (written_of schema request admitted)
  no_conflicts_written =
      let terms = terms_for schema request.inner.introspection_mode in
      let rooted = rooted_in terms in
      let given = admitted.chosen in
      let object = object_name admitted.object in
      let set = selections_of (operation_set given.operation) in
      let at_root : root_of rooted given.operation.node.ty ≡ Some object
      = root_is schema request.inner given.operation.node.ty admitted.object schema.is_keyed admitted.root in
      let none : conflicts_at rooted given.fragments (suc terms.depth) (Some object) set ≡ []
      = ap (λ o. conflicts_at rooted given.fragments (suc terms.depth) o set) (sym at_root) ∙ clean terms request.inner given admitted.stages in
      ap (λ (s : Setting). conflicts (reading s) told (suc terms.depth) object set) (sym settings_alike) ∙ none
