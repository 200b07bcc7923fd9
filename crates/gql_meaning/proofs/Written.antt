-- Documents, types and answers in short, for the rows that are computed. All of a document stands in line 1.
use Rattle.std.proofs.Common.{rules, ◌≡◌, ℕ, ℤ, true, false, cond, ◌+◌, List, [], ◌∷◌, map, Option, Some, None, get_or, Ok, Err, refl, ap, ◌∙◌}
use Rattle.std.specs.Prelude.{codes}
use Rattle.std.specs.List.{cons_option, filter_map}
use Rattle.gql_base.specs.Pairs.{values_of}
use Rattle.gql_base.specs.declared.error.Error.{Error}
use Rattle.gql_base.specs.declared.pos.Pos.{Pos}
use Rattle.gql_base.specs.declared.type_ref.TypeRef.{TypeRef}
use Rattle.gql_base.specs.declared.value.Value.{Value}
use Rattle.gql_base.specs.declared.value.Value.TheVariants as value
use Rattle.gql_doc.specs.Depth.{Fragments}
use Rattle.gql_doc.specs.declared.document.Argument.{Argument}
use Rattle.gql_doc.specs.declared.document.Directive.{Directive}
use Rattle.gql_doc.specs.declared.document.DocValue.{DocValue}
use Rattle.gql_doc.specs.declared.document.FragmentDefinition.{FragmentDefinition}
use Rattle.gql_doc.specs.declared.document.FragmentSpread.{FragmentSpread}
use Rattle.gql_doc.specs.declared.document.Field.{Field, out-Field, out-roll-Field, roll-Field}
use Rattle.gql_doc.specs.declared.document.InlineFragment.{InlineFragment, out-InlineFragment, out-roll-InlineFragment, roll-InlineFragment}
use Rattle.gql_doc.specs.declared.document.Positioned.{Positioned}
use Rattle.gql_doc.specs.declared.document.Selection.{Selection, the_lemmas}
use Rattle.gql_doc.specs.declared.document.Selection.TheOpen.{Field-F, InlineFragment-F}
use Rattle.gql_doc.specs.declared.document.Selection.TheVariants as selection
use Rattle.gql_doc.specs.declared.document.SelectionSet.{SelectionSet, roll-SelectionSet}
use Rattle.gql_meaning.specs.Counted.{answers_asked, count_as, total}
use Rattle.gql_collect.specs.DeclaredFields.{declared_reading}
use Rattle.gql_collect.specs.Execution.{Execution, setting_in}
use Rattle.gql_meaning.specs.PlaceResponse.{response_at}
use Rattle.gql_meaning.specs.Responses.{Members, placed as place_of, response_apart, response_merged, root_place, Written}
use Rattle.gql_meaning.specs.Served.{Served}
use Rattle.gql_request.specs.declared.response.Response.{Response}
use Rattle.gql_place.specs.Join.{join}
use Rattle.gql_resolve.specs.Call.{Call}
use Rattle.gql_resolve.specs.declared.answer.Answer.{Answer}
use Rattle.gql_resolve.specs.declared.field_value.FieldValue.{FieldValue}
use Rattle.gql_resolve.specs.declared.field_value.FieldValue.TheVariants as kind
use Rattle.gql_schema.specs.TableReading.{TypeTable}
use Rattle.gql_schema.specs.declared.field.Field.{Field as ObjectField}
use Rattle.gql_schema.specs.declared.schema_type.SchemaType.{SchemaType}
use Rattle.gql_schema.specs.declared.schema_type.SchemaType.TheVariants as types
use Rattle.gql_select.specs.Collected.{Setting}
use Rattle.gql_select.specs.Grouped.{Beneath, grouped, Placing, respond}
use Rattle.gql_select.specs.Kept.{if_kept, is_kept, kept, kept_fragments, kept_field, kept_if, kept_inline, kept_selection, kept_set, others}

abbrev pub at : ℕ → Pos
at column = record { line = 1; column = column }

abbrev pub placed : {A : Type 0} → ℕ → A → Positioned A
placed column node = record { pos = at column; node = node }

abbrev pub Selections : Type 0
Selections = List (Positioned Selection)

-- a set of selections
abbrev pub set : ℕ → Selections → Positioned SelectionSet
set column selections = placed column (roll-SelectionSet (record { items = selections }))

-- a field by its alias, its name, its arguments and its set
abbrev pub named : ℕ → Option (Positioned (List ℕ)) → List ℕ → List Argument → Positioned SelectionSet → Positioned Field
named column alias name arguments inner =
    placed column (roll-Field (record { alias = alias; name = placed column name; arguments = arguments; directives = []; selection_set = inner }))

abbrev pub given_field : ℕ → Option (Positioned (List ℕ)) → List ℕ → List Argument → Positioned SelectionSet → Positioned Selection
given_field column alias name arguments inner = placed column (selection.Field (named column alias name arguments inner))

-- a field without alias and arguments
abbrev pub field : ℕ → List ℕ → Positioned SelectionSet → Positioned Selection
field column name inner = given_field column None name [] inner

-- a field without a set, which stands for the empty one
abbrev pub leaf : ℕ → List ℕ → Positioned Selection
leaf column name = field column name (set column [])

abbrev pub argument : List ℕ → DocValue → Argument
argument name written = record { name = placed 1 name; value = placed 1 written }

-- a fragment in place on a type
abbrev pub under_condition : ℕ → List ℕ → Positioned SelectionSet → Positioned InlineFragment
under_condition column condition inner =
    placed column (roll-InlineFragment (record { type_condition = Some (placed column condition); directives = []; selection_set = inner }))

abbrev pub on : ℕ → List ℕ → Positioned SelectionSet → Positioned Selection
on column condition inner = placed column (selection.InlineFragment (under_condition column condition inner))

-- a spread of the fragment of a name
abbrev pub spread : ℕ → List ℕ → Positioned Selection
spread column name = placed column (selection.FragmentSpread (placed column (record { fragment_name = placed (column + 3) name; directives = [] })))

-- the fragment of a name on a type
abbrev pub fragment_on : ℕ → List ℕ → List ℕ → Positioned SelectionSet → List ℕ × Positioned FragmentDefinition
fragment_on column name condition inner = (name, placed column (record { type_condition = placed column condition; directives = []; selection_set = inner }))

-- an object with these fields, which implements these interfaces
abbrev pub object_of : List ℕ → List (List ℕ) → List (List ℕ × ObjectField) → List ℕ × SchemaType
object_of name interfaces fields = (name, types.Object (record { name = name; fields = fields; interfaces = interfaces; keys = [] }))

-- a field of an object, answered by the resolver of this number
abbrev pub answered_by : ℕ → List ℕ → TypeRef → List ℕ × ObjectField
answered_by resolver name ty = (name, record { name = name; ty = ty; resolver = resolver; arguments = [] })

abbrev pub gives : FieldValue ℕ → Answer ℕ
gives given = record { result = Ok (Some given); added = []; headers = [] }

abbrev pub gives_number : ℤ → Answer ℕ
gives_number number = gives (kind.Value (value.Number number))

abbrev pub gives_null : Answer ℕ
gives_null = gives (kind.Value value.Null)

abbrev pub fails : Error → Answer ℕ
fails error = record { result = Err error; added = []; headers = [] }

-- the answers of resolvers by their numbers
abbrev pub by_number : List (Answer ℕ) → Call ℕ → Answer ℕ
by_number answers call = get_or answers call.resolver gives_null

-- an execution over a table with these fragments, without variables and data
abbrev pub over_table : TypeTable → Fragments → Execution
over_table table fragments = record {
  schema = record { table = table; entities = None };
  fragments = fragments;
  levels = 4;
  known = λ name. value.Null;
  layers = [];
  only_introspection = false;
}

-- what these answers serve, in a world of which there is one alone
abbrev pub serves : List (Answer ℕ) → Served ℕ (Unit {0})
serves answers = record { answer = λ call world. by_number answers call; effect = λ call world. world; world = tt }

-- a query for these selections on the object `Query`
abbrev pub query : Execution → Selections → Written ℕ
query execution selections = record {
  execution = execution;
  mutates = false;
  pos = at 1;
  asked = record { object = codes "Query"; parent = kind.Own 0; selections = selections };
}

-- the response to a query for selections on the object `Query`, each key answered once
abbrev pub merged_response : Execution → List (Answer ℕ) → Selections → Response
merged_response execution answers selections = response_merged (serves answers) (query execution selections)

-- the same, each occurrence answered apart
abbrev pub apart_response : Execution → List (Answer ℕ) → Selections → Response
apart_response execution answers selections = response_apart (serves answers) (query execution selections)

-- the response with these members
abbrev pub response : Members → Response
response members = response_at (root_place (at 1) members)

-- how the fields that objects declare become places, read by a setting
abbrev pub placing_in : {P Pl : Type 0} → Execution → Setting → (List ℕ → P → Positioned Field → Beneath (List ℕ) P Pl → Pl)
    → Placing (List ℕ) P (Positioned Field) (Positioned Selection) Pl
placing_in execution setting place = record { reading = declared_reading execution setting; place = place }

-- the responses to what is left of the selections
abbrev pub merged_of : Execution → List (Answer ℕ) → Selections → Response
merged_of execution answers left =
    response
    (grouped (placing_in execution (setting_in execution) (place_of execution false (by_number answers))) execution.levels
    (codes "Query") (kind.Own 0) left)

abbrev pub apart_of : Execution → List (Answer ℕ) → Selections → Response
apart_of execution answers left =
    response
    (respond (placing_in execution (setting_in execution) (place_of execution false (by_number answers))) join execution.levels
    (codes "Query") (kind.Own 0) left)

-- how many answers a query for these selections asks
abbrev pub count : Execution → List (Answer ℕ) → Selections → ℕ
count execution answers selections = answers_asked (serves answers) (query execution selections)

-- the same for what is left of the selections
abbrev pub count_of : Execution → List (Answer ℕ) → Selections → ℕ
count_of execution answers left =
    total
    (values_of
    (grouped (placing_in execution (setting_in execution) (count_as execution (by_number answers) false)) execution.levels
    (codes "Query") (kind.Own 0) left))

module _ (execution : Execution) (answers : List (Answer ℕ)) (selections left : Selections)
    (fragments_stay : kept_fragments execution.known execution.fragments ≡ execution.fragments)
    (is_left : kept execution.known selections ≡ left) where
  pub merged_is : merged_response execution answers selections ≡ merged_of execution answers left
  merged_is = λ i.
      response
      (grouped
      (placing_in execution (record (setting_in execution) { fragments = fragments_stay i }) (place_of execution false (by_number answers)))
      execution.levels (codes "Query") (kind.Own 0) (is_left i))

  pub apart_is : apart_response execution answers selections ≡ apart_of execution answers left
  apart_is = λ i.
      response
      (respond
      (placing_in execution (record (setting_in execution) { fragments = fragments_stay i }) (place_of execution false (by_number answers))) join
      execution.levels (codes "Query") (kind.Own 0) (is_left i))

  pub count_is : count execution answers selections ≡ count_of execution answers left
  count_is = λ i.
      total
      (values_of
      (grouped
      (placing_in execution (record (setting_in execution) { fragments = fragments_stay i }) (count_as execution (by_number answers) false))
      execution.levels (codes "Query") (kind.Own 0) (is_left i)))

-- What is kept where nothing is to be skipped.

filter_map_of_map : {A B C : Type 0} (h : B → Option C) (f : A → B) (xs : List A) → filter_map h (map f xs) ≡ filter_map (λ x. h (f x)) xs
filter_map_of_map h f [] = refl
filter_map_of_map h f (x ∷ xs) = ap (cons_option (h (f x))) (filter_map_of_map h f xs)

-- the field of a name, with these directives and without a set
abbrev pub directed : ℕ → List ℕ → List (Positioned Directive) → Positioned Selection
directed column name directives =
    placed column
    (selection.Field (placed column (roll-Field (record { alias = None; name = placed column name; arguments = []; directives = directives; selection_set = set column [] }))))

-- one level of a field, and of a fragment in place
abbrev FieldParts : Type 0
FieldParts = Field-F Selection Field InlineFragment SelectionSet

abbrev InlineParts : Type 0
InlineParts = InlineFragment-F Selection Field InlineFragment SelectionSet

module _ (known : List ℕ → Value) where
  kept_items : (items : Selections) → kept_set known (roll-SelectionSet (record { items = items })) ≡ roll-SelectionSet (record { items = kept known items })
  kept_items items = search (rules, the_lemmas, filter_map_of_map)

  kept_parts : (parts : FieldParts)
      → kept_field known (roll-Field parts)
      ≡ roll-Field (record parts { selection_set = record { pos = parts.selection_set.pos; node = kept_set known parts.selection_set.node } })
  kept_parts parts = search (rules, the_lemmas)

  kept_inline_parts : (parts : InlineParts)
      → kept_inline known (roll-InlineFragment parts)
      ≡ roll-InlineFragment (record parts { selection_set = record { pos = parts.selection_set.pos; node = kept_set known parts.selection_set.node } })
  kept_inline_parts parts = search (rules, the_lemmas)

  -- a selection by its level
  field_at : ℕ → FieldParts → Option Selection
  field_at column layer = kept_if known layer.directives (selection.Field (placed column (roll-Field (record layer { directives = others layer.directives }))))

  inline_at : ℕ → InlineParts → Option Selection
  inline_at column layer =
      kept_if known layer.directives (selection.InlineFragment (placed column (roll-InlineFragment (record layer { directives = others layer.directives }))))

  selection-Field : (column : ℕ) (field : Field)
      → kept_selection known (selection.Field (placed column field)) ≡ field_at column (out-Field (kept_field known field))
  unfolding field_at
  selection-Field column field = search (rules, the_lemmas)

  selection-Inline : (column : ℕ) (fragment : InlineFragment)
      → kept_selection known (selection.InlineFragment (placed column fragment)) ≡ inline_at column (out-InlineFragment (kept_inline known fragment))
  unfolding inline_at
  selection-Inline column fragment = search (rules, the_lemmas)

  -- a selection that stays before those that stay
  stays : (column : ℕ) (node left : Selection) (rest rest_left : Selections) → kept_selection known node ≡ Some left → kept known rest ≡ rest_left
      → kept known (placed column node ∷ rest) ≡ placed column left ∷ rest_left
  stays column node left rest rest_left is rest_is = λ i. cons_option (if_kept known (placed column (is i))) (rest_is i)

  pub keeps_field : (column : ℕ) (alias : Option (Positioned (List ℕ))) (name : List ℕ) (arguments : List Argument) (place : ℕ) (inner inner_left rest rest_left : Selections)
      → kept known inner ≡ inner_left → kept known rest ≡ rest_left
      → kept known (given_field column alias name arguments (set place inner) ∷ rest) ≡ given_field column alias name arguments (set place inner_left) ∷ rest_left
  unfolding field_at
  keeps_field column alias name arguments place inner inner_left rest rest_left is rest_is =
      let parts : (set : SelectionSet) → FieldParts
      = λ set. record { alias = alias; name = placed column name; arguments = arguments; directives = []; selection_set = placed place set } in
      let start : SelectionSet = roll-SelectionSet (record { items = inner }) in
      stays column (selection.Field (named column alias name arguments (set place inner))) (selection.Field (named column alias name arguments (set place inner_left))) rest rest_left
      (selection-Field column (roll-Field (parts start))
      ∙ ap (λ field. field_at column (out-Field field)) (kept_parts (parts start))
      ∙ ap (field_at column) (out-roll-Field (parts (kept_set known start)))
      ∙ ap (λ set. field_at column (parts set)) (kept_items inner ∙ ap (λ items. roll-SelectionSet (record { items = items })) is))
      rest_is

  pub keeps_on : (column : ℕ) (condition : List ℕ) (place : ℕ) (inner inner_left rest rest_left : Selections) → kept known inner ≡ inner_left → kept known rest ≡ rest_left
      → kept known (on column condition (set place inner) ∷ rest) ≡ on column condition (set place inner_left) ∷ rest_left
  unfolding inline_at
  keeps_on column condition place inner inner_left rest rest_left is rest_is =
      let parts : (set : SelectionSet) → InlineParts
      = λ set. record { type_condition = Some (placed column condition); directives = []; selection_set = placed place set } in
      let start : SelectionSet = roll-SelectionSet (record { items = inner }) in
      stays column (selection.InlineFragment (under_condition column condition (set place inner))) (selection.InlineFragment (under_condition column condition (set place inner_left)))
      rest rest_left
      (selection-Inline column (roll-InlineFragment (parts start))
      ∙ ap (λ fragment. inline_at column (out-InlineFragment fragment)) (kept_inline_parts (parts start))
      ∙ ap (inline_at column) (out-roll-InlineFragment (parts (kept_set known start)))
      ∙ ap (λ set. inline_at column (parts set)) (kept_items inner ∙ ap (λ items. roll-SelectionSet (record { items = items })) is))
      rest_is

  pub keeps_spread : (column : ℕ) (name : List ℕ) (rest rest_left : Selections) → kept known rest ≡ rest_left
      → kept known (spread column name ∷ rest) ≡ spread column name ∷ rest_left
  keeps_spread column name rest rest_left rest_is =
      let one : Positioned FragmentSpread = placed column (record { fragment_name = placed (column + 3) name; directives = [] }) in
      stays column (selection.FragmentSpread one) (selection.FragmentSpread one) rest rest_left (search (rules, the_lemmas)) rest_is

  pub fragment_stays : (column : ℕ) (name condition : List ℕ) (place : ℕ) (inner : Selections) → kept known inner ≡ inner
      → kept_fragments known (fragment_on column name condition (set place inner) ∷ []) ≡ fragment_on column name condition (set place inner) ∷ []
  fragment_stays column name condition place inner is =
      ap (λ node. fragment_on column name condition (placed place node) ∷ []) (kept_items inner ∙ ap (λ items. roll-SelectionSet (record { items = items })) is)

  -- a field with directives that leave it, and one that goes
  directed_is : (column : ℕ) (name : List ℕ) (directives : List (Positioned Directive))
      → kept_selection known (directed column name directives).node
      ≡ kept_if known directives (selection.Field (placed column (roll-Field (record { alias = None; name = placed column name; arguments = []; directives = others directives; selection_set = set column [] }))))
  unfolding field_at
  directed_is column name directives =
      let parts : (set : SelectionSet) → FieldParts
      = λ set. record { alias = None; name = placed column name; arguments = []; directives = directives; selection_set = placed column set } in
      let start : SelectionSet = roll-SelectionSet (record { items = [] }) in
      selection-Field column (roll-Field (parts start))
      ∙ ap (λ field. field_at column (out-Field field)) (kept_parts (parts start))
      ∙ ap (field_at column) (out-roll-Field (parts (kept_set known start)))
      ∙ ap (λ set. field_at column (parts set)) (kept_items [])

  pub directed_stays : (column : ℕ) (name : List ℕ) (directives : List (Positioned Directive)) (rest rest_left : Selections)
      → is_kept known directives ≡ true → others directives ≡ [] → kept known rest ≡ rest_left
      → kept known (directed column name directives ∷ rest) ≡ leaf column name ∷ rest_left
  directed_stays column name directives rest rest_left stays_here gone rest_is =
      stays column (directed column name directives).node (leaf column name).node rest rest_left
      (directed_is column name directives
      ∙ ap (λ b. cond b (Some (directed column name (others directives)).node) None) stays_here
      ∙ ap (λ ds. Some (directed column name ds).node) gone)
      rest_is

  pub directed_goes : (column : ℕ) (name : List ℕ) (directives : List (Positioned Directive)) (rest rest_left : Selections)
      → is_kept known directives ≡ false → kept known rest ≡ rest_left
      → kept known (directed column name directives ∷ rest) ≡ rest_left
  directed_goes column name directives rest rest_left goes_here rest_is = λ i.
      cons_option (if_kept known (placed column ((directed_is column name directives
      ∙ ap (λ b. cond b (Some (directed column name (others directives)).node) None) goes_here) i))) (rest_is i)
