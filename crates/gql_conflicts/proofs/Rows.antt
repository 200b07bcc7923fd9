-- Conflicts, computed. All of a document stands in line 1.
use Rattle.std.proofs.Common.{rules, ◌≡◌, ℕ, pos, false, List, [], ◌∷◌, Option, Some, None}
use Rattle.std.specs.Prelude.{codes}
use Rattle.gql_base.specs.declared.pos.Pos.{Pos}
use Rattle.gql_base.specs.declared.type_ref.TypeRef.{TypeRef, the_lemmas as type_lemmas}
use Rattle.gql_base.specs.declared.type_ref.TypeRef.TheVariants as ref
use Rattle.gql_doc.specs.declared.document.Argument.{Argument}
use Rattle.gql_doc.specs.declared.document.DocValue.{DocValue, the_lemmas as doc_lemmas}
use Rattle.gql_doc.specs.declared.document.DocValue.TheVariants as doc
use Rattle.gql_doc.specs.declared.document.Field.{out-Field, roll-Field}
use Rattle.gql_doc.specs.declared.document.InlineFragment.{out-InlineFragment, roll-InlineFragment}
use Rattle.gql_doc.specs.declared.document.Positioned.{Positioned}
use Rattle.gql_doc.specs.declared.document.Selection.{Selection, out-Selection}
use Rattle.gql_doc.specs.declared.document.Selection.TheBlock.{shown-the_row-SelectionSet-items-2-0}
use Rattle.gql_doc.specs.declared.document.Selection.TheVariants as selection
use Rattle.gql_doc.specs.declared.document.SelectionSet.{SelectionSet, roll-SelectionSet}
use denote.Hole.Carrier.{out, roll, shown, hidden}
use Rattle.gql_schema.specs.TableReading.{TypeTable}
use Rattle.gql_schema.specs.declared.field.Field.{Field as ObjectField}
use Rattle.gql_schema.specs.declared.schema_type.SchemaType.{SchemaType}
use Rattle.gql_schema.specs.declared.schema_type.SchemaType.TheVariants as types
use Rattle.gql_conflicts.specs.DocumentConflicts.{conflicts_on}
use Rattle.gql_conflicts.specs.declared.conflict.Conflict.{Conflict}

abbrev at : ℕ → Pos
at column = record { line = 1; column = column }

abbrev placed : {A : Type 0} → ℕ → A → Positioned A
placed column node = record { pos = at column; node = node }

abbrev Selections : Type 0
Selections = List (Positioned Selection)

abbrev set : ℕ → Selections → Positioned SelectionSet
set column selections = placed column (roll-SelectionSet (record { items = selections }))

-- a field by its alias, its name, its arguments and its set
abbrev field : ℕ → Option (Positioned (List ℕ)) → List ℕ → List Argument → Selections → Positioned Selection
field column alias name arguments inner =
    placed column
    (selection.Field
    (placed column (roll-Field (record { alias = alias; name = placed column name; arguments = arguments; directives = []; selection_set = set column inner }))))

-- a field without an alias and arguments, and one without a set under an alias
abbrev plain : ℕ → List ℕ → Selections → Positioned Selection
plain column name inner = field column None name [] inner

abbrev called : ℕ → List ℕ → List ℕ → List Argument → Positioned Selection
called column alias name arguments = field column (Some (placed column alias)) name arguments []

abbrev given : List ℕ → DocValue → Argument
given name written = record { name = placed 1 name; value = placed 1 written }

-- a fragment in place on a type
abbrev on : ℕ → List ℕ → Selections → Positioned Selection
on column condition inner =
    placed column
    (selection.InlineFragment
    (placed column (roll-InlineFragment (record { type_condition = Some (placed column condition); directives = []; selection_set = set column inner }))))

abbrev declared : List ℕ → TypeRef → List ℕ × ObjectField
declared name ty = (name, record { name = name; ty = ty; resolver = 0; arguments = [] })

abbrev object : List ℕ → List (List ℕ × ObjectField) → List ℕ × SchemaType
object name fields = (name, types.Object (record { name = name; fields = fields; interfaces = codes "I" ∷ []; keys = [] }))

-- the fields `o` and `p` of the query are of type A, and `n` is of the interface I, which A and B have
abbrev table : TypeTable
table =
    object (codes "Query") (declared (codes "o") (ref.Named (codes "A")) ∷ declared (codes "p") (ref.Named (codes "A")) ∷ declared (codes "n") (ref.Named (codes "I")) ∷ [])
    ∷ object (codes "A") [] ∷ object (codes "B") [] ∷ (codes "I", types.Interface (record { name = codes "I"; fields = [] })) ∷ []

abbrev of_query : Selections → List Conflict
of_query selections = conflicts_on (record { table = table; query = codes "Query"; mutation = None; subscription = None; entities = false }) [] 4 (codes "Query") selections

abbrev conflict : ℕ → List ℕ → Conflict
conflict column key = record { pos = at column; key = key }

-- { o { k: a } o { k: b } }: the second field conflicts
beneath_merged_sets :
    of_query (plain 3 (codes "o") (called 7 (codes "k") (codes "a") [] ∷ []) ∷ plain 14 (codes "o") (called 18 (codes "k") (codes "b") [] ∷ []) ∷ [])
    ≡ conflict 18 (codes "k") ∷ []
unfolding out-Selection out-Field out-InlineFragment roll-Field roll-InlineFragment out roll shown-the_row-SelectionSet-items-2-0 shown hidden
beneath_merged_sets = search (rules, type_lemmas, doc_lemmas)

-- { x: f(a: 1) x: f(a: 2) }
other_arguments :
    of_query (called 3 (codes "x") (codes "f") (given (codes "a") (doc.Number (pos 1)) ∷ []) ∷ called 16 (codes "x") (codes "f") (given (codes "a") (doc.Number (pos 2)) ∷ []) ∷ [])
    ≡ conflict 16 (codes "x") ∷ []
unfolding out-Selection out-Field out-InlineFragment roll-Field roll-InlineFragment out roll shown-the_row-SelectionSet-items-2-0 shown hidden
other_arguments = search (rules, type_lemmas, doc_lemmas)

-- { x: f(a: null, b: null) x: f(b: null, a: null) }: the order of arguments doesn't count
in_another_order :
    of_query (called 3 (codes "x") (codes "f") (given (codes "a") doc.Null ∷ given (codes "b") doc.Null ∷ [])
    ∷ called 28 (codes "x") (codes "f") (given (codes "b") doc.Null ∷ given (codes "a") doc.Null ∷ []) ∷ [])
    ≡ []
unfolding out-Selection out-Field out-InlineFragment roll-Field roll-InlineFragment out roll shown-the_row-SelectionSet-items-2-0 shown hidden
in_another_order = search (rules, type_lemmas, doc_lemmas)

-- { o { k: a } o: p { k: b } o { k: c } }: under the key `o` only what agrees with its first field is merged
only_what_agrees :
    of_query (plain 3 (codes "o") (called 7 (codes "k") (codes "a") [] ∷ [])
    ∷ field 14 (Some (placed 14 (codes "o"))) (codes "p") [] (called 21 (codes "k") (codes "b") [] ∷ [])
    ∷ plain 28 (codes "o") (called 32 (codes "k") (codes "c") [] ∷ []) ∷ [])
    ≡ conflict 14 (codes "o") ∷ conflict 32 (codes "k") ∷ []
unfolding out-Selection out-Field out-InlineFragment roll-Field roll-InlineFragment out roll shown-the_row-SelectionSet-items-2-0 shown hidden
only_what_agrees = search (rules, type_lemmas, doc_lemmas)

-- { n { ... on A { k: a } ... on B { k: b } } }: no object has both fields
on_two_objects :
    of_query (plain 3 (codes "n") (on 7 (codes "A") (called 18 (codes "k") (codes "a") [] ∷ []) ∷ on 25 (codes "B") (called 36 (codes "k") (codes "b") [] ∷ []) ∷ []) ∷ []) ≡ []
unfolding out-Selection out-Field out-InlineFragment roll-Field roll-InlineFragment out roll shown-the_row-SelectionSet-items-2-0 shown hidden
on_two_objects = search (rules, type_lemmas, doc_lemmas)

-- { n { ... on A { k: a } ... on I { k: b } } }: A has both
on_an_interface :
    of_query (plain 3 (codes "n") (on 7 (codes "A") (called 18 (codes "k") (codes "a") [] ∷ []) ∷ on 25 (codes "I") (called 36 (codes "k") (codes "b") [] ∷ []) ∷ []) ∷ [])
    ≡ conflict 36 (codes "k") ∷ []
unfolding out-Selection out-Field out-InlineFragment roll-Field roll-InlineFragment out roll shown-the_row-SelectionSet-items-2-0 shown hidden
on_an_interface = search (rules, type_lemmas, doc_lemmas)
