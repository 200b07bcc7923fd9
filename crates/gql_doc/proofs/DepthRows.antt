-- How deep the sets of some documents lie, computed. All stand in line 1.
use Rattle.std.proofs.Common.{◌≡◌, ℕ, zero, suc, ◌+◌, List, [], ◌∷◌, Some, None, refl}
use Rattle.std.specs.Prelude.{codes}
use Rattle.gql_base.specs.declared.pos.Pos.{Pos}
use Rattle.gql_doc.specs.declared.document.Positioned.{Positioned}
use Rattle.gql_doc.specs.declared.document.OperationType.TheVariants.{Query}
use Rattle.gql_doc.specs.declared.document.DocumentOperations.TheVariants.{Single}
use Rattle.gql_doc.specs.declared.document.ExecutableDocument.{ExecutableDocument}
use Rattle.gql_doc.specs.declared.document.SelectionSet.{SelectionSet}
use Rattle.gql_doc.specs.declared.document.Selection.{Selection, out-Selection}
use Rattle.gql_doc.specs.declared.document.Selection.TheVariants as selection
use Rattle.gql_doc.specs.declared.document.Field.{out-Field, roll-Field}
use Rattle.gql_doc.specs.declared.document.InlineFragment.{out-InlineFragment, roll-InlineFragment}
use Rattle.gql_doc.specs.declared.document.Selection.TheBlock.{shown-the_row-SelectionSet-items-2-0}
use denote.Hole.Carrier.{out, roll, shown, hidden}
use Rattle.gql_doc.specs.Building.{placed, set_of}
use Rattle.gql_doc.specs.Depth.{Fragments, deep}

abbrev at : ℕ → Pos
at column = record { line = 1; column = column }

abbrev Sets : Type 0
Sets = Positioned SelectionSet

-- a set of selections
abbrev set : ℕ → List (Positioned Selection) → Sets
set column selections = set_of (at column) selections

-- a field of one letter, with a set or with the empty one that stands for none
abbrev field : ℕ → Sets → Positioned Selection
field column inner =
    placed (at column)
    (selection.Field (placed (at column)
    (roll-Field (record { alias = None; name = placed (at column) (codes "a"); arguments = []; directives = []; selection_set = inner }))))

abbrev leaf : ℕ → Positioned Selection
leaf column = field column (set column [])

-- a spread of the fragment F
abbrev spread : ℕ → Positioned Selection
spread column =
    placed (at column)
    (selection.FragmentSpread (placed (at column) (record { fragment_name = placed (at (column + 3)) (codes "F"); directives = [] })))

abbrev inline : ℕ → Sets → Positioned Selection
inline column inner =
    placed (at column)
    (selection.InlineFragment (placed (at column) (roll-InlineFragment (record { type_condition = None; directives = []; selection_set = inner }))))

-- the fragment F, with this set
abbrev f : Sets → Fragments
f inner =
    (codes "F", placed (at 50) (record { type_condition = placed (at 64) (codes "Q"); directives = []; selection_set = inner })) ∷ []

abbrev document : Fragments → Sets → ExecutableDocument
document fragments whole = record {
  operations = Single (placed whole.pos (record { ty = Query; variable_definitions = []; directives = []; selection_set = whole }));
  fragments = fragments;
}

-- {a}: a set without another one within it lies deep enough for the limit 0
lone_set : deep (document [] (set 1 (leaf 2 ∷ []))) 0 ≡ None
unfolding out-Selection out-Field out-InlineFragment roll-Field roll-InlineFragment out roll shown-the_row-SelectionSet-items-2-0 shown hidden
lone_set = refl

-- {a a{a}}: the second field's set
second_field : deep (document [] (set 1 (leaf 2 ∷ field 4 (set 5 (leaf 6 ∷ [])) ∷ []))) 0 ≡ Some (at 5)
unfolding out-Selection out-Field out-InlineFragment roll-Field roll-InlineFragment out roll shown-the_row-SelectionSet-items-2-0 shown hidden
second_field = refl

-- {...F}: nothing is known under the name
unknown_spread : deep (document [] (set 1 (spread 2 ∷ []))) 0 ≡ None
unfolding out-Selection out-Field out-InlineFragment roll-Field roll-InlineFragment out roll shown-the_row-SelectionSet-items-2-0 shown hidden
unknown_spread = refl

-- {...F} fragment F on Q{a}
spread_once : deep (document (f (set 66 (leaf 67 ∷ []))) (set 1 (spread 2 ∷ []))) 0 ≡ Some (at 66)
unfolding out-Selection out-Field out-InlineFragment roll-Field roll-InlineFragment out roll shown-the_row-SelectionSet-items-2-0 shown hidden
spread_once = refl

-- {...F} fragment F on Q{a...F}: the fragment's set lies too deep at last
spread_in_itself : deep (document (f (set 66 (leaf 67 ∷ spread 68 ∷ []))) (set 1 (spread 2 ∷ []))) 3 ≡ Some (at 66)
unfolding out-Selection out-Field out-InlineFragment roll-Field roll-InlineFragment out roll shown-the_row-SelectionSet-items-2-0 shown hidden
spread_in_itself = refl

-- an inline fragment in another, so many times, and in the innermost set a field
abbrev nested : ℕ → ℕ → Sets
nested zero column = set column (leaf (column + 1) ∷ [])
nested (suc n) column = set column (inline (column + 1) (nested n (column + 4)) ∷ [])

-- {...{value}}, with thirty-two and thirty-three inline fragments
thirty_two_levels : deep (document [] (nested 32 1)) 32 ≡ None
unfolding out-Selection out-Field out-InlineFragment roll-Field roll-InlineFragment out roll shown-the_row-SelectionSet-items-2-0 shown hidden
thirty_two_levels = refl

thirty_three_levels : deep (document [] (nested 33 1)) 32 ≡ Some (at 133)
unfolding out-Selection out-Field out-InlineFragment roll-Field roll-InlineFragment out roll shown-the_row-SelectionSet-items-2-0 shown hidden
thirty_three_levels = refl
