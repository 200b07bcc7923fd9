-- What is told of fields, conditions, spreads, directives and arguments.
use Rattle.std.specs.Prelude.{ℕ, List, ◌++◌, codes}

-- a condition on no object, interface or union
unfoldable pub condition_text : List ℕ → List ℕ
condition_text name =
    codes "Fragment condition \"" ++ (name ++ codes "\" is no object, interface or union.")

-- a field that a type hasn't
unfoldable pub unknown_field_text : List ℕ → List ℕ → List ℕ
unknown_field_text name parent =
    codes "Unknown field \"" ++ (name ++ (codes "\" on type \"" ++ (parent ++ codes "\".")))

-- a leaf with a set, by the field's type
unfoldable pub leaf_text : List ℕ → List ℕ → List ℕ
leaf_text name ty =
    codes "Field \""
    ++ (name ++ (codes "\" of type \"" ++ (ty ++ codes "\" must not have a selection.")))

-- another type without one
unfoldable pub composite_text : List ℕ → List ℕ → List ℕ
composite_text name ty =
    codes "Field \""
    ++ (name ++ (codes "\" of type \"" ++ (ty ++ codes "\" must have a selection.")))

-- a spread of a fragment that isn't there
unfoldable pub unknown_fragment_text : List ℕ → List ℕ
unknown_fragment_text name = codes "Unknown fragment \"" ++ (name ++ codes "\".")

-- a directive that isn't known where it stands
unfoldable pub unknown_directive_text : List ℕ → List ℕ
unknown_directive_text name = codes "Directive \"" ++ (name ++ codes "\" is not known here.")

-- an argument that a field doesn't declare, and one that a directive doesn't
unfoldable pub unknown_of_field_text : (argument field parent : List ℕ) → List ℕ
unknown_of_field_text argument field parent =
    codes "Unknown argument \""
    ++ (argument
    ++ (codes "\" on field \"" ++ (field ++ (codes "\" of type \"" ++ (parent ++ codes "\".")))))

unfoldable pub unknown_of_directive_text : (argument directive : List ℕ) → List ℕ
unknown_of_directive_text argument directive =
    codes "Unknown argument \""
    ++ (argument ++ (codes "\" on directive \"" ++ (directive ++ codes "\".")))

-- an argument that a field wants, and one that a directive wants
unfoldable pub missing_of_field_text : (argument field : List ℕ) → List ℕ
missing_of_field_text argument field =
    codes "Argument \""
    ++ (argument ++ (codes "\" of field \"" ++ (field ++ codes "\" is required.")))

unfoldable pub missing_of_directive_text : (argument directive : List ℕ) → List ℕ
missing_of_directive_text argument directive =
    codes "Argument \""
    ++ (argument ++ (codes "\" of directive \"" ++ (directive ++ codes "\" is required.")))

-- an argument that is given before in the same list
unfoldable pub doubled_text : List ℕ → List ℕ
doubled_text name = codes "Argument \"" ++ (name ++ codes "\" is given twice.")

-- an argument with a literal that doesn't fit, and the reason
unfoldable pub invalid_text : (argument reason : List ℕ) → List ℕ
invalid_text argument reason =
    codes "Invalid value for argument \"" ++ (argument ++ (codes "\", " ++ reason))

-- the reasons: the type that was expected, and the number of members of a oneof input object
unfoldable pub expected_text : List ℕ → List ℕ
expected_text ty = codes "expected type \"" ++ (ty ++ codes "\"")

abbrev pub one_field_text : List ℕ
one_field_text = codes "Oneof input objects requires have exactly one field"
