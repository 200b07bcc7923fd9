-- The texts of what is refused in a table of types.
use Rattle.std.specs.Prelude.{◌≡◌, ℕ, List, ◌++◌, codes, refl}

-- a name between two texts
abbrev pub around : List ℕ → List ℕ → List ℕ → List ℕ
around front name back = front ++ (name ++ back)

-- two names joined by a dot
abbrev pub dotted : List ℕ → List ℕ → List ℕ
dotted owner name = owner ++ (codes "." ++ name)

abbrev pub not_found_text : List ℕ → List ℕ
not_found_text name = around (codes "Type \"") name (codes "\" not found")

abbrev pub misplaced_text : List ℕ → List ℕ
misplaced_text name = around (codes "Type \"") name (codes "\" cannot be used here")

abbrev pub doubled_text : List ℕ → List ℕ
doubled_text ty = around (codes "Type \"") ty (codes "\" is doubly non-null")

abbrev pub not_nullable_text : List ℕ → List ℕ
not_nullable_text field = around (codes "Field \"") field (codes "\" must be nullable")

abbrev pub has_default_text : List ℕ → List ℕ
has_default_text field = around (codes "Field \"") field (codes "\" must not have a default value")

abbrev pub unsatisfied_text : List ℕ → List ℕ → List ℕ → List ℕ
unsatisfied_text object interface field =
    around (codes "Object \"") object
    (around (codes "\" does not satisfy interface \"") interface
    (around (codes "\" at field \"") field (codes "\"")))

abbrev pub no_object_text : List ℕ → List ℕ → List ℕ
no_object_text union member =
    around (codes "Union \"") union
    (around (codes "\" has member \"") member (codes "\" that is no object"))

abbrev pub self_containing_text : List ℕ → List ℕ
self_containing_text name = around (codes "Input object \"") name (codes "\" contains itself")

abbrev pub unsupported_text : List ℕ → List ℕ
unsupported_text name = around (codes "Type \"") name (codes "\" is not supported")

abbrev pub unfit_text : List ℕ → List ℕ
unfit_text path = around (codes "Default of \"") path (codes "\" does not fit")

pub an_unsatisfied : unsatisfied_text (codes "O") (codes "I") (codes "f")
    ≡ codes "Object \"O\" does not satisfy interface \"I\" at field \"f\""
an_unsatisfied = refl
