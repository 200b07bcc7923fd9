-- Occurrences as groups of their own, one after another.
use Rattle.std.proofs.Common.{◌≡◌, ℕ, ◌+◌, List, [], ◌∷◌, ◌++◌, length, map, refl, ap, sym, ◌∙◌, arith, append_assoc}
use Rattle.std.proofs.lemmas.List.{length-map, map-append}
use Rattle.std.specs.Borrow.{Bor}
use Rattle.std.specs.List.{zip}
use Rattle.gql_doc.specs.declared.document.Field.{Field}
use Rattle.gql_doc.specs.declared.document.Positioned.{Positioned}
use Rattle.gql_collect.specs.KeyNames.{key_text}
use Rattle.gql_select.specs.Collected.{Setting}
use Rattle.gql_select.specs.Documents.{reading}
use Rattle.gql_select.specs.Reading.{keyed}
use Rattle.gql_select.specs.Behind.{all_behind}
use Rattle.gql_collect.specs.Groups.{under_names, united}
use Rattle.gql_collect.specs.declared.group.Group.{Group}

zip_last : {T : Type 0} (names : List (List ℕ)) (values : List T) (name : List ℕ) (value : T) → length values ≡ length names
    → zip (names ++ name ∷ []) (values ++ value ∷ []) ≡ zip names values ++ (name, value) ∷ []
zip_last [] [] name value long = refl
zip_last [] (v ∷ values) name value long = absurd (omega arith)
zip_last (n ∷ names) [] name value long = absurd (omega arith)
zip_last (n ∷ names) (v ∷ values) name value long = ap (λ ps. (n, v) ∷ ps) (zip_last names values name value (let e : length values ≡ length names = omega arith in e))

-- an occurrence is a group of its own after the others
pub group_alone : (names names' : List (List ℕ)) (groups groups' : List Group) (name : List ℕ) (group : Group) (field : Positioned Field)
    → length groups ≡ length names → names' ≡ names ++ name ∷ [] → groups' ≡ groups ++ group ∷ [] → name ≡ key_text field → united group ≡ field
    → under_names names' groups' ≡ under_names names groups ++ (key_text field, field) ∷ []
group_alone names names' groups groups' name group field paired named grouped key is =
    (λ i. zip (named i) (map united (grouped i)))
    ∙ ap (zip (names ++ name ∷ [])) (map-append united groups (group ∷ []))
    ∙ zip_last names (map united groups) name (united group) (length-map groups united ∙ paired)
    ∙ (λ i. under_names names groups ++ (key i, is i) ∷ [])

-- one more occurrence is looked at
pub alone_more : (setting : Setting) (members members' all : List (List ℕ × Positioned Field)) (its rest : List (Bor (Positioned Field)))
    (f : Bor (Positioned Field)) → its ≡ f ∷ rest
    → members' ≡ members ++ (key_text f.now, f.now) ∷ []
    → members ++ keyed (reading setting) (all_behind its) ≡ all
    → members' ++ keyed (reading setting) (all_behind rest) ≡ all
alone_more setting members members' all its rest f is added before =
    ap (λ ms. ms ++ keyed (reading setting) (all_behind rest)) added
    ∙ append_assoc members ((key_text f.now, f.now) ∷ []) (keyed (reading setting) (all_behind rest))
    ∙ ap (λ xs. members ++ keyed (reading setting) (all_behind xs)) (sym is)
    ∙ before
