-- The fields of a name among others, looked for one after another.
use Rattle.std.proofs.Common.{◌≡◌, ℕ, List, [], ◌∷◌, ◌++◌, ap, sym, ◌∙◌}
use Rattle.std.proofs.lemmas.List.{append-nil, append_assoc}
use Rattle.std.proofs.lemmas.List.Elements.{filter-append}
use Rattle.std.specs.Str.{bytes_eq}
use Rattle.gql_resolve.specs.Beneath.{Seen, name_of, named}

-- the next field is looked at
pub named_more : (name : List ℕ) (before new whole left rest : List Seen) (x : Seen) → before ++ named name left ≡ whole → left ≡ x ∷ rest
    → new ≡ before ++ named name (x ∷ []) → new ++ named name rest ≡ whole
named_more name before new whole left rest x so is more =
    ap (λ xs. xs ++ named name rest) more
    ∙ append_assoc before (named name (x ∷ [])) (named name rest)
    ∙ ap (λ xs. before ++ xs) (sym (filter-append (λ (seen : Seen). bytes_eq (name_of seen.field) name) (x ∷ []) rest))
    ∙ sym (ap (λ xs. before ++ named name xs) is)
    ∙ so

-- all are looked at
pub named_whole : (name : List ℕ) (before whole left : List Seen) → before ++ named name left ≡ whole → left ≡ [] → before ≡ whole
named_whole name before whole left so none = sym (append-nil before) ∙ sym (ap (λ xs. before ++ named name xs) none) ∙ so
