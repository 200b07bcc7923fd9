-- The parts of a text between its dots.
use Rattle.std.proofs.Common.{◌≡◌, ◌≢◌, ℕ, suc, ◌<◌, List, [], ◌∷◌, ◌++◌, length, get_or, sym, ap, ◌∙◌, arith, append_assoc, append-nil, ne_eqb}
use Rattle.std.specs.List.{list_all}
use Rattle.std.specs.Prelude.{true, ◌&&◌}
use Rattle.gql_base.specs.Letters.{is_name}
use Rattle.gql_form.specs.Path.{dot, parts_from, parts}

abbrev pub LacksDot : List ℕ → Type 0
LacksDot xs = (i : ℕ) → i < length xs → get_or xs i 0 ≢ dot

parts_over : (part xs rest : List ℕ) → LacksDot xs → parts_from part (xs ++ rest) ≡ parts_from (part ++ xs) rest
parts_over part [] rest h = rw append-nil
parts_over part (x ∷ xs) rest h =
    rw (ne_eqb x dot (h 0 (omega arith))) (parts_over (part ++ x ∷ []) xs rest (λ i less. h (suc i) (omega arith)) ∙ rw append_assoc)

pub parts_cut : (xs rest : List ℕ) → LacksDot xs → parts (xs ++ dot ∷ rest) ≡ xs ∷ parts rest
parts_cut xs rest h = parts_over [] xs (dot ∷ rest) h

pub parts_last : (xs : List ℕ) → LacksDot xs → parts xs ≡ xs ∷ []
parts_last xs h = ap (λ l. parts l) (sym (append-nil xs)) ∙ parts_over [] xs [] h

-- whether all parts are names, at a first part and at the last
pub all_cut : (left front behind : List ℕ) → left ≡ front ++ dot ∷ behind → LacksDot front → list_all is_name (parts left) ≡ (is_name front && list_all is_name (parts behind))
all_cut left front behind cut h = ap (λ text. list_all is_name (parts text)) cut ∙ ap (list_all is_name) (parts_cut front behind h)

pub all_last : (left : List ℕ) → LacksDot left → list_all is_name (parts left) ≡ (is_name left && true)
all_last left h = ap (list_all is_name) (parts_last left h)
