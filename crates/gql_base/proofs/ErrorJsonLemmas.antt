-- The members of an error that are there, and texts that are appended one after another.
use Rattle.std.proofs.Common.{◌≡◌, ◌==◌, ℕ, ◌<◌, false, cond, Result, Ok, Err, OnOk, is_ok, List, [], ◌∷◌, ◌++◌, length, Option}
use Rattle.std.proofs.Common.{Some, codes, refl, ap, sym, ◌∙◌, append_assoc, arith}
use Rattle.gql_base.specs.Json.{json}
use Rattle.gql_base.specs.ErrorJson.{list_json, location_json, locations_member, extensions_member}
use Rattle.gql_base.specs.declared.pos.Pos.{Pos}
use Rattle.gql_base.specs.declared.value.Value.{Value}
use Rattle.gql_base.specs.declared.value.Value.TheVariants.{Object}

pub locations-there : (locations : List Pos) → (length locations == 0) ≡ false
    → locations_member locations ≡ codes ",\"locations\":" ++ list_json location_json locations
locations-there [] some = cc
locations-there (pos ∷ others) some = refl

extensions-some : (pairs : List (List ℕ × Value)) → 0 < length pairs
    → extensions_member (Some pairs) ≡ codes ",\"extensions\":" ++ json (Object pairs)
extensions-some [] some = absurd (omega arith)
extensions-some (pair ∷ others) some = refl

pub extensions-there : (extensions : Option (List (List ℕ × Value))) (pairs : List (List ℕ × Value))
    → extensions ≡ Some pairs → 0 < length pairs
    → extensions_member extensions ≡ codes ",\"extensions\":" ++ json (Object pairs)
extensions-there extensions pairs is some = ap extensions_member is ∙ extensions-some pairs some

-- two texts appended one after another
pub two-appended : (start middle end first second whole : List ℕ) → middle ≡ start ++ first → end ≡ middle ++ second
    → whole ≡ first ++ second
    → end ≡ start ++ whole
two-appended start middle end first second whole one two parts =
    two ∙ ap (λ text. text ++ second) one ∙ append_assoc start first second ∙ ap (λ text. start ++ text) (sym parts)

-- what a last call leaves that is answered as it is
pub when-ok : {E : Type 0} (result : Result (Unit {0}) E) (now more old : List ℕ) → now ≡ cond (is_ok result) more old
    → OnOk result (now ≡ more)
when-ok (Ok x) now more old is = is
when-ok (Err e) now more old is = tt

-- six texts
pub six-appended : (start o1 o2 o3 o4 o5 o6 a b c d e f : List ℕ) → o1 ≡ start ++ a → o2 ≡ o1 ++ b → o3 ≡ o2 ++ c
    → o4 ≡ o3 ++ d → o5 ≡ o4 ++ e → o6 ≡ o5 ++ f
    → o6 ≡ start ++ (a ++ (b ++ (c ++ (d ++ (e ++ f)))))
six-appended start o1 o2 o3 o4 o5 o6 a b c d e f h1 h2 h3 h4 h5 h6 =
    two-appended start o1 o6 a _ _ h1
    (two-appended o1 o2 o6 b _ _ h2 (two-appended o2 o3 o6 c _ _ h3 (two-appended o3 o4 o6 d _ _ h4 (two-appended o4 o5 o6 e f _ h5 h6 refl) refl) refl) refl)
    refl
