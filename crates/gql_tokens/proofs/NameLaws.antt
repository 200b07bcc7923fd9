-- The characters of names.
use Rattle.std.proofs.Common.{◌≡◌, ℕ, Bool, true, false, List, [], ◌∷◌, refl, arith}
use Rattle.std.specs.Prelude.{◌&&◌}
use Rattle.std.specs.List.{list_all}
use Rattle.std.proofs.lemmas.Bool.Decides.{nat_tests}
use Rattle.gql_base.specs.Letters.{is_name_start, is_name_part}
use Rattle.gql_tokens.specs.Characters.{begins}
use Rattle.gql_tokens.specs.Name.{IsName}
use Rattle.gql_tokens.proofs.Lists.{Each}

both_hold : (a b : Bool) → (a && b) ≡ true → (a ≡ true) × (b ≡ true)
both_hold true b h = (refl, h)
both_hold false b h = absurd cc

holds_both : (a b : Bool) → a ≡ true → b ≡ true → (a && b) ≡ true
holds_both true b h k = k
holds_both false b h k = absurd cc

all_each : (test : ℕ → Bool) (cs : List ℕ) → list_all test cs ≡ true → Each test cs
all_each test [] h = tt
all_each test (c ∷ cs) h = let both = both_hold (test c) (list_all test cs) h in (both.0, all_each test cs both.1)

each_all : (test : ℕ → Bool) (cs : List ℕ) → Each test cs → list_all test cs ≡ true
each_all test [] h = refl
each_all test (c ∷ cs) h = holds_both (test c) (list_all test cs) h.0 (each_all test cs h.1)

pub name_start_part : (c : ℕ) → is_name_start c ≡ true → is_name_part c ≡ true
name_start_part c h = grind (arith, nat_tests)

pub name_begins : (cs : List ℕ) → IsName cs → begins is_name_start cs ≡ true
name_begins [] h = h
name_begins (c ∷ cs) h = (both_hold (is_name_start c) (list_all is_name_part cs) h).0

pub name_parts : (cs : List ℕ) → IsName cs → Each is_name_part cs
name_parts [] h = tt
name_parts (c ∷ cs) h =
    let both = both_hold (is_name_start c) (list_all is_name_part cs) h in
    (name_start_part c both.0, all_each is_name_part cs both.1)

pub is_named : (cs : List ℕ) → begins is_name_start cs ≡ true → Each is_name_part cs → IsName cs
is_named [] first each = first
is_named (c ∷ cs) first each = holds_both (is_name_start c) (list_all is_name_part cs) first (each_all is_name_part cs each.1)
