-- Numbers that fall along the ways of a graph.
use Rattle.std.proofs.Common.{arith, ◌≡◌, ℕ, zero, suc, ◌+◌, ◌≤◌, ◌<◌, Bool, true, false, ◌||◌, ◌&&◌, List, [], ◌∷◌, get_or, length, leb-true, refl, sym, subst, ap, ◌∙◌}
use Rattle.std.specs.Prelude.{◌==◌}
use Rattle.std.proofs.Common.{inl, inr}
use Rattle.std.proofs.lemmas.Bool.{cases_lt, eqb-true}
use Rattle.std.proofs.lemmas.List.{get_or_read}
use Rattle.gql_schema.specs.GraphRanks.{AreRanks, all_at_most, is_in, led_to, rank_of}

never : false ≡ true → ⊥
never e = cc

and-left : (a b : Bool) → (a && b) ≡ true → a ≡ true
and-left true b h = refl
and-left false b h = cc

and-right : (a b : Bool) → (a && b) ≡ true → b ≡ true
and-right true b h = h
and-right false b h = cc

-- each of some places has at most the number that all have at most
pub low_each : (ranks : List ℕ) (most : ℕ) (places : List ℕ) (k : ℕ) → all_at_most ranks most places ≡ true → is_in k places ≡ true → rank_of ranks k ≤ most
low_each ranks most [] k low among = absurd (never among)
low_each ranks most (p ∷ places) k low among =
    let P : Bool → Type 0 = λ b. (b ≡ true → k ≡ p) → (b || is_in k places) ≡ true → rank_of ranks k ≤ most in
    (elim (k == p) as P [
      | true ↦ λ same h. subst (λ n. rank_of ranks n ≤ most) (sym (same refl)) (leb-true (rank_of ranks p) most (and-left _ _ low))
      | false ↦ λ same h. low_each ranks most places k (and-right _ _ low) h
    ]) (eqb-true k p) among

-- without numbers all have the same
pub ranked_none : (graph : List (List ℕ)) (ranks : List ℕ) → ranks ≡ [] → AreRanks graph ranks
ranked_none graph ranks none = rw none (record { falls = λ from to leads. omega arith })

-- the places to which a place leads, as they were read
pub led_is : (graph : List (List ℕ)) (place : ℕ) (got read : List ℕ) → place < length graph → got ≡ get_or graph place got → read ≡ got → read ≡ led_to graph place
led_is graph place got read inside is same = same ∙ get_or_read graph place got inside is []

-- the numbers of the places before one were tested
pub record IsTested (graph : List (List ℕ)) (ranks : List ℕ) (bound : ℕ) : Type 0 where
  pub tested : (from to : ℕ) → from < bound → is_in to (led_to graph from) ≡ true → rank_of ranks to ≤ rank_of ranks from

pub none_tested : (graph : List (List ℕ)) (ranks : List ℕ) → IsTested graph ranks 0
none_tested graph ranks = record { tested = λ from to before leads. absurd (omega (arith, before)) }

pub tested_more : (graph : List (List ℕ)) (ranks : List ℕ) (bound own : ℕ) (low : Bool) → IsTested graph ranks bound → own ≡ rank_of ranks bound
    → low ≡ all_at_most ranks own (led_to graph bound) → low ≡ true → IsTested graph ranks (bound + 1)
tested_more graph ranks bound own low is own_is told so = record {
  tested = λ from to before leads.
      elim (cases_lt from bound) [
        | inl less ↦ is.tested from to less leads
        | inr more ↦
            let same : bound ≡ from = omega (arith, more, before) in
            let here : is_in to (led_to graph bound) ≡ true = ap (λ n. is_in to (led_to graph n)) same ∙ leads in
            let under : rank_of ranks to ≤ own = low_each ranks own (led_to graph bound) to (sym told ∙ so) here in
            subst (λ n. rank_of ranks to ≤ rank_of ranks n) same (subst (λ m. rank_of ranks to ≤ m) own_is under)
      ];
}

past : (graph : List (List ℕ)) (from : ℕ) → length graph ≤ from → led_to graph from ≡ []
past [] from h = refl
past (ks ∷ graph) zero h = absurd (omega arith)
past (ks ∷ graph) (suc from) h = past graph from (omega arith)

pub all_tested : (graph : List (List ℕ)) (ranks : List ℕ) → IsTested graph ranks (length graph) → AreRanks graph ranks
all_tested graph ranks is = record {
  falls = λ from to leads.
      elim (cases_lt from (length graph)) [
        | inl less ↦ is.tested from to less leads
        | inr more ↦ absurd (never (ap (is_in to) (sym (past graph from more)) ∙ leads))
      ];
}
