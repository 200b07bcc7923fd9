-- Numbers that fall along the ways of a graph.
use Rattle.std.proofs.Common.{arith, ◌≡◌, ℕ, ◌-◌, ◌≤◌, ◌<◌, Bool, true, false, List, sym, ◌∙◌}
use Rattle.std.specs.Bool.{Decides}
use Rattle.gql_schema.proofs.GraphRankLemmas.{low_each}
use Rattle.gql_schema.specs.GraphRanks.{AreRanks, all_at_most, rank_of}
use Rattle.gql_rules.specs.Reaching.{Reaches, ReachesFrom, at_once, further, led_to}

-- from places of low numbers, none of a higher number is reached
falls_on : (graph : List (List ℕ)) (ranks : List ℕ) (most : ℕ) (starts : List ℕ) (to : ℕ) → AreRanks graph ranks → all_at_most ranks most starts ≡ true
    → ReachesFrom graph starts to → rank_of ranks to ≤ most
falls_on graph ranks most starts _ are low (at_once to among) = low_each ranks most starts to low among
falls_on graph ranks most starts _ are low (further via to before leads) =
    let up = falls_on graph ranks most starts via are low before in
    let step = are.falls via to leads in
    omega (arith, up, step)

-- so a place that leads to lower numbers alone doesn't reach itself
pub falls_free : (graph : List (List ℕ)) (ranks : List ℕ) (start own : ℕ) (low : Bool) → AreRanks graph ranks → own ≡ rank_of ranks start → 0 < own
    → low ≡ all_at_most ranks (own - 1) (led_to graph start) → low ≡ true → Decides false (Reaches graph start start)
falls_free graph ranks start own low are is above told so =
    (λ h. cc, λ reaches. let up = falls_on graph ranks (own - 1) (led_to graph start) start are (sym told ∙ so) reaches in absurd (omega (arith, up, is, above)))
