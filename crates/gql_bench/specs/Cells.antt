-- The cells that the rules of a bench name.
use Rattle.std.specs.Prelude.{ℕ, Bool, true, List, IsTrue, nat_lt}
use Rattle.std.specs.List.{list_all}
use Rattle.gql_bench.specs.declared.rule.Rule.{Rule}
use Rattle.gql_bench.specs.declared.rule.RuleKind.{RuleKind}
use Rattle.gql_bench.specs.declared.rule.RuleKind.TheVariants as kinds

-- whether what a resolver answers names no cell but one below this number
abbrev pub kind_below : ℕ → RuleKind → Bool
kind_below count (kinds.Read place) = nat_lt place count
kind_below count (kinds.Bump place) = nat_lt place count
kind_below count _ = true

-- the same of a rule
abbrev pub rule_below : ℕ → Rule → Bool
rule_below count rule = kind_below count rule.kind

-- rules that name no cell but those below this number
abbrev pub AreBelow : ℕ → List Rule → Type 0
AreBelow count rules = IsTrue (list_all (rule_below count) rules)
