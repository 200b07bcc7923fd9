-- The rule `bump`: a root of a mutation raises a cell by its argument `by`.
use Rattle.std.specs.Prelude.{◌≡◌, ℕ, false, ℤ, pos, ◌+ℤ◌, List, [], codes, get_or, slice_set, Option, Some, None}
use Rattle.std.specs.Prelude.{if◌then◌else◌, option_map}
use Rattle.gql_base.specs.Kinds.{is_null}
use Rattle.gql_base.specs.Pairs.{under}
use Rattle.gql_base.specs.declared.value.Value.{Value}
use Rattle.gql_resolve.specs.Call.{Call}
use Rattle.gql_bench.specs.Built.{bumps}
use Rattle.gql_bench.specs.Outcome.{Outcome}
use Rattle.gql_bench.specs.Sum.{is_i64, signed_of, sum_told}
use Rattle.gql_bench.specs.declared.rule.Rule.{Rule}
use Rattle.gql_bench.specs.declared.rule.RuleKind.{RuleKind}
use Rattle.gql_bench.specs.declared.rule.RuleKind.TheVariants as kinds

-- by how much a value raises, where it is no null: the whole number from -2^63 to 2^63-1 that it is
abbrev pub raise_of : Value → Option ℤ
raise_of value = if is_null value then Some (pos 1) else signed_of value

-- by how much an argument raises: by 1, where it isn't there
abbrev pub raise_by : Option Value → Option ℤ
raise_by None = Some (pos 1)
raise_by (Some value) = raise_of value

-- what a cell comes to, if anything, as these arguments raise it
abbrev pub raised : List (List ℕ × Value) → ℤ → Option ℤ
raised arguments cell =
    option_map (λ number. cell +ℤ number) (raise_by (under (codes "by") arguments))

-- what it gives: the cell, where that lies from -2^63 to 2^63-1
abbrev pub bump_outcome : List (List ℕ × Value) → ℤ → Outcome
bump_outcome arguments cell = sum_told (raised arguments cell)

-- a cell that comes to this; where that is none, the cell stays
abbrev pub cell_told : ℤ → Option ℤ → ℤ
cell_told cell None = cell
cell_told cell (Some total) = if is_i64 total then total else cell

-- the cell after it
abbrev pub bumped : List (List ℕ × Value) → ℤ → ℤ
bumped arguments cell = cell_told cell (raised arguments cell)

-- the cells, where the one at a place is raised
abbrev pub cells_bumped : ℕ → List (List ℕ × Value) → List ℤ → List ℤ
cells_bumped place arguments cells =
    slice_set cells place (bumped arguments (get_or cells place (pos 0)))

-- the cells after a call of `bump`: a root of a mutation raises its cell, others raise none
abbrev pub bump_effect : ℕ → Call ℤ → List ℤ → List ℤ
bump_effect place call cells =
    if call.is_root then cells_bumped place call.arguments cells else cells

-- the cells after a call by what its resolver answers
abbrev pub kind_effect : RuleKind → Call ℤ → List ℤ → List ℤ
kind_effect (kinds.Bump place) call cells = bump_effect place call cells
kind_effect _ call cells = cells

-- the same by its rule, if there is one
abbrev pub rule_effect : Option Rule → Call ℤ → List ℤ → List ℤ
rule_effect None call cells = cells
rule_effect (Some rule) call cells = kind_effect rule.kind call cells

-- a rule gives what it gives at once and nothing else, and changes no cell
pub record IsPlainRule (rule : Rule) : Type 0 where
  pub at_once : rule.delay ≡ 0
  pub none_added : rule.added ≡ []
  pub no_headers : rule.headers ≡ []
  pub stays : bumps rule ≡ false
