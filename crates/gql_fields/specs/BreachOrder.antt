-- In which order breaches are told: by place, kind, name and last by text.
use Rattle.std.specs.Prelude.{◌↔◌, ℕ, List}
use Rattle.std.specs.List.{Contains}
use Rattle.std.specs.List.Sorted.{IsStrictlySortedBy}
use Rattle.std.specs.Cmp.{IsTotalOrder, nat_cmp_total, on_total, then_total}
use Rattle.std.specs.Cmp.Lexicographic.{nat_list_cmp_total, slice_cmp}
use Rattle.std.specs.declared.cmp.Ordering.{Ordering}
use Rattle.std.specs.Ordering.{nat_cmp, on, then_cmp}
use Rattle.gql_base.specs.declared.pos.Pos.{Pos}
use Rattle.gql_fields.specs.declared.breach.Breach.{Breach}
use Rattle.gql_fields.specs.declared.breach.BreachKind.{BreachKind}
use Rattle.gql_fields.specs.declared.breach.BreachKind.TheVariants as kinds

-- places by line and then by column
abbrev pub pos_order : Pos → Pos → Ordering
pos_order = then_cmp (on (λ pos. pos.line) nat_cmp) (on (λ pos. pos.column) nat_cmp)

-- the place of a kind among the rules
abbrev pub kind_place : BreachKind → ℕ
kind_place kinds.Condition = 0
kind_place kinds.UnknownField = 1
kind_place kinds.Selection = 2
kind_place kinds.Directive = 3
kind_place kinds.UnknownArgument = 4
kind_place kinds.MissingArgument = 5
kind_place kinds.DoubledArgument = 6
kind_place kinds.Value = 7
kind_place kinds.UnknownFragment = 8
kind_place kinds.CircularFragment = 9
kind_place kinds.Variable = 10
kind_place kinds.Definition = 11
kind_place kinds.Conflict = 12

-- texts by their bytes
abbrev pub text_order : List ℕ → List ℕ → Ordering
text_order = slice_cmp nat_cmp

abbrev pub breach_order : Breach → Breach → Ordering
breach_order =
    then_cmp (on (λ breach. breach.pos) pos_order)
    (then_cmp (on (λ breach. kind_place breach.kind) nat_cmp)
    (then_cmp (on (λ breach. breach.name) text_order) (on (λ breach. breach.text) text_order)))

pub breach_total : IsTotalOrder breach_order
breach_total =
    then_total
    (on_total (λ (breach : Breach). breach.pos)
    (then_total (on_total (λ (pos : Pos). pos.line) nat_cmp_total)
    (on_total (λ (pos : Pos). pos.column) nat_cmp_total)))
    (then_total (on_total (λ (breach : Breach). kind_place breach.kind) nat_cmp_total)
    (then_total (on_total (λ (breach : Breach). breach.name) nat_list_cmp_total)
    (on_total (λ (breach : Breach). breach.text) nat_list_cmp_total)))

-- a list that tells, in this order and once each, exactly what is meant
pub record Lists (IsMeant : Breach → Type 0) (list : List Breach) : Type 0 where
  pub in_order : IsStrictlySortedBy breach_order list
  pub exact : (found : Breach) → Contains list found ↔ IsMeant found
