use Rattle.std.proofs.Common.{◌≡◌, Bool, nat_eq, ◌&&◌, List, ℕ, Decides, ◌∙◌}
use Rattle.std.specs.Cmp.Lexicographic.{pointwise, pointwise_decides, bytes_decides}
use Rattle.gql_base.specs.Same.{is_same, is_same-decides, is_same_is}
use Rattle.gql_base.specs.contracts.error_extension_values.ErrorExtensionValues.{the_row}
use Rattle.gql_base.specs.contracts.value.Value as one
use Rattle.gql_base.specs.declared.value.Value.{Value}
use Rattle.gql_base.proofs.SameLemmas.{told, pair-decides}
use Rattle.gql_base.proofs.error_extension_values.ErrorExtensionValuesPartialEq.eq.Goals as goal

abbrev test : List (List ℕ × Value) → List (List ℕ × Value) → Bool
test = pointwise (λ p q. pointwise nat_eq p.0 q.0 && is_same one.the_row.coded p.1 q.1)

test-decides : (ps qs : List (List ℕ × Value)) → Decides (test ps qs) (ps ≡ qs)
test-decides = pointwise_decides (pair-decides bytes_decides (is_same-decides one.the_row.coded))

decides : (c : goal.After-eq) → Decides c.eq.result (c.args.self.now ≡ c.args.other.now)
decides c =
    told c.eq.result (test c.args.self.now c.args.other.now) c.args.self.now c.args.other.now
    (c.eq.ensures ∙ (λ i. test ((c.as_slice.ensures.value ∙ c.self.view_is) i) ((c.as_slice-2.ensures.value ∙ c.other.view_is) i)))
    (test-decides c.args.self.now c.args.other.now)

pub returns-clause-value : goal.returns-clause-value
returns-clause-value c = is_same_is the_row.coded c.eq.result c.args.self.now c.args.other.now (decides c)

pub returns-clause-decides : goal.returns-clause-decides
returns-clause-decides c = decides c
