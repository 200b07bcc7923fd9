use Rattle.std.proofs.Common.{ℕ, List, ap, ◌∙◌}
use Rattle.gql_base.specs.Pairs.{under}
use Rattle.gql_schema.specs.Faults.{has_same_type}
use Rattle.gql_schema.specs.declared.input_value.InputValue.{InputValue}
use Rattle.gql_lists.proofs.AllLemmas.{all_fails, all_more}
use Rattle.gql_schema.proofs.promises.has_promised.Goals as goal

pub returns-then-not-has_type_of : goal.returns-then-not-has_type_of
returns-then-not-has_type_of c =
    all_fails (λ (p : List ℕ × InputValue). has_same_type p.1 (under p.0 c.args.arguments.now)) c.args.promised.now c.loop-place.place _ c.has_type_of.result c.at.ensures (c.has_type_of.ensures ∙ ap (has_same_type c.at.result.1.now) c.get.ensures) c.if-not-has_type_of.true

pub loop-place-preserved : goal.loop-place-preserved
loop-place-preserved c =
    all_more (λ (p : List ℕ × InputValue). has_same_type p.1 (under p.0 c.args.arguments.now)) c.args.promised.now c.loop-place.place _ c.has_type_of.result c.loop-place.invariant c.at.ensures (c.has_type_of.ensures ∙ ap (has_same_type c.at.result.1.now) c.get.ensures)
    c.if-not-has_type_of.false
