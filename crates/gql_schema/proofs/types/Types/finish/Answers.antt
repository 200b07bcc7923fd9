use Rattle.std.proofs.Common.{ap, codes, ◌∙◌}
use Rattle.gql_schema.specs.Sound.{with_scalar}
use Rattle.gql_schema.specs.Table.{types_of}
use Rattle.gql_schema.specs.TableReading.{TypeTable}
use Rattle.gql_schema.specs.declared.scalar_rule.ScalarRule.TheVariants as rules
use Rattle.gql_schema.proofs.FinishedLemmas.{keeps_others}
use Rattle.gql_schema.proofs.types.Types.finish.Goals as goal

pub returns-in-None-clause-kept : goal.returns-in-None-clause-kept
returns-in-None-clause-kept c =
    keeps_others (types_of c.args.self) (types_of c.register_scalar-4.new.self)
    (c.in_ok-register_scalar-4.ensures
    ∙ ap (λ (t : TypeTable). with_scalar t (codes "ID") rules.Id) (c.in_ok-register_scalar-3.ensures
    ∙ ap (λ (t : TypeTable). with_scalar t (codes "Boolean") rules.Bool) (c.in_ok-register_scalar-2.ensures
    ∙ ap (λ (t : TypeTable). with_scalar t (codes "String") rules.Text) c.in_ok-register_scalar.ensures)))
