use Rattle.std.proofs.Common.{◌+◌, add-one, refl, ap, ◌∙◌}
use Rattle.gql_select.specs.Constants.{variable_value}
use Rattle.gql_select.specs.Kept.{kept_fragments}
use Rattle.gql_admit.specs.Prepared.{kept_operation}
use Rattle.gql_admit.proofs.NestingLemmas.{nests_prepared}
use Rattle.gql_admit.proofs.preparing.prepare_chosen.Goals as goal

pub new-requires : goal.new-requires
new-requires c =
    let chosen = c.args.chosen in
    let variables = c.in_ok-variables.variables in
    let definitions = chosen.operation.node.variable_definitions in
    let depth = c.args.site.now.depth in
    nests_prepared (variable_value variables definitions) chosen.fragments
    c.in_ok-fragments.fragments depth (depth + 1) chosen.operation c.in_ok-operation.operation
    c.requires.deep refl
    (c.in_ok-fragments.ensures
    ∙ ap (λ ds. kept_fragments (variable_value variables ds) chosen.fragments)
    c.as_slice-definitions.ensures)
    c.in_ok-operation.ensures

pub returns : goal.returns
returns c =
    let chosen = c.args.chosen in
    let variables = c.in_ok-variables.variables in
    let definitions = chosen.operation.node.variable_definitions in
    record {
      variables = c.in_ok-env.ensures.variables ∙ c.in_ok-variables.ensures;
      operation_name = c.in_ok-env.ensures.operation_name;
      operation =
          c.in_ok-env.ensures.operation ∙ c.in_ok-operation.ensures
          ∙ ap (λ vs. kept_operation (variable_value vs definitions) chosen.operation)
          c.in_ok-variables.ensures;
      fragments =
          c.in_ok-env.ensures.fragments ∙ c.in_ok-fragments.ensures
          ∙ ap (λ ds. kept_fragments (variable_value variables ds) chosen.fragments)
          c.as_slice-definitions.ensures
          ∙ ap (λ vs. kept_fragments (variable_value vs definitions) chosen.fragments)
          c.in_ok-variables.ensures;
      introspection_mode = c.in_ok-env.ensures.introspection_mode;
      levels = c.in_ok-env.ensures.levels ∙ add-one c.args.site.now.depth;
    }
