use Rattle.std.proofs.Common.{ap, ◌∙◌}
use Rattle.std.specs.Option.{option_copied}
use Rattle.gql_base.specs.Pairs.{later, unite_all}
use Rattle.gql_resolve.specs.Variables.{known_in}
use Rattle.gql_schema.specs.InputValue.{default_of}
use Rattle.gql_select.specs.Constants.{constant, given}
use Rattle.gql_collect.proofs.CoerceLemmas.{argument_more}
use Rattle.gql_collect.proofs.coerce_arguments.argument_values.Goals as goal

pub loop-place-preserved : goal.loop-place-preserved
loop-place-preserved c =
    let known = known_in c.args.env.now in
    let name = c.at.result.0.now in
    argument_more known c.args.written.now c.args.declared.now c.loop-place.place name c.at.result.1.now c.loop-place.values c.add_argument.new.values
    c.len-place-end.ensures.distinct c.at.ensures c.loop-place.invariant
    (c.in_ok-add_argument.ensures
    ∙ ap (λ d. unite_all later c.loop-place.values (constant known name (option_copied c.get.result) d)) c.default.ensures
    ∙ ap (λ o. unite_all later c.loop-place.values (constant known name o (default_of c.at.result.1.now))) (c.get.ensures ∙ ap (given name) c.in_ok-given.ensures))
