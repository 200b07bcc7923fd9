use Rattle.std.proofs.Common.{arith}
use Rattle.gql_select.specs.Once.{nothing}
use Rattle.gql_collect.proofs.CollectOnceLemmas.{at_nothing, left_most}
use Rattle.gql_collect.proofs.collect_once.collect_fields_counted.Goals as goal

pub returns-in_err-add_fields-clause-bound : goal.returns-in_err-add_fields-clause-bound
returns-in_err-add_fields-clause-bound g c =
    omega (arith, c.add_fields.ensures.bound, left_most c.args.collector.now.fragments.now c.nothing_found-found.result)

pub returns-clause-fields : goal.returns-clause-fields
returns-clause-fields g c =
    (c.in_ok-add_fields.ensures.walked nothing
    (at_nothing c.args.collector.now.fragments.now c.nothing_found-found.result c.nothing_found-found.ensures.entered c.nothing_found-found.ensures.fields)).fields_are

pub returns-clause-bound : goal.returns-clause-bound
returns-clause-bound g c =
    omega (arith, c.add_fields.ensures.bound, left_most c.args.collector.now.fragments.now c.nothing_found-found.result)
