use Rattle.std.proofs.Common.{arith, refl, length}
use Rattle.std.proofs.lemmas.Option.{slice_get_read}
use Rattle.gql_doc.specs.declared.document.Argument.{Argument}
use Rattle.gql_fields.specs.UsePlaces.{is_constant}
use Rattle.gql_lists.proofs.AllLemmas.{all_fails, all_more}
use Rattle.gql_fields.proofs.constants.are_constant.Goals as goal

pub returns-then-not-is_constant : goal.returns-then-not-is_constant
returns-then-not-is_constant c =
    all_fails (λ (a : Argument). is_constant a.value.node) c.args.arguments.now c.loop-argument.argument-index _ c.is_constant.result
    (slice_get_read c.args.arguments.now (length c.args.arguments.now) c.loop-argument.argument-index c.argument-item.result refl
    (omega arith) c.argument-item.is)
    c.is_constant.ensures c.if-not-is_constant.true

pub loop-argument-preserved : goal.loop-argument-preserved
loop-argument-preserved c =
    all_more (λ (a : Argument). is_constant a.value.node) c.args.arguments.now c.loop-argument.argument-index _ c.is_constant.result
    c.loop-argument.invariant
    (slice_get_read c.args.arguments.now (length c.args.arguments.now) c.loop-argument.argument-index c.argument-item.result refl
    (omega arith) c.argument-item.is)
    c.is_constant.ensures c.if-not-is_constant.false
