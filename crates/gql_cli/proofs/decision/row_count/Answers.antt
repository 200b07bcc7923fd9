use Rattle.std.proofs.Common.{arith}
use Rattle.gql_cli.proofs.CountLemmas.{count_is, large_is_none, low_is_none, unread_is_none}
use Rattle.gql_cli.proofs.decision.row_count.Goals as goal

pub returns-in-Ok : goal.returns-in-Ok
returns-in-Ok c =
    count_is c.args.word.now c.parse.result c.parse.ensures.value.0 c.in-Ok.rows c.in-Ok.is (c.begins_above_zero.ensures.0 c.if-begins_above_zero.true)
    c.if-rows-le10000.true

pub returns-in_default : goal.returns-in_default
returns-in_default c = low_is_none c.args.word.now c.begins_above_zero.result c.begins_above_zero.ensures c.if-begins_above_zero.false

pub returns-in_default-2 : goal.returns-in_default-2
returns-in_default-2 c =
    large_is_none c.args.word.now c.parse.result c.parse.ensures.value.0 c.in-Ok.rows c.in-Ok.is (omega (arith, c.if-rows-le10000.false))

pub returns-in_default-3 : goal.returns-in_default-3
returns-in_default-3 c = unread_is_none c.args.word.now c.parse.result c.parse.ensures.value.0 c.in_default.field-0 c.in_default.is
