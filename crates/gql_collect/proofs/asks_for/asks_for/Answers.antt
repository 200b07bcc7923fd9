use Rattle.std.proofs.Common.{sym, ◌∙◌}
use Rattle.gql_collect.specs.Basis.{execution_of}
use Rattle.gql_collect.proofs.AsksLemmas.{other_asks}
use Rattle.gql_collect.proofs.asks_for.asks_for.Goals as goal

pub returns-else-is_object_name : goal.returns-else-is_object_name
returns-else-is_object_name c =
    other_asks c.ask_allowed.result (execution_of c.args.basis.now) c.args.object.now c.args.field.now (sym c.is_object_name.ensures ∙ c.if-is_object_name.false)
    c.ask_allowed.ensures
