use Rattle.std.proofs.Common.{sym, ◌∙◌}
use Rattle.gql_collect.specs.Basis.{execution_of}
use Rattle.gql_collect.proofs.AsksLemmas.{allowed_asks}
use Rattle.gql_collect.proofs.asks_for.ask_allowed.Goals as goal

pub returns-else-is_only_introspection : goal.returns-else-is_only_introspection
returns-else-is_only_introspection c =
    allowed_asks c.ask_resolved.result (execution_of c.args.basis.now) c.args.object.now c.args.field.now
    (sym c.is_only_introspection.ensures ∙ c.if-is_only_introspection.false) c.ask_resolved.ensures
