use Rattle.std.proofs.Common.{sym, subst}
use Rattle.gql_schema.specs.Sound.{IsSound}
use Rattle.gql_exec.proofs.builder.SchemaBuilderSchemaBuilderExt.finish.Goals as goal

pub of-requires-clause-sound : goal.of-requires-clause-sound
of-requires-clause-sound c =
    let told = rw c.in-Ok.is at c.in_ok-types-2.ensures.finished in
    ∣ subst IsSound (sym told.0) told.1 ∣₁
