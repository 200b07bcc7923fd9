use Rattle.gql_exec.proofs.schema.SchemaCopied.try_clone.Goals as goal

pub of-requires-clause-sound : goal.of-requires-clause-sound
of-requires-clause-sound c = rw c.in_ok-types.ensures c.args.self.now.is_sound
