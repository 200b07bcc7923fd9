use Rattle.std.proofs.Common.{arith}
use Rattle.gql_rules.proofs.NestingLemmas.{nests_within}
use Rattle.gql_rules.proofs.field_merging.tell_conflicts.Goals as goal

pub tell_nested-requires : goal.tell_nested-requires
tell_nested-requires c = nests_within c.args.doc.now _ c.requires (omega (arith, c.requires.fits))
