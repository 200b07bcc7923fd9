use Rattle.std.proofs.Common.{arith}
use Rattle.gql_rules.proofs.NestingLemmas.{nests_within}
use Rattle.gql_admit.proofs.directives.check_directives_counted.Goals as goal

pub check_nested-requires : goal.check_nested-requires
check_nested-requires g c = nests_within c.args.doc.now _ c.requires (omega (arith, c.requires.fits))
