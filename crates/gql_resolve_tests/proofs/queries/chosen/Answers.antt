use Rattle.std.proofs.Common.{None}
use Rattle.gql_admit.proofs.NestingLemmas.{chosen_nests}
use Rattle.gql_resolve_tests.proofs.queries.chosen.Goals as goal

pub grounded-requires : goal.grounded-requires
grounded-requires c =
    chosen_nests c.args.doc 32 None c.in-Ok.chosen c.requires (rw c.in-Ok.is at c.in_ok-chosen.ensures)
