use Rattle.std.proofs.Common.{arith}
use Rattle.gql_admit.proofs.preparing.prepare_limited.Goals as goal

-- the document lies within the site's own limit
pub check_rules-requires : goal.check_rules-requires
check_rules-requires c = record {
  limit = c.args.site.now.depth;
  fits = omega (arith, c.requires.depth);
  within = c.requires.deep;
}
