use Rattle.gql_base.specs.Same.{is_same_is}
use Rattle.gql_base.specs.contracts.path_segment.PathSegment.{the_row}
use Rattle.gql_base.proofs.path_segment.PathSegmentPartialEq.eq.Goals as goal

pub returns-clause-value : goal.returns-clause-value
returns-clause-value c = is_same_is the_row.coded c.same_segment.result c.args.self.now c.args.other.now c.same_segment.ensures
