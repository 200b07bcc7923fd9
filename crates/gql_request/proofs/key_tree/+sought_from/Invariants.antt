use Rattle.std.proofs.Common.{◌-◌, length}
use Rattle.gql_request.proofs.key_tree.+sought_from.Given as goal

abbrev pub decreases-sought_from : goal.decreases-sought_from
decreases-sought_from l = length l.keys.now - l.place
