use Rattle.std.proofs.Common.{◌+◌, ◌*◌}
use Rattle.gql_doc.proofs.types.+ty.Given as goal

abbrev pub decreases-read_type : goal.decreases-read_type
decreases-read_type l = 3 * l.levels + 1

abbrev pub decreases-read_bare_type : goal.decreases-read_bare_type
decreases-read_bare_type l = 3 * l.levels

abbrev pub decreases-read_list_type : goal.decreases-read_list_type
decreases-read_list_type l = 3 * l.levels + 2
