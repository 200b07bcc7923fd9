use Rattle.std.proofs.Common.{◌≡◌, true, false}
use Rattle.gql_conflicts.proofs.fields_in_set_can_merge.conflicts_in.Goals as goal

pub conflicts_by-requires : goal.conflicts_by-requires
conflicts_by-requires c = λ so. absurd (let bad : false ≡ true = so in cc)
