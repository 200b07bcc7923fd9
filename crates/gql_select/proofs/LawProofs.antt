-- The laws on selections, proved.
use Rattle.gql_select.specs.Laws.{ApartIsMerged, DocumentsAreRead, KeptAgrees, KeptApartIsMerged, MergedGroupsAreGrouped, MutationApartIsMerged, NoConflictAgrees, SameConstants}
use Rattle.gql_select.specs.Alike.{arguments_of}
use Rattle.gql_select.specs.Fewer.{FewerAreGrouped, FewerAreSerial, FewerConflict}
use Rattle.gql_select.specs.Once.{OnceLeavesOut}
use Rattle.gql_select.proofs.AlikeLemmas.{alike_says, constants_same}
use Rattle.gql_select.proofs.ConflictLemmas.{agree_from}
use Rattle.gql_select.proofs.DocumentLemmas.{is_reading}
use Rattle.gql_select.proofs.FewerConflictLemmas.{conflicts_fewer}
use Rattle.gql_select.proofs.FewerLemmas.{grouped_fewer, serial_fewer}
use Rattle.gql_select.proofs.OnceLemmas.{leaves_out}
use Rattle.gql_select.specs.Documents.{placing_by, reading}
use Rattle.gql_select.specs.Kept.{kept, kept_setting}
use Rattle.gql_select.proofs.KeptLemmas.{agree_kept}
use Rattle.gql_select.proofs.GroupLemmas.{by_merged_groups}
use Rattle.gql_select.proofs.MergeLemmas.{respond_grouped}
use Rattle.gql_select.proofs.SerialLemmas.{serial_same}

pub no_conflict_agrees : (O F X E : Type 0) → NoConflictAgrees O F X E
no_conflict_agrees O F X E = λ reading is told n o set none. agree_from reading is told n o set none

pub merged_groups_are_grouped : (O P F X Pl : Type 0) → MergedGroupsAreGrouped O P F X Pl
merged_groups_are_grouped O P F X Pl = λ placing join n o p set. by_merged_groups placing join n o p set

pub apart_is_merged : (O P F X Pl : Type 0) → ApartIsMerged O P F X Pl
apart_is_merged O P F X Pl = λ placing is join law n o p set agree. respond_grouped placing is join law n o p set agree

pub mutation_apart_is_merged : (O P F X Pl W : Type 0) → MutationApartIsMerged O P F X Pl W
mutation_apart_is_merged O P F X Pl W =
    λ mutating is join rooting placing n o p set world agree. serial_same mutating is join rooting placing n o p set world agree

pub documents_are_read : DocumentsAreRead
documents_are_read = is_reading

pub same_constants : SameConstants
same_constants = λ known declared f g same. constants_same known declared (arguments_of f) (arguments_of g) (alike_says f g same).1

pub kept_agrees : KeptAgrees
kept_agrees = λ known setting n o set agree. agree_kept known setting n o set set agree

pub kept_apart_is_merged : (P Pl E : Type 0) → KeptApartIsMerged P Pl E
kept_apart_is_merged P Pl E = λ known setting place join law told n o p set none.
    respond_grouped (placing_by (kept_setting known setting) place) (is_reading (kept_setting known setting)) join law n o p (kept known set)
    (agree_kept known setting n o set set (agree_from (reading setting) (is_reading setting) told n o set none))

pub fewer_are_grouped : (O P F X Pl : Type 0) → FewerAreGrouped O P F X Pl
fewer_are_grouped O P F X Pl = λ placing is counts fewer nests leaves n o p set nest. grouped_fewer placing is counts fewer nests leaves n o p set nest

pub fewer_are_serial : (O P F X Pl W : Type 0) → FewerAreSerial O P F X Pl W
fewer_are_serial O P F X Pl W =
    λ mutating is counts fewer nests leaves n o p set world nest. serial_fewer mutating is counts fewer nests leaves n o p set world nest

pub fewer_conflict : (O F X E : Type 0) → FewerConflict O F X E
fewer_conflict O F X E = λ reading is told fewer nests leaves n o set nest. conflicts_fewer reading is told fewer nests leaves n o set nest

pub once_leaves_out : OnceLeavesOut
once_leaves_out = leaves_out
