-- The fields that an iterator has left to give.
use Rattle.std.specs.Prelude.{List}
use Rattle.gql_resolve.specs.Beneath.{Seen}
use Rattle.gql_resolve.specs.OpenSets.{all_open, within}
use Rattle.gql_resolve.specs.declared.selection_fields_iter.SelectionFieldsIter.{SelectionFieldsIter}

abbrev pub fields_left : SelectionFieldsIter → List Seen
fields_left fields = all_open within fields.sets
