-- The fields that a look-ahead covers.
use Rattle.std.specs.Prelude.{List}
use Rattle.gql_resolve.specs.Beneath.{Seen}
use Rattle.gql_resolve.specs.SelectionField.{all_seen}
use Rattle.gql_resolve.specs.declared.look_ahead.Lookahead.{Lookahead}

abbrev pub covered : Lookahead → List Seen
covered ahead = all_seen ahead.fields
