-- The pairs of headers that an iterator has left to give.
use Rattle.std.specs.Prelude.{ℕ, List}
use Rattle.std.specs.Vec.Iter.{into_iter_items}
use Rattle.http_header.specs.FieldValue.{FieldValue}
use Rattle.gql_request.specs.declared.header_pairs.HeaderPairs.{HeaderPairs}

abbrev pub pairs_left : HeaderPairs → List (List ℕ × FieldValue)
pairs_left pairs = into_iter_items pairs.left
