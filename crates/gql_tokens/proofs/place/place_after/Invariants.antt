use Rattle.std.proofs.Common.{◌≡◌, ◌+◌, ◌≤◌, take, drop}
use Rattle.gql_tokens.specs.BytePlace.{bytes_place}
use Rattle.gql_tokens.proofs.place.place_after.Given as goal

abbrev pub invariant-loop-at : goal.invariant-loop-at
invariant-loop-at l = record {
  exact : l.here ≡ bytes_place l.fn.place (take l.at l.text) (drop l.at l.text);
  line : l.here.line ≤ l.fn.place.line + l.at;
  column : l.here.column ≤ l.fn.place.column + l.at;
}
