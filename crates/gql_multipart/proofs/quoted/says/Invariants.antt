use Rattle.std.proofs.Common.{◌≡◌, drop}
use Rattle.std.specs.Str.{bytes_eq}
use Rattle.gql_multipart.specs.Quoted.{said}
use Rattle.gql_multipart.proofs.quoted.says.Given as goal

abbrev pub invariant-loop-wanted : goal.invariant-loop-wanted
invariant-loop-wanted l =
    bytes_eq (said l.value) l.text ≡ bytes_eq (said l.rest) (drop l.wanted-index l.text)
