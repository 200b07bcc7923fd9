use Rattle.std.proofs.Common.{◌≡◌, drop}
use Rattle.std.specs.List.{list_all}
use Rattle.gql_base.specs.Letters.{is_name_part}
use Rattle.gql_base.proofs.letters.are_name_parts.Given as goal

abbrev pub invariant-loop-letter : goal.invariant-loop-letter
invariant-loop-letter l = list_all is_name_part l.letters ≡ list_all is_name_part (drop l.letter-index l.letters)
