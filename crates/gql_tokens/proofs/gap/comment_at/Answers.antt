use Rattle.std.proofs.Common.{arith}
use Rattle.std.proofs.lemmas.List.Sums.{prefix_len-le-length}
use Rattle.gql_tokens.specs.Characters.{is_comment_character}
use Rattle.gql_tokens.proofs.IgnoredLaws.{ignored_comment}
use Rattle.gql_tokens.proofs.gap.comment_at.Goals as goal

pub place_after-requires-clause-within : goal.place_after-requires-clause-within
place_after-requires-clause-within c = omega (arith, c.comment_length-length.ensures, prefix_len-le-length is_comment_character c.args.text.now)

pub place_after-requires-clause-line : goal.place_after-requires-clause-line
place_after-requires-clause-line c = omega (arith, c.comment_length-length.ensures, prefix_len-le-length is_comment_character c.args.text.now)

pub place_after-requires-clause-column : goal.place_after-requires-clause-column
place_after-requires-clause-column c = omega (arith, c.comment_length-length.ensures, prefix_len-le-length is_comment_character c.args.text.now)

pub returns-clause-ignored : goal.returns-clause-ignored
returns-clause-ignored c =
    ignored_comment c.args.place c.place_after.result c.args.text.now c.comment_length-length.result c.requires.utf8 c.requires.hash c.comment_length-length.ensures
    c.place_after.ensures.exact c.place_after.ensures.line c.place_after.ensures.column
