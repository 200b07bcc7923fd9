use Rattle.std.proofs.Common.{◌∙◌, sym}
use Rattle.gql_tokens.proofs.IgnoredLaws.{mark_starts, no_mark}
use Rattle.gql_tokens.proofs.gap.begins_mark.Goals as goal

pub returns-then-text : goal.returns-then-text
returns-then-text c = sym (no_mark c.args.text.now c.requires.utf8 c.if-text.true)

pub returns : goal.returns
returns c = c.starts_with.ensures.value ∙ mark_starts c.args.text.now c.requires.utf8
