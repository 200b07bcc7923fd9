use Rattle.std.proofs.Common.{ap, sym, ◌∙◌}
use Rattle.std.proofs.lemmas.Str.{encodes-chars}
use Rattle.std.specs.Str.{chars}
use Rattle.gql_tokens.specs.Lines.{block_value}
use Rattle.gql_tokens.proofs.LinesCuts.{value_encoded}
use Rattle.gql_tokens.proofs.lines.block_value.Goals as goal

pub returns : goal.returns
returns c =
    let raw = c.args.raw.now in
    c.in_ok-text.ensures ∙ c.truncate.ensures.bytes ∙ c.in_ok-kept.ensures.front_is
    ∙ sym (ap block_value (encodes-chars raw c.utf8.raw)) ∙ value_encoded (chars raw)
