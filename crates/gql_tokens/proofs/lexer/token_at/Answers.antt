use Rattle.std.proofs.Common.{sym, ap, ◌∙◌}
use Rattle.std.specs.List.{slice_get}
use Rattle.gql_tokens.proofs.CutStands.{end_in}
use Rattle.gql_tokens.proofs.lexer.token_at.Goals as goal

pub returns-in_default-clause-stands : goal.returns-in_default-clause-stands
returns-in_default-clause-stands c =
    end_in c.args.text.now (ap (λ l. slice_get l 0) (sym c.as_bytes-bytes.ensures.value) ∙ sym c.in_default.ensures.value)
