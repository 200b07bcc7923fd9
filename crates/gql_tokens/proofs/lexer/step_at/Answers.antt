use Rattle.std.proofs.Common.{sym, subst, ◌∙◌}
use Rattle.std.specs.Str.{chars}
use Rattle.gql_tokens.specs.Parts.{NoBlockEnds}
use Rattle.gql_tokens.specs.Cut.{IsGapIn, StandsIn}
use Rattle.gql_tokens.proofs.CutSteps.{IsPlaceBehind, known_behind_gap_in, known_behind_token_in, last_step_in, step_in}
use Rattle.gql_tokens.proofs.lexer.step_at.Goals as goal

pub token_at-requires : goal.token_at-requires
token_at-requires c = λ off.
    let gap = c.gap_at-gap.result in
    let is = subst (λ l. IsGapIn c.args.place l gap.length gap.place) c.as_bytes.ensures.value c.gap_at-gap.ensures.gap in
    subst (λ l. NoBlockEnds (chars l)) (sym c.range_from-behind.ensures.value) (known_behind_gap_in c.args.place c.args.text.now gap.length gap.place is (c.requires.known off))

pub returns-then-is_final-clause-stands : goal.returns-then-is_final-clause-stands
returns-then-is_final-clause-stands c =
    let text = c.args.text.now in
    let gap = c.gap_at-gap.result in
    let reading = c.in_ok-lexeme.field-0 in
    let is = subst (λ l. IsGapIn c.args.place l gap.length gap.place) c.as_bytes.ensures.value c.gap_at-gap.ensures.gap in
    let stands = subst (StandsIn reading.lexeme reading.length) c.range_from-behind.ensures.value c.in_ok-lexeme.ensures.stands in
    last_step_in c.args.place text reading.lexeme gap.length reading.length gap.place c.utf8.text is stands (sym c.is_final.ensures ∙ c.if-is_final.true)

pub returns-clause-stands : goal.returns-clause-stands
returns-clause-stands c =
    let text = c.args.text.now in
    let gap = c.gap_at-gap.result in
    let reading = c.in_ok-lexeme.field-0 in
    let is = subst (λ l. IsGapIn c.args.place l gap.length gap.place) c.as_bytes.ensures.value c.gap_at-gap.ensures.gap in
    let stands = subst (StandsIn reading.lexeme reading.length) c.range_from-behind.ensures.value c.in_ok-lexeme.ensures.stands in
    let bytes_are = c.as_bytes-2.ensures.value ∙ c.range_from-behind.ensures.value in
    let behind = c.place_behind-place.result in
    step_in c.args.place text reading.lexeme gap.length reading.length gap.place c.utf8.text is stands (sym c.is_final.ensures ∙ c.if-is_final.false) behind
    (subst (λ l. IsPlaceBehind reading.lexeme gap.place l reading.length behind) bytes_are c.place_behind-place.ensures.exact)

pub returns-clause-known : goal.returns-clause-known
returns-clause-known c = λ off.
    let text = c.args.text.now in
    let gap = c.gap_at-gap.result in
    let reading = c.in_ok-lexeme.field-0 in
    let is = subst (λ l. IsGapIn c.args.place l gap.length gap.place) c.as_bytes.ensures.value c.gap_at-gap.ensures.gap in
    let stands = subst (StandsIn reading.lexeme reading.length) c.range_from-behind.ensures.value c.in_ok-lexeme.ensures.stands in
    known_behind_token_in c.args.place text reading.lexeme gap.length reading.length gap.place c.utf8.text is stands (sym c.is_final.ensures ∙ c.if-is_final.false)
    (subst (λ l. NoBlockEnds (chars l)) c.range_from-behind.ensures.value (c.in_ok-lexeme.ensures.known off))
