use Rattle.std.proofs.Common.{drop, subst}
use Rattle.std.specs.Str.{chars}
use Rattle.gql_tokens.specs.Parts.{NoBlockEnds}
use Rattle.gql_tokens.specs.Cut.{IsStepIn}
use Rattle.gql_tokens.proofs.CutSteps.{reached_behind, step_next}
use Rattle.gql_tokens.proofs.reaching.next_token.Goals as goal

pub returns-clause-reached : goal.returns-clause-reached
returns-clause-reached c =
    let text = c.args.text.now in
    let here = c.args.reached.now in
    let step = c.in_ok-step.step in
    let stands = subst (λ l. IsStepIn here.place l step.token step.length step.place) c.range_from.ensures.value c.in_ok-step.ensures.stands in
    reached_behind text here step.token step.length step.place c.step_at.new.blocks_end c.requires stands
    (λ off. subst (λ l. NoBlockEnds (chars (drop step.length l))) c.range_from.ensures.value (c.in_ok-step.ensures.known off))

pub returns-clause-next : goal.returns-clause-next
returns-clause-next c =
    let here = c.args.reached.now in
    let step = c.in_ok-step.step in
    let stands = subst (λ l. IsStepIn here.place l step.token step.length step.place) c.range_from.ensures.value c.in_ok-step.ensures.stands in
    step_next c.args.text.now here step.token step.length step.place c.step_at.new.blocks_end c.requires stands
