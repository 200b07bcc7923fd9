use Rattle.std.proofs.Common.{◌++◌, [], ◌∷◌, drop, sym, ap, ◌∙◌, subst, arith, drop-drop}
use Rattle.std.specs.Str.{chars}
use Rattle.std.proofs.lemmas.Str.{IsCharBoundary-start}
use Rattle.gql_tokens.specs.Lexer.{Lexes}
use Rattle.gql_tokens.specs.Place.{text_start}
use Rattle.gql_tokens.specs.Parts.{NoBlockEnds}
use Rattle.gql_tokens.specs.Cut.{IsStepIn}
use Rattle.gql_tokens.proofs.StepLaws.{lexes_end}
use Rattle.gql_tokens.proofs.CutSteps.{boundary_behind, more_tokens}
use Rattle.gql_tokens.proofs.lexer.tokens_of.Goals as goal

pub loop-tokens-init : goal.loop-tokens-init
loop-tokens-init c =
    let text = c.args.text.now in
    record {
      boundary = IsCharBoundary-start text c.utf8.text;
      line = omega arith;
      column = omega arith;
      known = λ off. absurd cc;
      so_far = λ more h. subst (λ l. Lexes text_start (chars text) (l ++ more)) (sym c.new-tokens.ensures) h;
    }

pub loop-tokens-preserved : goal.loop-tokens-preserved
loop-tokens-preserved c =
    let text = c.args.text.now in
    let at = c.loop-tokens.at in
    let k = c.in_ok-step.step.length in
    let here = c.loop-tokens.place in
    let behind = c.in_ok-step.step.place in
    let token = c.in_ok-step.step.token in
    let step = subst (λ l. IsStepIn here l token k behind) c.range_from.ensures.value c.in_ok-step.ensures.stands in
    record {
      boundary = boundary_behind text at here token k behind step c.loop-tokens.invariant.boundary;
      line = omega (arith, step.2.line, step.1.fewer, c.loop-tokens.invariant.line);
      column = omega (arith, step.2.column, step.1.fewer, c.loop-tokens.invariant.column);
      known = λ off. subst (λ l. NoBlockEnds (chars l)) (ap (drop k) c.range_from.ensures.value ∙ drop-drop k at text) (c.in_ok-step.ensures.known off);
      so_far = λ more h.
          subst (λ l. Lexes text_start (chars text) (l ++ more)) (sym c.in_ok-push.ensures.ok)
          (more_tokens text at here token k behind step text_start c.loop-tokens.tokens (sym c.if-last.ensures) c.loop-tokens.invariant.so_far more h);
    }

pub returns-then-last-clause-ends : goal.returns-then-last-clause-ends
returns-then-last-clause-ends c =
    let text = c.args.text.now in
    let here = c.loop-tokens.place in
    let token = c.in_ok-step.step.token in
    let step = subst (λ l. IsStepIn here l token c.in_ok-step.step.length c.in_ok-step.step.place) c.range_from.ensures.value c.in_ok-step.ensures.stands in
    lexes_end text_start (chars text) c.push.new.self
    (subst (Lexes text_start (chars text)) (sym c.in_ok-push.ensures.ok) (c.loop-tokens.invariant.so_far (token ∷ []) (step.2.last (sym c.is_final-last.ensures ∙ c.if-last.true))))
