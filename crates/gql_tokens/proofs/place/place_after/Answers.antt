use Rattle.std.proofs.Common.{◌≡◌, ◌+◌, drop, get_or, ap, sym, subst, ◌∙◌, arith, length, ◌<◌}
use Rattle.std.proofs.lemmas.List.{take_rest}
use Rattle.gql_tokens.specs.BytePlace.{byte_place}
use Rattle.gql_tokens.specs.Cut.{IsCut}
use Rattle.gql_tokens.proofs.BytePlaces.{bytes_place_more, cut_leads}
use Rattle.gql_tokens.proofs.place.place_after.Goals as goal

pub loop-at-preserved : goal.loop-at-preserved
loop-at-preserved c =
    let text = c.args.text.now in
    let i = c.loop-at.at in
    let b = get_or text i 0 in
    let within : i < length text = omega arith in
    record {
      exact =
          c.next_place-here.ensures.exact ∙ ap (byte_place c.loop-at.here b) (take_rest text (i + 1))
          ∙ ap (λ p. byte_place p b (drop (i + 1) text)) c.loop-at.invariant.exact
          ∙ sym (bytes_place_more c.args.place text i within);
      line = omega arith;
      column = omega arith;
    }

pub returns-clause-exact : goal.returns-clause-exact
returns-clause-exact c n cut =
    let text = c.args.text.now in
    let whole : c.loop-at.at ≡ c.args.count = omega arith in
    c.loop-at.invariant.exact ∙ cut_leads c.args.place text c.loop-at.at n c.requires.utf8 (subst (λ k. IsCut text k n) (sym whole) cut)
