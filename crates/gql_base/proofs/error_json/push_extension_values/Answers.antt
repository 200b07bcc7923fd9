use Rattle.std.proofs.Common.{codes, ◌++◌, arith, sym, append_assoc}
use Rattle.std.proofs.lemmas.Grind.{common_steps}
use Rattle.gql_base.specs.Json.{quoted, member, value_text}
use Rattle.gql_base.specs.declared.json.Style.TheVariants.{Json}
use Rattle.gql_base.proofs.ErrorJsonLemmas.{two-appended}
use Rattle.gql_base.proofs.JsonLemmas.{text-object}
use Rattle.gql_base.proofs.SeparatedLemmas.{separated_step}
use Rattle.gql_base.proofs.error_json.push_extension_values.Goals as goal

pub loop-place-preserved : goal.loop-place-preserved
loop-place-preserved c =
    separated_step (λ p. member Json (p.0, value_text Json p.1)) (codes ",") c.args.values.now c.loop-place.place (c.at.result.0.now, c.at.result.1.now) _ _ _ _
    c.at.ensures c.loop-place.invariant c.in_ok-push_comma.ensures
    (two-appended _ _ _ (quoted c.at.result.0.now ++ codes ":") (value_text Json c.at.result.1.now) _ c.in_ok-push_name.ensures c.in_ok-push_json.ensures
    (sym (append_assoc (quoted c.at.result.0.now) (codes ":") (value_text Json c.at.result.1.now))))

pub returns : goal.returns
returns c =
    let text = text-object Json c.args.values.now in
    grind (arith, common_steps, text)
