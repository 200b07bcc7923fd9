use Rattle.std.proofs.Common.{arith, ap, sym, ◌∙◌}
use Rattle.std.proofs.lemmas.Grind.{common_steps}
use Rattle.gql_base.specs.Json.{member, comma_of, value_text}
use Rattle.gql_base.specs.declared.value.Value.TheVariants as value
use Rattle.gql_base.proofs.JsonLemmas.{text-object}
use Rattle.gql_base.proofs.SeparatedLemmas.{separated_at}
use Rattle.gql_base.proofs.json.+json.Goals as goal

pub push_value-returns-in_ok-push_members-in-Object : goal.push_value-returns-in_ok-push_members-in-Object
push_value-returns-in_ok-push_members-in-Object t c =
    let members = c.deref-in-Object.result.now in
    let text = ap (value_text c.args.style) (c.in-Object.is ∙ ap value.Object (sym c.deref-in-Object.ensures)) ∙ text-object c.args.style members in
    grind (arith, common_steps, text)

pub push_members-loop-place-preserved : goal.push_members-loop-place-preserved
push_members-loop-place-preserved t c =
    let more =
    separated_at (λ p. member c.args.style (p.0, value_text c.args.style p.1)) (comma_of c.args.style) c.args.members.now c.loop-place.place
    (c.at.result.0.now, c.at.result.1.now) c.at.ensures in
    grind (arith, common_steps, more)
