use Rattle.std.proofs.Common.{arith}
use Rattle.std.proofs.lemmas.Grind.{common_steps}
use Rattle.gql_base.specs.declared.json.Style.TheVariants.{Json}
use Rattle.gql_base.proofs.JsonLemmas.{text-object}
use Rattle.gql_base.proofs.json.push_object.Goals as goal

pub returns : goal.returns
returns c =
    let text = text-object Json c.args.members.now in
    grind (arith, common_steps, text)
