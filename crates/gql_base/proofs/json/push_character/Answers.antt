use Rattle.std.proofs.Common.{arith, rules}
use Rattle.gql_base.proofs.JsonLemmas.{flat_map-encode}
use Rattle.gql_base.proofs.json.push_character.Goals as goal

pub returns-in_default-2 : goal.returns-in_default-2
returns-in_default-2 c =
    let plain = flat_map-encode c.args.character (omega arith, omega arith, omega arith) in
    rw plain (search rules)
