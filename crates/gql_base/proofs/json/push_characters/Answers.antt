use Rattle.std.proofs.Common.{arith}
use Rattle.std.proofs.lemmas.Grind.{common_steps, flat_map-append}
use Rattle.std.proofs.Math.Utf8.{encodes, encode}
use Rattle.gql_base.specs.Json.{escaped}
use Rattle.gql_base.proofs.JsonLemmas.{encodes-push}
use Rattle.gql_base.proofs.json.push_characters.Goals as goal

pub loop-character-preserved : goal.loop-character-preserved
loop-character-preserved c =
    let more = encodes-push c.loop-character.yielded c.in-Some.character in
    let split = flat_map-append escaped (encodes c.loop-character.yielded) (encode c.in-Some.character) in
    grind (arith, common_steps, more, split)
