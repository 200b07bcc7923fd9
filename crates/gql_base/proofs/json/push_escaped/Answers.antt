use Rattle.std.proofs.Common.{rules}
use Rattle.gql_base.proofs.JsonLemmas.{flat_map-plain}
use Rattle.gql_base.proofs.json.push_escaped.Goals as goal

pub returns-then-is_plain : goal.returns-then-is_plain
returns-then-is_plain c =
    let plain = flat_map-plain c.args.text.now (c.is_plain.ensures.0 c.if-is_plain.true) in
    rw plain (search rules)
