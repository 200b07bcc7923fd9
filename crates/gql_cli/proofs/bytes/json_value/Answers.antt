use Rattle.std.proofs.Common.{sym, ◌∙◌}
use Rattle.std.proofs.lemmas.Bool.{false≢true}
use Rattle.gql_cli.proofs.BenchJson.{json_of-text, json_of-refused}
use Rattle.gql_cli.proofs.bytes.json_value.Goals as goal

pub returns-in-Ok : goal.returns-in-Ok
returns-in-Ok c =
    let ok = c.in-Ok.ensures.ok in
    sym (json_of-text c.args.bytes.now _ ok.0 ok.1)

pub returns-in-Err-2 : goal.returns-in-Err-2
returns-in-Err-2 c =
    sym (json_of-refused c.args.bytes.now (c.in-Err.ensures.err (λ memory. absurd (false≢true (sym c.if-is_memory.false ∙ c.is_memory.ensures.1 memory)))))
