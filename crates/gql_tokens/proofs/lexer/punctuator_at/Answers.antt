use Rattle.std.proofs.Common.{get_or, drop, sym, ◌∙◌}
use Rattle.std.proofs.lemmas.List.{drop_more}
use Rattle.gql_tokens.proofs.CutStands.{punctuator_in, spread_in, nothing_in}
use Rattle.gql_tokens.proofs.lexer.punctuator_at.Goals as goal

pub returns-in-Some : goal.returns-in-Some
returns-in-Some c =
    let text = c.args.text.now in
    punctuator_in text c.in-Some.punctuator (get_or text 0 0) (drop 1 text) c.requires.utf8 (drop_more text 0 0 c.requires.some) c.in-Some.ensures

pub returns-then-starts_with : goal.returns-then-starts_with
returns-then-starts_with c = spread_in c.args.text.now c.requires.utf8 (sym c.starts_with.ensures.value ∙ c.if-starts_with.true)

pub returns-else-starts_with : goal.returns-else-starts_with
returns-else-starts_with c =
    let text = c.args.text.now in
    nothing_in text c.requires.utf8 (get_or text 0 0) (drop 1 text) (drop_more text 0 0 c.requires.some) c.in_default.ensures c.requires.name c.requires.number
    c.requires.string (sym c.starts_with.ensures.value ∙ c.if-starts_with.false)
