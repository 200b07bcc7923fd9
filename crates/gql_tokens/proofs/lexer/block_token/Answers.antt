use Rattle.gql_tokens.proofs.CutStands.{block_in, known_unended, unended_known}
use Rattle.gql_tokens.proofs.lexer.block_token.Goals as goal

pub returns-then-not-blocks_end-clause-stands : goal.returns-then-not-blocks_end-clause-stands
returns-then-not-blocks_end-clause-stands c =
    let text = c.args.text.now in
    c.empty_string.ensures text c.utf8.text c.requires.first (known_unended text c.utf8.text c.requires.first (c.requires.known c.if-not-blocks_end.true))

pub returns-in-Some-clause-stands : goal.returns-in-Some-clause-stands
returns-in-Some-clause-stands c =
    block_in c.args.text.now c.utf8.text c.requires.first c.in-Some.block.text c.in-Some.block.length (rw c.in-Some.is at c.in_ok-found.ensures)

pub returns-in-None-clause-known : goal.returns-in-None-clause-known
returns-in-None-clause-known c = λ off. unended_known c.args.text.now c.utf8.text c.requires.first (rw c.in-None.is at c.in_ok-found.ensures)
