use Rattle.gql_tokens.proofs.TokenFronts.{next_is}
use Rattle.gql_doc.proofs.cursor.following.Goals as goal

pub returns-clause-next : goal.returns-clause-next
returns-clause-next c =
    rw c.if-last.false (next_is c.args.text.now c.args.reached.now c.next_token.new.reached c.in_ok-next.next c.in_ok-next.ensures.next)
