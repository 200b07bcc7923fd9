use Rattle.std.proofs.Common.{Some}
use Rattle.std.specs.Str.{chars}
use Rattle.gql_tokens.specs.Place.{text_start}
use Rattle.gql_tokens.specs.Reaching.{left}
use Rattle.gql_tokens.proofs.StepLaws.{lexes_end}
use Rattle.gql_tokens.proofs.TokenFronts.{all_are, tokens_left}
use Rattle.gql_doc.proofs.cursor.Cursor.of.Goals as goal

pub returns-clause-exact : goal.returns-clause-exact
returns-clause-exact c =
    let text = c.args.text.now in
    let start = c.start-reached.result in
    let behind = c.next_token.new.reached in
    let token = c.in_ok-next.next in
    all_are text start behind token c.start-reached.ensures.at c.start-reached.ensures.place c.in_ok-next.ensures.next

pub returns-clause-ends : goal.returns-clause-ends
returns-clause-ends c =
    let behind = c.next_token.new.reached in
    let tokens = tokens_left (Some c.in_ok-next.next) behind.place (left c.args.text.now behind.at) in
    lexes_end text_start (chars c.args.text.now) tokens (returns-clause-exact c)
