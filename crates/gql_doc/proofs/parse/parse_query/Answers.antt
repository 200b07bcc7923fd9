use Rattle.std.proofs.Common.{◌≡◌, Ok, Err}
use Rattle.std.specs.Str.{chars}
use Rattle.gql_doc.specs.Spelled.{GivesDocument}
use Rattle.gql_doc.specs.Ruled.{query_of}
use Rattle.gql_doc.proofs.Classify.{if_ok_is}
use Rattle.gql_doc.proofs.ParseLaws.{query_gives, query_spelled, query_faulty}
use Rattle.gql_doc.proofs.parse.parse_query.Goals as goal

pub returns-clause-given : goal.returns-clause-given
returns-clause-given c =
    if_ok_is c.document_of_tokens.result (query_of c.in_ok-tokens.tokens) (λ outcome. GivesDocument (chars c.args.text.now) outcome) c.document_of_tokens.ensures (query_gives (chars c.args.text.now) c.in_ok-tokens.tokens c.in_ok-tokens.ensures.exact)

pub returns-clause-spelled : goal.returns-clause-spelled
returns-clause-spelled c = λ document s.
    if_ok_is c.document_of_tokens.result (query_of c.in_ok-tokens.tokens) (λ outcome. outcome ≡ Ok document) c.document_of_tokens.ensures (query_spelled (chars c.args.text.now) c.in_ok-tokens.tokens c.in_ok-tokens.ensures.exact document s)

pub returns-clause-faulty : goal.returns-clause-faulty
returns-clause-faulty c = λ fault f.
    if_ok_is c.document_of_tokens.result (query_of c.in_ok-tokens.tokens) (λ outcome. outcome ≡ Err fault) c.document_of_tokens.ensures (query_faulty (chars c.args.text.now) c.in_ok-tokens.tokens c.in_ok-tokens.ensures.exact fault f)
