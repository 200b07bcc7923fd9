use Rattle.std.proofs.Common.{◌≡◌, Ok, Err}
use Rattle.std.specs.Str.{chars}
use Rattle.gql_doc.specs.Spelled.{GivesType}
use Rattle.gql_doc.specs.Reading.{parsed_by, type_text}
use Rattle.gql_doc.proofs.Classify.{if_ok_is}
use Rattle.gql_doc.proofs.ParseLaws.{type_gives, type_spelled, type_faulty}
use Rattle.gql_doc.proofs.parse.parse_type.Goals as goal

pub returns-clause-given : goal.returns-clause-given
returns-clause-given c =
    if_ok_is c.type_of_tokens.result (parsed_by type_text c.in_ok-tokens.tokens) (λ outcome. GivesType (chars c.args.text.now) outcome) c.type_of_tokens.ensures (type_gives (chars c.args.text.now) c.in_ok-tokens.tokens c.in_ok-tokens.ensures.exact)

pub returns-clause-spelled : goal.returns-clause-spelled
returns-clause-spelled c = λ ty s.
    if_ok_is c.type_of_tokens.result (parsed_by type_text c.in_ok-tokens.tokens) (λ outcome. outcome ≡ Ok ty) c.type_of_tokens.ensures (type_spelled (chars c.args.text.now) c.in_ok-tokens.tokens c.in_ok-tokens.ensures.exact ty s)

pub returns-clause-faulty : goal.returns-clause-faulty
returns-clause-faulty c = λ fault f.
    if_ok_is c.type_of_tokens.result (parsed_by type_text c.in_ok-tokens.tokens) (λ outcome. outcome ≡ Err fault) c.type_of_tokens.ensures (type_faulty (chars c.args.text.now) c.in_ok-tokens.tokens c.in_ok-tokens.ensures.exact fault f)
