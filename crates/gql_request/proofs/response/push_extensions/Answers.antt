use Rattle.std.proofs.Common.{codes, ◌∙◌}
use Rattle.std.proofs.lemmas.Result.{on_ok_weaker}
use Rattle.std.specs.Prelude.{Some}
use Rattle.gql_base.specs.ErrorJson.{extensions_member}
use Rattle.gql_base.specs.Json.{json}
use Rattle.gql_base.specs.declared.value.Value.TheVariants.{Object}
use Rattle.gql_base.proofs.ErrorJsonLemmas.{two-appended}
use Rattle.gql_request.proofs.ResponseLemmas.{extensions_there}
use Rattle.gql_request.proofs.response.push_extensions.Goals as goal

pub returns : goal.returns
returns c =
    let there = extensions_there c.args.extensions.now (λ none. c.if-len-eq0.false (c.len.ensures.length ∙ none)) in
    on_ok_weaker c.push_extension_values.result
    (λ last. two-appended _ _ _ (codes ",\"extensions\":") (json (Object c.args.extensions.now)) (extensions_member (Some c.args.extensions.now)) c.in_ok-push_str.ensures.bytes last there)
    c.push_extension_values.ensures
