use Rattle.std.proofs.Common.{arith, codes}
use Rattle.std.proofs.lemmas.Result.{on_ok_weaker}
use Rattle.gql_base.specs.ErrorJson.{extensions_member}
use Rattle.gql_base.specs.Json.{json}
use Rattle.gql_base.specs.declared.value.Value.TheVariants.{Object}
use Rattle.gql_base.proofs.ErrorJsonLemmas.{extensions-there, two-appended}
use Rattle.gql_base.proofs.error_json.push_extensions.Goals as goal

pub returns-in_ok-push_str-in-Some : goal.returns-in_ok-push_str-in-Some
returns-in_ok-push_str-in-Some c =
    let there = extensions-there c.args.extensions.now c.in-Some.values c.in-Some.is (omega (arith, c.len.ensures.length)) in
    on_ok_weaker c.push_extension_values.result
    (λ last. two-appended _ _ _ (codes ",\"extensions\":") (json (Object c.in-Some.values)) (extensions_member c.args.extensions.now) c.in_ok-push_str-in-Some.ensures.bytes last there)
    c.push_extension_values.ensures
