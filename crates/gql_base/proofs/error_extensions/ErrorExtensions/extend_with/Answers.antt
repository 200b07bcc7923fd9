use Rattle.std.proofs.Common.{ap, refl, ◌∙◌}
use Rattle.std.proofs.lemmas.Result.{IfOk-weaker}
use Rattle.gql_base.specs.ErrorExtensions.{extended}
use Rattle.gql_base.proofs.ErrorExtensionsLemmas.{leaves-from}
use Rattle.gql_base.proofs.error_extensions.ErrorExtensions.extend_with.Goals as goal

pub returns : goal.returns
returns g c =
    let values = c.callback.new.arg3 in
    IfOk-weaker c.with_values.result _ _
    (λ error is. record {
      values = values;
      added = leaves-from g.C.FnOnce c.args.callback _ _ _ c.callback.result c.args.self values tt c.callback.ensures c.in_ok-callback.was refl c.new-values.ensures refl;
      is = is ∙ ap (λ plain. extended plain values) c.in_ok-extend.ensures;
    })
    c.with_values.ensures
