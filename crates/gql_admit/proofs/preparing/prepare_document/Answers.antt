use Rattle.std.proofs.Common.{sym, ◌∙◌}
use Rattle.gql_fields.specs.Terms.{terms_of}
use Rattle.gql_admit.proofs.StagesLemmas.{beyond_limits}
use Rattle.gql_admit.proofs.preparing.prepare_document.Goals as goal

-- a limit is broken
pub returns-in_ok-alone-in-Err : goal.returns-in_ok-alone-in-Err
returns-in_ok-alone-in-Err c =
    beyond_limits (terms_of c.args.site.now) c.args.request.now c.args.document c.in-Err.error c.in_ok-alone-in-Err.field-0
    (sym c.in_ok-check_limits.ensures.checked ∙ c.in-Err.is) c.in_ok-alone-in-Err.ensures
