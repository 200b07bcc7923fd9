use Rattle.std.proofs.Common.{ap, ◌∙◌}
use Rattle.gql_admit.specs.Refusal.{directives_error}
use Rattle.gql_admit.proofs.CrowdedLemmas.{directives_pass, directives_refused}
use Rattle.gql_admit.proofs.directives.check_nested.Goals as goal

pub returns-in-None-clause-checked : goal.returns-in-None-clause-checked
returns-in-None-clause-checked g c =
    directives_pass c.args.doc.now c.args.limit c.args.levels c.requires (rw c.in-None.is at c.in_ok-first_crowded.ensures.found)

pub returns-in_ok-directives_error-in-Some-clause-checked :
    goal.returns-in_ok-directives_error-in-Some-clause-checked
returns-in_ok-directives_error-in-Some-clause-checked g c =
    directives_refused c.args.doc.now c.args.limit c.args.levels c.requires c.in-Some.field.now _ (rw c.in-Some.is at
    c.in_ok-first_crowded.ensures.found)
    (c.in_ok-directives_error-in-Some.ensures
    ∙ ap (λ name. directives_error c.args.limit name c.in-Some.field.now.pos) c.as_str-name.ensures)
