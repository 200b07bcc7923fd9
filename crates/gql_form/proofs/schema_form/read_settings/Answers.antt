use Rattle.gql_form.proofs.AskedLemmas.{also_asked}
use Rattle.gql_form.proofs.schema_form.read_settings.Goals as goal

pub returns-clause-asked : goal.returns-clause-asked
returns-clause-asked c =
    also_asked _ c.in_ok-entities.ensures.asked
    (also_asked _ c.in_ok-federation.ensures.asked
    (also_asked _ c.in_ok-introspection.ensures.asked
    (also_asked _ c.in_ok-directives.ensures.asked c.in_ok-depth.ensures.asked)))
