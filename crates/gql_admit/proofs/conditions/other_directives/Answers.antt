use Rattle.std.proofs.Common.{rules, ◌||◌, not, ap, ◌∙◌}
use Rattle.std.proofs.lemmas.Fn.{filter_same}
use Rattle.gql_doc.specs.declared.document.Directive.{Directive}
use Rattle.gql_doc.specs.declared.document.Positioned.{Positioned}
use Rattle.gql_select.specs.Kept.{is_include, is_skip, others}
use Rattle.gql_admit.proofs.conditions.other_directives.Goals as goal

pub returns : goal.returns
returns c =
    c.from_vec.ensures
    ∙ filter_same _ (λ (directive : Positioned Directive). not (is_skip directive.node || is_include directive.node)) _ (λ x b f' k. search rules) _ _
    c.retain.ensures.filtered
    ∙ ap others c.into_vec-list.ensures
