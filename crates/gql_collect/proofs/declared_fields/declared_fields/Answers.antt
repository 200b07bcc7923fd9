use Rattle.std.proofs.Common.{rules, ap, length, List, subst, sym, ◌∙◌}
use Rattle.std.proofs.lemmas.Fn.{filter_same}
use Rattle.std.specs.Borrow.{Bor}
use Rattle.gql_doc.specs.declared.document.Field.{Field}
use Rattle.gql_doc.specs.declared.document.Positioned.{Positioned}
use Rattle.gql_select.specs.Alike.{name_of}
use Rattle.gql_select.specs.Behind.{all_behind}
use Rattle.gql_collect.specs.Basis.{execution_of}
use Rattle.gql_collect.specs.DeclaredFields.{AreDeclared, declares}
use Rattle.gql_collect.proofs.CollectedLemmas.{behind_kept}
use Rattle.gql_collect.proofs.DeclaredFieldLemmas.{all_declared}
use Rattle.gql_collect.proofs.declared_fields.declared_fields.Goals as goal

pub returns : goal.returns
returns c =
    let execution = execution_of c.args.basis.now in
    ap all_behind
    (filter_same _ (λ (field : Bor (Positioned Field)). declares execution c.args.object.now (name_of field.now)) _ (λ x b f' k. search rules) _ _
    c.retain.ensures.filtered)
    ∙ behind_kept (λ field. declares execution c.args.object.now (name_of field)) c.args.fields.items

pub returns-then-are_declared : goal.returns-then-are_declared
returns-then-are_declared c =
    let execution = execution_of c.args.basis.now in
    let object = c.args.object.now in
    sym (all_declared execution object c.args.fields.items
    (subst (λ (fields : List (Bor (Positioned Field))). AreDeclared execution object fields (length fields)) c.as_slice.ensures.value
    (c.are_declared.ensures c.if-are_declared.true)))
