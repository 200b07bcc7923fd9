use Rattle.std.proofs.Common.{rules, ◌≡◌, slice_get, ap, sym, ◌∙◌}
use Rattle.std.specs.Option.{option_copied}
use Rattle.gql_doc.specs.declared.document.Selection.{the_lemmas, out-Selection}
use Rattle.gql_doc.specs.declared.document.Selection.TheOpen.{Selection-F}
use Rattle.gql_resolve_tests.proofs.QueryLemmas.{first_nests}
use Rattle.gql_resolve_tests.proofs.queries.first_field.Goals as goal

pub returns-in-Field : goal.returns-in-Field
returns-in-Field c =
    let selection = c.in-Some.selection.now in
    let at = ap (λ xs. slice_get xs 0) (sym c.as_slice-selections.ensures) ∙ sym c.first.ensures.value ∙ ap option_copied c.in-Some.is in
    let opened : out-Selection selection.node ≡ Selection-F.Field c.in-Field.field = ap out-Selection c.in-Field.is ∙ search (rules, the_lemmas) in
    first_nests c.args.env.now selection c.in-Field.field c.levels-levels.ensures.nests at opened
