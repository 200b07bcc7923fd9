use Rattle.std.proofs.Common.{◌≡◌, Some, IfOk, sym, subst}
use Rattle.gql_base.specs.declared.type_ref.TypeRef.TheVariants as ref
use Rattle.gql_meaning.specs.Completion.{completed, Completed}
use Rattle.gql_resolve.specs.declared.field_value.FieldValue.{FieldValue}
use Rattle.gql_schema.specs.Table.{types_of}
use Rattle.gql_complete.proofs.CompleteLemmas.{list_given, listed_items, listed_values}
use Rattle.gql_complete.proofs.complete_value.+complete.Goals as goal

pub complete_items-returns : goal.complete_items-returns
complete_items-returns g t c =
    listed_items g.row.V.Denot (types_of c.args.known.now.types.now) c.args.inner.now c.is_nullable.result _ c.args.items c.is_nullable.ensures c.in_ok-shapes.ensures

pub complete_list-returns-in-List : goal.complete_list-returns-in-List
complete_list-returns-in-List g t c =
    let table = types_of c.args.known.now.types.now in
    let inner = c.args.inner.now in
    subst (λ (given : FieldValue g.row.V.Denot). IfOk c.complete_items.result (λ shape. shape ≡ completed table (ref.List inner) (Some given))) (sym c.in-List.is)
    (subst (λ (s : Completed g.row.V.Denot). IfOk c.complete_items.result (λ shape. shape ≡ s)) (sym (list_given g.row.V.Denot table inner c.in-List.items)) c.complete_items.ensures)

pub complete_values-returns : goal.complete_values-returns
complete_values-returns g t c =
    listed_values g.row.V.Denot (types_of c.args.known.now.types.now) c.args.inner.now c.is_nullable.result _ c.args.items c.is_nullable.ensures c.in_ok-shapes.ensures
