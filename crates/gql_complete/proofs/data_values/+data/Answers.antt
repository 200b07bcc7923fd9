use Rattle.std.proofs.Common.{◌≡◌, IsTrue, Some, length, map, refl, subst, sym, ◌∙◌, arith}
use Rattle.std.proofs.lemmas.Option.{slice_get_read}
use Rattle.gql_base.specs.declared.type_ref.TypeRef.TheVariants as ref
use Rattle.gql_meaning.specs.Completion.{completed, required}
use Rattle.gql_place.specs.Raised.{all_items}
use Rattle.gql_resolve.specs.declared.field_value.FieldValue.TheVariants as kind
use Rattle.gql_schema.specs.Table.{types_of}
use Rattle.gql_complete.specs.Data.{data_at, data_of}
use Rattle.gql_complete.proofs.DataLemmas.{data_list, data_list_null, data_non_null, each_begins, each_more, each_passed, required_data}
use Rattle.gql_complete.proofs.data_values.+data.Goals as goal

pub is_data_value-returns-in-NonNull : goal.is_data_value-returns-in-NonNull
is_data_value-returns-in-NonNull g t c = λ yes.
    let table = types_of c.args.known.now.types.now in
    let value = c.args.value.now in
    data_non_null g.row.V.Denot table c.args.ty.now c.in-NonNull.inner value c.in-NonNull.is
    (subst (λ ty. data_of (required (completed {V = g.row.V.Denot} table ty (Some (kind.Value value)))) ≡ Some value) c.get.ensures (c.is_data_non_null.ensures yes))

pub is_data_value-returns-in-List : goal.is_data_value-returns-in-List
is_data_value-returns-in-List g t c = λ yes.
    let table = types_of c.args.known.now.types.now in
    let value = c.args.value.now in
    subst (λ ty. data_at g.row.V.Denot table ty value ≡ Some value) (sym c.in-List.is)
    (subst (λ inner. data_at g.row.V.Denot table (ref.List inner) value ≡ Some value) c.get-in-List.ensures (c.is_data_list.ensures yes))

pub is_data_non_null-returns : goal.is_data_non_null-returns
is_data_non_null-returns g t c = λ yes.
    let value = c.args.value.now in
    required_data g.row.V.Denot (completed {V = g.row.V.Denot} (types_of c.args.known.now.types.now) c.args.inner.now (Some (kind.Value value))) value
    (sym c.is_null_value.ensures ∙ c.if-is_null_value.false) (c.is_data_value.ensures yes)

pub is_data_list-returns-in-Null : goal.is_data_list-returns-in-Null
is_data_list-returns-in-Null g t c = λ yes.
    data_list_null g.row.V.Denot (types_of c.args.known.now.types.now) c.args.inner.now c.args.value.now c.in-Null.is

pub is_data_list-returns-in-List : goal.is_data_list-returns-in-List
is_data_list-returns-in-List g t c = λ yes.
    let table = types_of c.args.known.now.types.now in
    data_list g.row.V.Denot table c.args.inner.now c.args.value.now c.in-List.items c.in-List.is
    (subst (λ items. all_items (map (data_at g.row.V.Denot table c.args.inner.now) items) ≡ Some items) (c.as_slice.ensures ∙ c.deref.ensures) (c.are_data.ensures yes))

pub are_data-loop-value-init : goal.are_data-loop-value-init
are_data-loop-value-init g t c = each_begins (data_at g.row.V.Denot (types_of c.args.known.now.types.now) c.args.ty.now) c.args.values.now

pub are_data-loop-value-preserved : goal.are_data-loop-value-preserved
are_data-loop-value-preserved g t c =
    let each = data_at g.row.V.Denot (types_of c.args.known.now.types.now) c.args.ty.now in
    let so : IsTrue c.is_data_value.result = cc in
    each_more each c.args.values.now c.loop-value.value-index _ c.loop-value.invariant
    (slice_get_read c.args.values.now (length c.args.values.now) c.loop-value.value-index c.value-item.result refl (omega arith) c.value-item.is)
    (c.is_data_value.ensures so)

pub are_data-returns : goal.are_data-returns
are_data-returns g t c = λ yes.
    each_passed (data_at g.row.V.Denot (types_of c.args.known.now.types.now) c.args.ty.now) c.args.values.now c.loop-value.value-index c.loop-value.invariant (omega arith)
