use Rattle.std.proofs.Common.{arith, slice_get, refl, ap, sym, ◌∙◌, length}
use Rattle.std.proofs.lemmas.Option.{slice_get_read}
use Rattle.gql_schema.specs.Faults.{implemented_fault}
use Rattle.gql_schema.specs.Object.{interfaces_of}
use Rattle.gql_schema.specs.Table.{types_of}
use Rattle.gql_lists.proofs.FirstLemmas.{first_here, first_more, first_passed}
use Rattle.gql_schema.proofs.checks.check_interfaces.Goals as goal

pub returns-then-is_some : goal.returns-then-is_some
returns-then-is_some c =
    first_here (implemented_fault (types_of c.args.types.now) c.args.object.now) (interfaces_of c.args.object.now) c.loop-place.place c.index-interfaces-place.result
    c.in_ok-found.found c.is_some.result c.loop-place.invariant
    (ap (λ xs. slice_get xs c.loop-place.place) (sym c.interfaces-interfaces.ensures)
    ∙ slice_get_read c.interfaces-interfaces.result.now (length c.interfaces-interfaces.result.now) c.loop-place.place c.index-interfaces-place.result refl
    (omega arith) c.index-interfaces-place.is)
    (c.in_ok-found.ensures ∙ ap (implemented_fault (types_of c.args.types.now) c.args.object.now) c.as_str.ensures) c.is_some.ensures c.if-is_some.true

pub loop-place-preserved : goal.loop-place-preserved
loop-place-preserved c =
    first_more (implemented_fault (types_of c.args.types.now) c.args.object.now) (interfaces_of c.args.object.now) c.loop-place.place c.index-interfaces-place.result
    c.in_ok-found.found c.is_some.result c.loop-place.invariant
    (ap (λ xs. slice_get xs c.loop-place.place) (sym c.interfaces-interfaces.ensures)
    ∙ slice_get_read c.interfaces-interfaces.result.now (length c.interfaces-interfaces.result.now) c.loop-place.place c.index-interfaces-place.result refl
    (omega arith) c.index-interfaces-place.is)
    (c.in_ok-found.ensures ∙ ap (implemented_fault (types_of c.args.types.now) c.args.object.now) c.as_str.ensures) c.is_some.ensures c.if-is_some.false

pub returns : goal.returns
returns c =
    first_passed (implemented_fault (types_of c.args.types.now) c.args.object.now) (interfaces_of c.args.object.now) c.loop-place.place c.loop-place.invariant
    (omega (arith, ap length c.interfaces-interfaces.ensures))
