use Rattle.std.proofs.Common.{arith, slice_get, ap, sym, ◌∙◌, length}
use Rattle.gql_schema.specs.Faults.{member_fault}
use Rattle.gql_schema.specs.Table.{types_of}
use Rattle.gql_schema.specs.Union.{members_of}
use Rattle.gql_lists.proofs.FirstLemmas.{first_here, first_more, first_passed}
use Rattle.gql_schema.proofs.checks.check_union.Goals as goal

pub returns-then-is_some : goal.returns-then-is_some
returns-then-is_some c =
    first_here (member_fault (types_of c.args.types.now) c.args.union_type.now) (members_of c.args.union_type.now) c.loop-place.place _ c.in_ok-found.found
    c.is_some.result c.loop-place.invariant (ap (λ xs. slice_get xs c.loop-place.place) (sym c.members-members.ensures) ∙ c.at-name.ensures)
    c.in_ok-found.ensures c.is_some.ensures c.if-is_some.true

pub loop-place-preserved : goal.loop-place-preserved
loop-place-preserved c =
    first_more (member_fault (types_of c.args.types.now) c.args.union_type.now) (members_of c.args.union_type.now) c.loop-place.place _ c.in_ok-found.found
    c.is_some.result c.loop-place.invariant (ap (λ xs. slice_get xs c.loop-place.place) (sym c.members-members.ensures) ∙ c.at-name.ensures)
    c.in_ok-found.ensures c.is_some.ensures c.if-is_some.false

pub returns : goal.returns
returns c =
    first_passed (member_fault (types_of c.args.types.now) c.args.union_type.now) (members_of c.args.union_type.now) c.loop-place.place c.loop-place.invariant
    (omega (arith, ap length c.members-members.ensures))
