use Rattle.std.proofs.Common.{◌≡◌, ◌++◌, OnOk, ap, sym, ◌∙◌, subst, List}
use Rattle.gql_request.specs.declared.header_op.HeaderOp.{HeaderOp}
use Rattle.std.specs.List.{flat_map}
use Rattle.gql_place.specs.HeaderOps.{ops_of, tree_ops}
use Rattle.gql_place.proofs.PartLemmas.{next_of, ops_of_list, ops_of_object}
use Rattle.gql_place.proofs.place_headers.+headers.Goals as goal

pub push_members-loop-index-preserved : goal.push_members-loop-index-preserved
push_members-loop-index-preserved t c =
    next_of (λ member. ops_of member.1) c.args.members.now c.loop-index.index _ c.args.ops.now c.loop-index.ops c.push_place.new.ops c.at.ensures
    c.loop-index.invariant c.in_ok-push_place.ensures

pub push_tree-returns-in-Object : goal.push_tree-returns-in-Object
push_tree-returns-in-Object t c =
    let G : List HeaderOp → Type 0 = λ ops. OnOk c.push_members.result (c.push_members.new.ops ≡ c.args.ops.now ++ ops) in
    subst G (sym (ap tree_ops c.in-Object.is ∙ ops_of_object c.in-Object.members)) c.push_members.ensures

pub push_tree-returns-in-List : goal.push_tree-returns-in-List
push_tree-returns-in-List t c =
    let G : List HeaderOp → Type 0 = λ ops. OnOk c.push_items.result (c.push_items.new.ops ≡ c.args.ops.now ++ ops) in
    subst G (sym (ap tree_ops c.in-List.is ∙ ops_of_list c.in-List.items ∙ ap (λ items. flat_map ops_of items) (sym c.as_slice.ensures))) c.push_items.ensures
