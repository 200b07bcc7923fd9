-- What the places of a response do to the headers of the HTTP response: each place before those
-- under it, nulled or not.
use Rattle.std.specs.Prelude.{List, [], ◌++◌}
use Rattle.std.specs.List.{flat_map}
use Rattle.gql_request.specs.declared.header_op.HeaderOp.{HeaderOp}
use Rattle.gql_place.specs.declared.place.Place.{Place}
use Rattle.gql_place.specs.declared.place.Tree.{Tree}
use Rattle.gql_place.specs.declared.place.Tree.TheOpen.{Tree-F, Place-F}
use Rattle.gql_place.specs.declared.place.Tree.TheFolds.{fold-Place, fold-Tree}

-- the operations of what stands at a place: those of the places under it
abbrev pub tree_step : Tree-F (List HeaderOp) (List HeaderOp) → List HeaderOp
tree_step Tree-F.Absent = []
tree_step (Tree-F.Leaf leaf) = []
tree_step (Tree-F.Fault error) = []
tree_step (Tree-F.Object members) = flat_map (λ member. member.1) members
tree_step (Tree-F.List items) = flat_map (λ ops. ops) items

-- a place's own operations, then those under it
abbrev pub place_step : Place-F (List HeaderOp) (List HeaderOp) → List HeaderOp
place_step place = place.headers ++ place.tree

-- the operations of a place and of all under it
abbrev pub ops_of : Place → List HeaderOp
ops_of = fold-Place (List HeaderOp) (List HeaderOp) tree_step place_step

-- the operations of what stands at a place
abbrev pub tree_ops : Tree → List HeaderOp
tree_ops = fold-Tree (List HeaderOp) (List HeaderOp) tree_step place_step
