-- The errors of a response (GraphQL, October 2021, sections 6.4.4 and 7.1.2).
use Rattle.std.specs.Prelude.{ℕ, ◌+◌, List, [], ◌∷◌, ◌++◌, map}
use Rattle.std.specs.List.{flat_map}
use Rattle.gql_base.specs.declared.error.Error.{Error}
use Rattle.gql_base.specs.declared.path_segment.PathSegment.{PathSegment}
use Rattle.gql_base.specs.declared.path_segment.PathSegment.TheVariants.{Field, Index}
use Rattle.gql_base.specs.declared.pos.Pos.{Pos}
use Rattle.gql_base.specs.declared.server_error.ServerError.{ServerError}
use Rattle.gql_place.specs.declared.place.Place.{Place}
use Rattle.gql_place.specs.declared.place.Tree.{Tree}
use Rattle.gql_place.specs.declared.place.Tree.TheOpen.{Tree-F, Place-F}
use Rattle.gql_place.specs.declared.place.Tree.TheFolds.{fold-Place, fold-Tree}

-- an error at a position of the request and a path of the response
abbrev pub located : Pos → List PathSegment → Error → ServerError
located pos path error =
    record {
      message = error.message;
      locations = pos ∷ [];
      path = path;
      extensions = error.extensions;
    }

-- the errors at each path
abbrev pub AtPath : Type 0
AtPath = List PathSegment → List ServerError

-- the errors of the members of an object, whose path this is
abbrev pub beneath_members : List (List ℕ × AtPath) → AtPath
beneath_members members path = flat_map (λ m. m.1 (path ++ Field m.0 ∷ [])) members

-- the errors of the items of a list, the first of which has this index
abbrev pub beneath_items : ℕ → List AtPath → AtPath
beneath_items index [] path = []
beneath_items index (item ∷ items) path =
    item (path ++ Index index ∷ []) ++ beneath_items (index + 1) items path

-- the errors of what stands at a place at this position: its fault, or those under it
abbrev pub tree_step : Tree-F (Pos → AtPath) AtPath → Pos → AtPath
tree_step Tree-F.Absent pos path = []
tree_step (Tree-F.Leaf leaf) pos path = []
tree_step (Tree-F.Fault error) pos path = located pos path error ∷ []
tree_step (Tree-F.Object members) pos path = beneath_members members path
tree_step (Tree-F.List items) pos path = beneath_items 0 items path

-- the added errors of a place, then its fault or the errors under it
abbrev pub place_step : Place-F (Pos → AtPath) AtPath → AtPath
place_step place path = map (located place.pos path) place.added ++ place.tree place.pos path

-- the errors of a place and of all under it
abbrev pub faults_at : Place → AtPath
faults_at = fold-Place (Pos → AtPath) AtPath tree_step place_step

-- the errors of what stands at a place
abbrev pub tree_faults : Tree → Pos → AtPath
tree_faults = fold-Tree (Pos → AtPath) AtPath tree_step place_step

-- the errors of the members of an object at a path
abbrev pub member_faults : List (List ℕ × Place) → AtPath
member_faults members path = beneath_members (map (λ m. (m.0, faults_at m.1)) members) path

-- the errors of the items of a list at a path
abbrev pub item_faults : List Place → AtPath
item_faults items path = beneath_items 0 (map faults_at items) path

-- the errors of a whole response
abbrev pub faults_of : Place → List ServerError
faults_of place = faults_at place []
