-- Some responses, computed: what is raised, joined and told.
use Rattle.std.proofs.Common.{rules, ◌≡◌, ℕ, pos, true, false, List, [], ◌∷◌, map, None, refl, ap}
use Rattle.std.specs.Prelude.{codes}
use Rattle.std.specs.declared.alloc.Global.{Global}
use Rattle.std.specs.declared.vec.Vec.{Vec}
use Rattle.gql_base.specs.declared.error.Error.{Error}
use Rattle.gql_base.specs.declared.path_segment.PathSegment.TheVariants.{Field, Index}
use Rattle.gql_base.specs.declared.pos.Pos.{Pos}
use Rattle.gql_base.specs.declared.value.Value.{Value}
use Rattle.gql_base.specs.declared.value.Value.TheVariants as value
use Rattle.gql_place.specs.declared.pieces.MemberPieces.TheVariants as member_pieces
use Rattle.gql_place.specs.declared.pieces.Pieces.TheVariants as pieces
use Rattle.gql_place.specs.declared.place.Place.{Place}
use Rattle.gql_place.specs.declared.place.Tree.{Tree, the_lemmas}
use Rattle.gql_place.specs.declared.place.Tree.TheVariants as tree
use Rattle.gql_place.specs.Alike.{Same}
use Rattle.gql_place.specs.Faults.{faults_of, located}
use Rattle.gql_place.specs.HeaderOps.{ops_of}
use Rattle.gql_place.specs.Join.{join}
use Rattle.gql_place.specs.Pieces.{data_place, members_in, places_in}
use Rattle.gql_place.specs.Raised.{raised}
use Rattle.gql_request.specs.declared.header_op.HeaderOp.{HeaderOp}

abbrev field_pos : Pos
field_pos = record { line = 1; column = 3 }

abbrev nullable : Tree → Place
nullable t = record { pos = field_pos; non_null = false; added = []; headers = []; tree = t }

abbrev non_null : Tree → Place
non_null t = record { pos = field_pos; non_null = true; added = []; headers = []; tree = t }

abbrev number : ℕ → Tree
number n = tree.Leaf (value.Number (pos n))

abbrev bad : Error
bad = record { message = codes "bad"; extensions = None }

abbrev root : List (List ℕ × Place) → Place
root members = nullable (tree.Object members)

-- a failed item of a list of non-null items: the list is null
raised_item :
    raised (root ((codes "values", nullable (tree.List (non_null (number 1) ∷ non_null (tree.Fault bad) ∷ []))) ∷ []))
    ≡ value.Object ((codes "values", value.Null) ∷ [])
raised_item = search (rules, the_lemmas)

-- a failed field that may be null: its object stays
raised_field : raised (root ((codes "a", nullable (tree.Fault bad)) ∷ (codes "b", nullable (number 2)) ∷ []))
    ≡ value.Object ((codes "a", value.Null) ∷ (codes "b", value.Number (pos 2)) ∷ [])
raised_field = search (rules, the_lemmas)

-- a failed field of the root that may not be null: there is no data
raised_root : raised (root ((codes "a", non_null (tree.Fault bad)) ∷ [])) ≡ value.Null
raised_root = search (rules, the_lemmas)

-- the error stands once, with its path
told_item :
    faults_of (root ((codes "values", nullable (tree.List (non_null (number 1) ∷ non_null (tree.Fault bad) ∷ []))) ∷ []))
    ≡ located field_pos (Field (codes "values") ∷ Index 1 ∷ []) bad ∷ []
told_item = search (rules, the_lemmas)

-- an added error nulls nothing, and stands before the fault under it
added_first : raised (record (root []) { added = bad ∷ [] }) ≡ value.Object []
added_first = search (rules, the_lemmas)

-- header operations stay where the place is null
kept_headers : (op : HeaderOp) → ops_of (root ((codes "a", record (non_null (tree.Fault bad)) { headers = op ∷ [] }) ∷ [])) ≡ op ∷ []
kept_headers op = search (rules, the_lemmas)

-- of two places under one key the first stays, and a key that is new comes after
joined_members :
    join (root ((codes "a", nullable (number 1)) ∷ [])) (root ((codes "a", nullable (number 2)) ∷ (codes "b", nullable (number 3)) ∷ []))
    ≡ root ((codes "a", nullable (number 1)) ∷ (codes "b", nullable (number 3)) ∷ [])
joined_members = search (rules, the_lemmas)

-- lists are joined item by item at every depth, and further items of the second are left out
abbrev listed : Place → List Place → Place
listed item others = nullable (tree.List (item ∷ others))

joined_lists :
    join (listed (listed (root ((codes "a", nullable (number 1)) ∷ [])) []) [])
    (listed (listed (root ((codes "b", nullable (number 2)) ∷ [])) (nullable (number 3) ∷ [])) [])
    ≡ listed (listed (root ((codes "a", nullable (number 1)) ∷ (codes "b", nullable (number 2)) ∷ [])) []) []
joined_lists = search (rules, the_lemmas)

-- the second's errors are not told again
first_errors : faults_of (join (record (nullable (number 1)) { added = bad ∷ [] }) (record (nullable (number 1)) { added = bad ∷ bad ∷ [] })) ≡ located field_pos [] bad ∷ []
first_errors = search (rules, the_lemmas)

-- a place of data tells it, and nothing else
data_told :
    (raised (data_place (value.Number (pos 1))) ≡ value.Number (pos 1))
    × (faults_of (data_place (value.Number (pos 1))) ≡ []) × (ops_of (data_place (value.Number (pos 1))) ≡ [])
data_told = (search (rules, the_lemmas), search (rules, the_lemmas), search (rules, the_lemmas))

-- an object and a list of data tell the same as one value
data_as_one :
    Same false (data_place (value.Object ((codes "values", value.List (value.Number (pos 1) ∷ value.Null ∷ [])) ∷ [])))
    (root ((codes "values", nullable (tree.List (non_null (number 1) ∷ nullable tree.Absent ∷ []))) ∷ []))
data_as_one = record {
  data_is = search (rules, the_lemmas);
  faults_are = λ path. search (rules, the_lemmas);
  ops_are = search (rules, the_lemmas);
}

-- a fault isn't null: it has an error
fault_differs : Same false (data_place value.Null) (nullable (tree.Fault bad)) → ⊥
fault_differs is =
    let none : faults_of (data_place value.Null) ≡ [] = search (rules, the_lemmas) in
    let one : faults_of (nullable (tree.Fault bad)) ≡ located field_pos [] bad ∷ [] = search (rules, the_lemmas) in
    let same : faults_of (data_place value.Null) ≡ faults_of (nullable (tree.Fault bad)) = is.faults_are [] in
    cc

-- data in a row stands for a place of each value
row_of_data : (values : Vec Value Global) → values.items ≡ value.Null ∷ value.Number (pos 1) ∷ []
    → places_in (pieces.Data values) ≡ data_place value.Null ∷ data_place (value.Number (pos 1)) ∷ []
row_of_data values are = ap (map data_place) are

-- a member of data keeps its name
member_of_data : members_in (member_pieces.Data ((codes "a", value.Null) ∷ [])) ≡ (codes "a", data_place value.Null) ∷ []
member_of_data = refl
