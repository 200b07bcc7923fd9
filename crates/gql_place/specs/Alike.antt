-- Places that tell a response the same: the same data, the same errors at each path, and the same
-- operations on headers.
use Rattle.std.specs.Prelude.{◌≡◌, ℕ, Bool, true, false, List, [], ◌∷◌}
use Rattle.gql_base.specs.declared.path_segment.PathSegment.{PathSegment}
use Rattle.gql_base.specs.declared.pos.Pos.{Pos}
use Rattle.gql_place.specs.Faults.{faults_at, tree_faults}
use Rattle.gql_place.specs.HeaderOps.{ops_of, tree_ops}
use Rattle.gql_place.specs.Raised.{tree_value, value_at}
use Rattle.gql_place.specs.declared.place.Place.{Place}
use Rattle.gql_place.specs.declared.place.Tree.{Tree}

-- two places
pub record AreAlike (a b : Place) : Type 0 where
  pub data_is : value_at a ≡ value_at b
  pub faults_are : (path : List PathSegment) → faults_at a path ≡ faults_at b path
  pub ops_are : ops_of a ≡ ops_of b

-- what stands at two places
pub record AreAlikeTrees (a b : Tree) : Type 0 where
  pub data_is : tree_value a ≡ tree_value b
  pub faults_are : (pos : Pos) (path : List PathSegment)
      → tree_faults a pos path ≡ tree_faults b pos path
  pub ops_are : tree_ops a ≡ tree_ops b

-- two lists whose items stand in a relation, one by one
abbrev pub Paired : {X Y : Type 0} → (X → Y → Type 0) → List X → List Y → Type 0
Paired R [] [] = Unit {0}
Paired R [] (y ∷ ys) = ⊥
Paired R (x ∷ xs) [] = ⊥
Paired R (x ∷ xs) (y ∷ ys) = R x y × Paired R xs ys

-- two members of one name
abbrev pub AreAlikeMembers : List ℕ × Place → List ℕ × Place → Type 0
AreAlikeMembers m n = (m.0 ≡ n.0) × AreAlike m.1 n.1

-- two places are the same: as a whole, or in what they tell
abbrev pub Same : (whole : Bool) → Place → Place → Type 0
Same true a b = a ≡ b
Same false a b = AreAlike a b

-- the same of what stands at them
abbrev pub SameTree : (whole : Bool) → Tree → Tree → Type 0
SameTree true a b = a ≡ b
SameTree false a b = AreAlikeTrees a b

-- of places in a row
abbrev pub SameItems : (whole : Bool) → List Place → List Place → Type 0
SameItems true ps qs = ps ≡ qs
SameItems false ps qs = Paired AreAlike ps qs

-- of the members of an object
abbrev pub SameMembers : (whole : Bool) → List (List ℕ × Place) → List (List ℕ × Place) → Type 0
SameMembers true ms ns = ms ≡ ns
SameMembers false ms ns = Paired AreAlikeMembers ms ns
