-- The objects of a list, which get their members one after another.
use Rattle.std.proofs.Common.{rules, ◌≡◌, ℕ, suc, Bool, List, [], ◌∷◌, ◌++◌, replicate, refl, ap, sym, subst, ◌∙◌}
use Rattle.gql_base.specs.declared.pos.Pos.{Pos}
use Rattle.gql_meaning.specs.Responses.{Members}
use Rattle.gql_place.specs.Alike.{Same, SameItems, SameTree}
use Rattle.gql_place.specs.Filled.{item_of}
use Rattle.gql_place.specs.declared.place.Place.{Place}
use Rattle.gql_place.specs.declared.place.Tree.{Tree}
use Rattle.gql_place.specs.declared.place.Tree.TheVariants as tree
use Rattle.gql_place.specs.declared.shape.Shape.{the_lemmas}
use Rattle.gql_place.specs.declared.shape.Shape.TheVariants as shape
use Rattle.gql_objects.specs.Assembly.{AreApart, members_each}
use Rattle.gql_complete.specs.FillShape.{all_trees, first_members, Made, made_of, other_members}
use Rattle.gql_objects.specs.Parents.{Standing}
use Rattle.gql_complete.specs.FoundObjects.{Bare}
use Rattle.gql_complete.proofs.FillLemmas.{filled_more, filled_none}

-- an object without what it is
abbrev an_object : Bare
an_object = shape.Object tt tt

-- as many of them
abbrev pub some_objects : ℕ → List Bare
some_objects count = replicate {A = Bare} count an_object

made-Object : (pos : Pos) (members : List Members)
    → made_of pos an_object members ≡ record { tree = tree.Object (first_members members); left = other_members members }
made-Object pos members = search (rules, the_lemmas)

-- how far the objects of a list have their members, where so many are left
pub record IsGoing {V : Type 0} (pos : Pos) (non_null whole : Bool) (left : ℕ) (places all : List Place) (standings : List (Standing V))
    (own : List Place) : Type 0 where
  pub apart : AreApart whole standings
  pub places_are : SameItems whole (places ++ all_trees pos non_null (some_objects left) (members_each standings own)) all

module _ {V : Type 0} (pos : Pos) (non_null whole : Bool) where
  -- none has any yet
  pub going_first : (left count : ℕ) (places : List Place) (standings : List (Standing V)) (own : List Place) → left ≡ count → places ≡ []
      → AreApart whole standings
      → IsGoing pos non_null whole left places (all_trees pos non_null (some_objects count) (members_each standings own)) standings own
  going_first left count places standings own is none apart = record {
    apart = apart;
    places_are = filled_none whole (all_trees pos non_null (some_objects left) (members_each standings own)) places
        (all_trees pos non_null (some_objects count) (members_each standings own)) none
        (ap (λ n. all_trees pos non_null (some_objects n) (members_each standings own)) is);
  }

  -- one more has its own
  pub going_on : (left : ℕ) (places places' all : List Place) (standings standings' : List (Standing V)) (own own' : List Place)
      (made : Tree) (place : Place)
      → (AreApart whole standings → SameTree whole made (tree.Object (first_members (members_each standings own))))
      → members_each standings' own' ≡ other_members (members_each standings own) → (AreApart whole standings → AreApart whole standings')
      → Same whole place (item_of pos non_null made) → places' ≡ places ++ place ∷ []
      → IsGoing pos non_null whole (suc left) places all standings own → IsGoing pos non_null whole left places' all standings' own'
  going_on left places places' all standings standings' own own' made place made_is left_is apart_is place_is added before =
      let members : List Members = members_each standings own in
      let object : Made → Tree = λ m. m.tree in
      let others : Made → List Members = λ m. m.left in record {
        apart = apart_is before.apart;
        places_are =
            filled_more pos non_null whole places places' all (some_objects (suc left)) (some_objects left) an_object members
            (members_each standings' own') made place refl
            (subst (SameTree whole made) (sym (ap object (made-Object pos members))) (made_is before.apart))
            (left_is ∙ sym (ap others (made-Object pos members))) place_is added before.places_are;
      }
