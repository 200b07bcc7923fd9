-- Places and members, gathered one after another.
use Rattle.std.proofs.Common.{◌≡◌, ℕ, zero, suc, ◌+◌, ◌<◌, List, [], ◌∷◌, ◌++◌, length, map, drop, get_or, Option, Some, None, slice_get, slice_set, refl, ap, sym, subst, ◌∙◌, append_assoc}
use Rattle.std.proofs.lemmas.List.{append-nil, drop_more, map-append}
use Rattle.std.proofs.lemmas.Option.{slice_get_read}
use Rattle.std.specs.Prelude.{Bool, false, is_some, true}
use Rattle.std.specs.declared.alloc.Global.{Global}
use Rattle.std.specs.declared.rc.Rc.{Rc}
use Rattle.gql_base.specs.Pairs.{HasDistinctNames, values_of}
use Rattle.gql_meaning.specs.Responses.{Members}
use Rattle.gql_place.specs.Alike.{Paired, Same, SameItems, SameMembers}
use Rattle.gql_place.specs.Pieces.{members_in}
use Rattle.gql_place.specs.declared.pieces.MemberPieces.{MemberPieces}
use Rattle.gql_place.specs.declared.place.Place.{Place}
use Rattle.gql_place.proofs.PieceLemmas.{items_trans, members_refl, members_trans, paired_refl, paired_trans}
use Rattle.gql_lists.proofs.SliceLemmas.{get_map}
use Rattle.gql_objects.specs.Members.{members_with, place_of, places_behind, places_behind_all, places_with, united_members}
use Rattle.gql_objects.specs.Assembly.{AreApart, members_each}
use Rattle.gql_collect.specs.KeyNames.{names_in}
use Rattle.gql_collect.specs.Levels.{Asked, asked_behind, members_of}
use Rattle.gql_objects.specs.Parents.{Standing, standing_behind}
use Rattle.gql_objects.specs.PlaceStore.{present, put_open}
use Rattle.gql_collect.specs.declared.level.Level.{Level}
use Rattle.gql_collect.specs.declared.level.Node.{Node}
use Rattle.gql_objects.specs.declared.parent.Parent.{Parent}
use Rattle.gql_objects.proofs.ObjectLevelLemmas.{every_at}
use Rattle.gql_complete.proofs.FillLemmas.{items_at}
use Rattle.gql_objects.proofs.SeenLemmas.{united_places}
use Rattle.gql_collect.proofs.LevelLemmas.{members_names, members_values}

-- an open place in front
pub present_open : {P : Type 0} (old new : List (Option P)) (o : Option P) (all : List P) → old ≡ o ∷ new → o ≡ None → present old ≡ all
    → present new ≡ all
present_open old new o all is none before = ap present (sym (is ∙ ap (λ p. p ∷ new) none)) ∙ before

-- a place in front
pub present_there : {P : Type 0} (old new : List (Option P)) (o : Option P) (place : P) (all : List P) → old ≡ o ∷ new → o ≡ Some place
    → present old ≡ all → all ≡ place ∷ present new
present_there old new o place all is some before = sym before ∙ ap present (is ∙ ap (λ p. p ∷ new) some)

-- no place at all
pub present_none : {P : Type 0} (old : List (Option P)) (all : List P) → old ≡ [] → present old ≡ all → all ≡ []
present_none old all none before = sym before ∙ ap present none

-- a place is put where it is open
pub put_none : {P : Type 0} (place : P) (places : List (Option P)) (n : ℕ) → slice_get places n ≡ Some None
    → put_open place places n ≡ slice_set places n (Some place)
put_none place [] n is = absurd (cc)
put_none place (None ∷ places) zero is = refl
put_none place (Some p ∷ places) zero is = absurd (cc)
put_none place (None ∷ places) (suc n) is = ap (λ ps. None ∷ ps) (put_none place places n is)
put_none place (Some p ∷ places) (suc n) is = ap (λ ps. Some p ∷ ps) (put_none place places n is)

pub put_some : {P : Type 0} (place : P) (places : List (Option P)) (n : ℕ) (p : P) → slice_get places n ≡ Some (Some p)
    → put_open place places n ≡ places
put_some place [] n p is = absurd (cc)
put_some place (None ∷ places) zero p is = absurd (cc)
put_some place (Some q ∷ places) zero p is = refl
put_some place (None ∷ places) (suc n) p is = ap (λ ps. None ∷ ps) (put_some place places n p is)
put_some place (Some q ∷ places) (suc n) p is = ap (λ ps. Some q ∷ ps) (put_some place places n p is)

-- the members of a level are those of an object that stands on it
pub level_members : (level : Level) (object : List ℕ) (places : List Place)
    → united_members (names_in level.keys) (places_with object (map asked_behind level.nodes.items) places) ≡ members_with object
    (members_of level) places
level_members level object places =
    λ i. united_members (sym (members_names level) i) (places_with object (sym (members_values level) i) places)

pub level_left : (level : Level) (places : List Place)
    → places_behind_all (map asked_behind level.nodes.items) places ≡ places_behind_all (values_of (members_of level)) places
level_left level places = ap (λ fs. places_behind_all fs places) (sym (members_values level))

-- the members of one object among others that stand in both lists
each_at : (whole : Bool) (ms : List Members) (a b : Members) (rest : List Members) → SameMembers whole a b
    → Paired (SameMembers whole) (ms ++ a ∷ rest) (ms ++ b ∷ rest)
each_at whole [] a b rest same = (same, paired_refl (SameMembers whole) (members_refl whole) rest)
each_at whole (m ∷ ms) a b rest same = (members_refl whole m, each_at whole ms a b rest same)

-- one more object has its members
pub members_more : {V : Type 0} (whole : Bool) (parents : List (Rc (Parent V) Global)) (i : ℕ) (parent : Rc (Parent V) Global)
    (made made' all : List Members) (m : Members)
    (own own' : List Place) → i < length parents → parent ≡ get_or parents i parent → made' ≡ made ++ m ∷ []
    → ((whole ≡ false → HasDistinctNames (members_of parent.value.level.value))
    → SameMembers whole m (members_with parent.value.level.value.object (members_of parent.value.level.value) own))
    → own' ≡ places_behind_all (map asked_behind parent.value.level.value.nodes.items) own
    → (AreApart whole (map standing_behind parents)
    → Paired (SameMembers whole) (made ++ members_each (map standing_behind (drop i parents)) own) all)
    → AreApart whole (map standing_behind parents)
    → Paired (SameMembers whole) (made' ++ members_each (map standing_behind (drop (i + 1) parents)) own') all
members_more whole parents i parent made made' all m own own' within read added m_is own_is before apart =
    let level = parent.value.level.value in
    let rest = map standing_behind (drop (i + 1) parents) in
    let left = own_is ∙ level_left level own in
    let there : slice_get parents i ≡ Some parent = slice_get_read parents (length parents) i parent refl within read in
    let own_apart = every_at (λ (s : Standing _). whole ≡ false → HasDistinctNames s.members) (map standing_behind parents) i
    (standing_behind parent) apart
    (get_map standing_behind parents i parent there) in
    let x = members_with level.object (members_of level) own in
    let others = members_each rest (places_behind_all (values_of (members_of level)) own) in
    let now : made' ++ members_each rest own' ≡ made ++ m ∷ others
    = (λ k. added k ++ members_each rest (left k)) ∙ append_assoc made (m ∷ []) others in
    paired_trans (SameMembers whole) (members_trans whole) (made' ++ members_each rest own') (made ++ x ∷ others) all
    (subst (λ ms. Paired (SameMembers whole) ms (made ++ x ∷ others)) (sym now) (each_at whole made m x others (m_is own_apart)))
    (subst (λ ps. Paired (SameMembers whole) (made ++ members_each (map standing_behind ps) own) all)
    (drop_more parents i parent within ∙ ap (λ p. p ∷ drop (i + 1) parents) (sym read)) (before apart))

-- no object has any yet
pub members_none : {V : Type 0} (whole : Bool) (ss : List (Standing V)) (none all : List Members) (own own' : List Place) → none ≡ []
    → own' ≡ own → all ≡ members_each ss own
    → Paired (SameMembers whole) (none ++ members_each ss own') all
members_none whole ss none all own own' is same all_is =
    subst (Paired (SameMembers whole) (none ++ members_each ss own')) ((λ k. is k ++ members_each ss (same k)) ∙ sym all_is)
    (paired_refl (SameMembers whole) (members_refl whole) (none ++ members_each ss own'))

-- all of them do
pub members_whole : {V : Type 0} (whole : Bool) (ss : List (Standing V)) (made all : List Members) (own : List Place) → ss ≡ []
    → Paired (SameMembers whole) (made ++ members_each ss own) all → Paired (SameMembers whole) made all
members_whole whole ss made all own none filled =
    subst (λ ms. Paired (SameMembers whole) ms all) (ap (λ xs. made ++ members_each xs own) none ∙ append-nil made) filled

-- one more field has its place
pub places_more : (whole : Bool) (object : List ℕ) (nodes : List (Rc Node Global)) (i : ℕ) (node : Rc Node Global)
    (places places' all own own' : List Place) (place : Place)
    → i < length nodes → node ≡ get_or nodes i node → places' ≡ places ++ place ∷ []
    → Same whole place (place_of object (asked_behind node).field.pos (asked_behind node).asks own)
    → own' ≡ places_behind (asked_behind node).asks own
    → SameItems whole (places ++ places_with object (map asked_behind (drop i nodes)) own) all
    → SameItems whole (places' ++ places_with object (map asked_behind (drop (i + 1) nodes)) own') all
places_more whole object nodes i node places places' all own own' place within read added same left before =
    let rest = map asked_behind (drop (i + 1) nodes) in
    let next = place_of object (asked_behind node).field.pos (asked_behind node).asks own in
    let others = places_with object rest (places_behind (asked_behind node).asks own) in
    let now : places' ++ places_with object rest own' ≡ places ++ place ∷ others
    = (λ k. added k ++ places_with object rest (left k)) ∙ append_assoc places (place ∷ []) others in
    items_trans whole (places' ++ places_with object rest own') (places ++ next ∷ others) all
    (subst (λ ps. SameItems whole ps (places ++ next ∷ others)) (sym now) (items_at whole places place next others same))
    (subst (λ ns. SameItems whole (places ++ places_with object (map asked_behind ns) own) all)
    (drop_more nodes i node within ∙ ap (λ n. n ∷ drop (i + 1) nodes) (sym read)) before)

-- and the places that are left
pub left_more : (nodes : List (Rc Node Global)) (i : ℕ) (node : Rc Node Global) (all own own' : List Place) → i < length nodes
    → node ≡ get_or nodes i node
    → own' ≡ places_behind (asked_behind node).asks own → places_behind_all (map asked_behind (drop i nodes)) own ≡ all
    → places_behind_all (map asked_behind (drop (i + 1) nodes)) own' ≡ all
left_more nodes i node all own own' within read left before =
    ap (places_behind_all (map asked_behind (drop (i + 1) nodes))) left
    ∙ ap (λ ns. places_behind_all (map asked_behind ns) own)
    (sym (drop_more nodes i node within ∙ ap (λ n. n ∷ drop (i + 1) nodes) (sym read)))
    ∙ before

-- all fields have theirs
pub places_whole : (whole : Bool) (object : List ℕ) (asked : List Asked) (places all own : List Place) → asked ≡ []
    → SameItems whole (places ++ places_with object asked own) all → SameItems whole places all
places_whole whole object asked places all own none filled =
    subst (λ ps. SameItems whole ps all) (ap (λ xs. places ++ places_with object xs own) none ∙ append-nil places) filled

-- as many places as there are
pub same_long : (whole : Bool) (ps qs : List Place) → SameItems whole ps qs → length ps ≡ length qs
same_long true ps qs same = ap length same
same_long false [] [] same = refl
same_long false [] (q ∷ qs) same = absurd same
same_long false (p ∷ ps) [] same = absurd same
same_long false (p ∷ ps) (q ∷ qs) same = ap suc (same_long false ps qs same.1)

pub put_if_none : {P : Type 0} (place : P) (places : List (Option P)) (n : ℕ) (o : Option P) → slice_get places n ≡ Some o
    → is_some o ≡ false
    → slice_set places n (Some place) ≡ put_open place places n
put_if_none place places n None is none = sym (put_none place places n is)
put_if_none place places n (Some p) is none = cc

pub put_if_some : {P : Type 0} (place : P) (places : List (Option P)) (n : ℕ) (o : Option P) → slice_get places n ≡ Some o
    → is_some o ≡ true
    → places ≡ put_open place places n
put_if_some place places n None is some = cc
put_if_some place places n (Some p) is some = sym (put_some place places n p is)

-- the members of a level are the same with the same places
pub level_same : (whole : Bool) (level : Level) (places own : List Place) (members : Members)
    → (whole ≡ false → HasDistinctNames (members_of level))
    → members ≡ united_members (names_in level.keys) places
    → SameItems whole places (places_with level.object (map asked_behind level.nodes.items) own)
    → SameMembers whole members (members_with level.object (members_of level) own)
level_same whole level places own members distinct is same =
    subst (λ ms. SameMembers whole ms (members_with level.object (members_of level) own))
    (sym (is ∙ ap (λ ns. united_members ns places) (sym (members_names level))))
    (united_places whole (members_of level) places (places_with level.object (values_of (members_of level)) own) distinct
    (subst (λ fs. SameItems whole places (places_with level.object fs own)) (sym (members_values level)) same))

-- one more list of members, as places
pub added_members : (made made' : List MemberPieces) (m : MemberPieces) → made' ≡ made ++ m ∷ []
    → map members_in made' ≡ map members_in made ++ members_in m ∷ []
added_members made made' m is = ap (map members_in) is ∙ map-append members_in made (m ∷ [])
