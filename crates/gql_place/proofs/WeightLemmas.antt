-- How much there is of a place, by which the recursion over a place that is used up ends.
use Rattle.std.proofs.Common.{rules, ◌≡◌, ℕ, zero, suc, ◌+◌, List, [], ◌∷◌, map, ◌≤◌, drop, refl, ap, arith}
use Rattle.gql_base.specs.Pairs.{values_of}
use Rattle.gql_place.specs.declared.place.Place.{Place}
use Rattle.gql_place.specs.declared.place.Tree.{Tree, the_lemmas}
use Rattle.gql_place.specs.declared.place.Tree.TheVariants as tree
use Rattle.gql_place.specs.declared.place.Tree.TheOpen.{Tree-F}
use Rattle.gql_place.specs.declared.place.Tree.TheFolds.{fold-Place, fold-Tree}

abbrev total : List ℕ → ℕ
total [] = 0
total (n ∷ ns) = n + total ns

abbrev weight_step : Tree-F ℕ ℕ → ℕ
weight_step (Tree-F.Object members) = 3 + total (map (λ m. m.1) members)
weight_step (Tree-F.List items) = 3 + total items
weight_step _ = 0

abbrev pub weight : Place → ℕ
weight = fold-Place ℕ ℕ weight_step (λ place. 1 + place.tree)

abbrev pub tree_weight : Tree → ℕ
tree_weight = fold-Tree ℕ ℕ weight_step (λ place. 1 + place.tree)

abbrev pub items_weight : List Place → ℕ
items_weight items = total (map weight items)

abbrev pub members_weight : List (List ℕ × Place) → ℕ
members_weight members = items_weight (values_of members)

members-weigh : (ms : List (List ℕ × Place)) → total (map (λ (m : List ℕ × ℕ). m.1) (map (λ (p : List ℕ × Place). (p.0, weight p.1)) ms)) ≡ members_weight ms
members-weigh [] = refl
members-weigh (m ∷ ms) = ap (λ n. weight m.1 + n) (members-weigh ms)

pub object_weighs : (ms : List (List ℕ × Place)) → tree_weight (tree.Object ms) ≡ 3 + members_weight ms
object_weighs ms = search (rules, the_lemmas, members-weigh)

-- a place among those that are left weighs no more than all
pub next_weighs : (all rest left : List Place) (index : ℕ) (other : Place) → rest ≡ drop index all → rest ≡ other ∷ left → weight other ≤ items_weight all
next_weighs [] rest left zero other at next = absurd (cc)
next_weighs [] rest left (suc index) other at next = absurd (cc)
next_weighs (x ∷ xs) rest left zero other at next =
    let same : x ≡ other = cc in
    let e : weight x ≡ weight other = ap weight same in
    let whole : items_weight (x ∷ xs) ≡ weight x + items_weight xs = refl in
    omega arith
next_weighs (x ∷ xs) rest left (suc index) other at next =
    let less : weight other ≤ items_weight xs = next_weighs xs rest left index other at next in
    let whole : items_weight (x ∷ xs) ≡ weight x + items_weight xs = refl in
    omega arith
