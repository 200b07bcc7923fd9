use Rattle.std.proofs.Common.{refl}
use Rattle.std.proofs.lemmas.Cmp.{eq_by_cmp_equiv}
use Rattle.std.proofs.lemmas.List.Filters.{dedup_is}
use Rattle.std.proofs.lemmas.List.Kept.{Contains-dedup, Contains-from_dedup, IsStrictlySortedBy-dedup}
use Rattle.std.proofs.lemmas.List.Sorted.{Contains-permutation, IsPermutation-sym}
use Rattle.gql_fields.specs.BreachOrder.{breach_total}
use Rattle.gql_fields.proofs.OrderLemmas.{equal_is}
use Rattle.gql_fields.proofs.breach_order.sorted_once.Goals as goal

pub returns : goal.returns
returns c =
    let is = dedup_is _ _ _ c.dedup.ensures.filtered in
    let moved = c.sort_unstable.ensures.permutation in
    rw (c.from_vec.ensures, is) (record {
      in_order = IsStrictlySortedBy-dedup breach_total (λ x y. refl) _ c.sort_unstable.ensures.sorted;
      exact = λ found. (
        λ h. rw c.into_vec-list.ensures at (Contains-permutation _ _ found (IsPermutation-sym _ _ moved) (Contains-from_dedup _ _ found h)),
        λ h. Contains-dedup (eq_by_cmp_equiv breach_total) equal_is _ found
            (Contains-permutation _ _ found moved (rw c.into_vec-list.ensures h)),
      );
    })
