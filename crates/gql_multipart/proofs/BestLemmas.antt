-- The best of some offers.
use Rattle.std.proofs.Common.{◌≡◌, ◌∙◌, ℕ, ◌<◌, ◌≤◌, ◌⊎◌, ◌↔◌, Bool, true, false, List, [], ◌∷◌, ◌++◌}
use Rattle.std.proofs.Common.{Option, Some, None, IfSome, refl, sym, ap, arith, cond, fold, inl, inr}
use Rattle.std.proofs.Common.{ltb, ltb-true, ltb-false, lt-ltb, le-ltb}
use Rattle.std.proofs.lemmas.Option.{none-some, same_Some}
use Rattle.std.proofs.lemmas.Bool.{false≢true}
use Rattle.std.specs.List.{AllByRecursion}
use Rattle.std.specs.Option.{option_map_or}
use Rattle.gql_multipart.specs.Accept.{IsBest, best_offer, better, prefers_multipart}
use Rattle.gql_multipart.specs.Accept as accepting
use Rattle.gql_multipart.specs.declared.offer.Offer.{Offer}

-- none of these is wanted more
abbrev NoneMore : Offer → List (Option Offer) → Type 0
NoneMore best others = AllByRecursion (λ other. IfSome other (λ offer. offer.q ≤ best.q)) others

-- this one is wanted less
abbrev IsLess : Offer → Option Offer → Type 0
IsLess best other = IfSome other (λ offer. offer.q < best.q)

-- what is known stays the best, where none is wanted more
stays : (best : Offer) (others : List (Option Offer)) → NoneMore best others →
    fold better (Some best) others ≡ Some best
stays best [] none = refl
stays best (None ∷ others) none = stays best others none.1
stays best (Some offer ∷ others) none =
    ap (λ b. fold better (cond b (Some offer) (Some best)) others) (le-ltb best.q offer.q none.0)
    ∙ stays best others none.1

-- of two that are wanted less, the better one is, too
better_less : (best : Offer) (known other : Option Offer) → IsLess best known → IsLess best other →
    IsLess best (better known other)
better_less best None other h k = k
better_less best (Some offer) None h k = h
better_less best (Some offer) (Some second) h k = go (ltb offer.q second.q)
  where
    go : (b : Bool) → IsLess best (cond b (Some second) (Some offer))
    go true = k
    go false = h

-- the best is better than what is wanted less
takes_over : (best : Offer) (known : Option Offer) → IsLess best known → better known (Some best) ≡ Some best
takes_over best None h = refl
takes_over best (Some offer) h = ap (λ b. cond b (Some best) (Some offer)) (lt-ltb offer.q best.q h)

-- the best is found
comes_out : (best : Offer) (known : Option Offer) (before others : List (Option Offer)) → IsLess best known →
    AllByRecursion (IsLess best) before → NoneMore best others →
    fold better known (before ++ (Some best ∷ others)) ≡ Some best
comes_out best known [] others h less none =
    ap (λ o. fold better o others) (takes_over best known h) ∙ stays best others none
comes_out best known (other ∷ before) others h less none =
    comes_out best (better known other) before others (better_less best known other h less.0) less.1 none

-- what is found was known and stays, or is the best of what came
abbrev Found : Option Offer → List (Option Offer) → Offer → Type 0
Found known offers best = ((known ≡ Some best) × NoneMore best offers) ⊎ (IsLess best known × IsBest offers best)

-- one more before them
one_more : (best : Offer) (other : Option Offer) (offers : List (Option Offer)) → IsLess best other →
    IsBest offers best → IsBest (other ∷ offers) best
one_more best other offers less that = record {
  before = other ∷ that.before;
  after = that.after;
  place = ap (λ os. other ∷ os) that.place;
  first = (less, that.first);
  greatest = that.greatest;
}

-- the best stands first
stands_first : (best : Offer) (other : Option Offer) (offers : List (Option Offer)) → other ≡ Some best →
    NoneMore best offers → IsBest (other ∷ offers) best
stands_first best other offers e none = record {
  before = [];
  after = offers;
  place = ap (λ o. o ∷ offers) e;
  first = tt;
  greatest = none;
}

-- what is found of one more, by what is found of the others
found_step : (best : Offer) (known other : Option Offer) (offers : List (Option Offer)) →
    Found (better known other) offers best → Found known (other ∷ offers) best
found_step best None other offers (inl w) = inr (tt, stands_first best other offers w.0 w.1)
found_step best None other offers (inr w) = inr (tt, one_more best other offers w.0 w.1)
found_step best (Some offer) None offers (inl w) = inl (w.0, (tt, w.1))
found_step best (Some offer) None offers (inr w) = inr (w.0, one_more best None offers tt w.1)
found_step best (Some offer) (Some second) offers found = go (ltb offer.q second.q) refl found
  where
    go : (b : Bool) → ltb offer.q second.q ≡ b → Found (cond b (Some second) (Some offer)) offers best →
        Found (Some offer) (Some second ∷ offers) best
    go true e (inl w) =
        let same : second.q ≡ best.q = ap (λ (o : Offer). o.q) (same_Some _ _ w.0) in
        let more : offer.q < second.q = ltb-true offer.q second.q e in
        let less : offer.q < best.q = omega arith in
        inr (less, stands_first best (Some second) offers w.0 w.1)
    go true e (inr w) =
        let more : offer.q < second.q = ltb-true offer.q second.q e in
        let second_less : second.q < best.q = w.0 in
        let less : offer.q < best.q = omega arith in
        inr (less, one_more best (Some second) offers w.0 w.1)
    go false e (inl w) =
        let same : offer.q ≡ best.q = ap (λ (o : Offer). o.q) (same_Some _ _ w.0) in
        let more : second.q ≤ offer.q = ltb-false offer.q second.q e in
        let less : second.q ≤ best.q = omega arith in
        inl (w.0, (less, w.1))
    go false e (inr w) =
        let more : second.q ≤ offer.q = ltb-false offer.q second.q e in
        let first_less : offer.q < best.q = w.0 in
        let less : second.q < best.q = omega arith in
        inr (w.0, one_more best (Some second) offers less w.1)

is_found : (best : Offer) (known : Option Offer) (offers : List (Option Offer)) →
    fold better known offers ≡ Some best → Found known offers best
is_found best known [] e = inl (e, tt)
is_found best known (other ∷ offers) e = found_step best known other offers (is_found best (better known other) offers e)

-- the offer that is found is the best
pub best_is_found : (offers : List (Option Offer)) (best : Offer) →
    (fold better None offers ≡ Some best) ↔ IsBest offers best
best_is_found offers best = (there, back)
  where
    there : fold better None offers ≡ Some best → IsBest offers best
    there e = elim (is_found best None offers e) [ inl w ↦ absurd (none-some best w.0) | inr w ↦ w.1 ]

    back : IsBest offers best → fold better None offers ≡ Some best
    back that =
        ap (fold better None) that.place
        ∙ comes_out best None that.before that.after tt that.first that.greatest

-- multipart is preferred where the best offer is one
pub preferred : (accept : List ℕ) →
    (prefers_multipart accept ≡ true)
    ↔ ((best : Offer) × IsBest (accepting.offers accept) best × (best.is_multipart ≡ true))
preferred accept = (λ h. there (best_offer accept) refl h, back)
  where
    there : (o : Option Offer) → best_offer accept ≡ o →
        option_map_or (λ offer. offer.is_multipart) o false ≡ true →
        (best : Offer) × IsBest (accepting.offers accept) best × (best.is_multipart ≡ true)
    there None e h = absurd (false≢true h)
    there (Some best) e h = (best, (best_is_found (accepting.offers accept) best).0 e, h)

    back : (best : Offer) × IsBest (accepting.offers accept) best × (best.is_multipart ≡ true) →
        prefers_multipart accept ≡ true
    back w =
        ap (λ o. option_map_or (λ offer. offer.is_multipart) o false)
        ((best_is_found (accepting.offers accept) w.0).1 w.1) ∙ w.2

-- what the function answers is decided by the best offer
pub decided_by : (accept : List ℕ) (answer : Bool) → answer ≡ prefers_multipart accept →
    (answer ≡ true)
    ↔ ((best : Offer) × IsBest (accepting.offers accept) best × (best.is_multipart ≡ true))
decided_by accept answer e =
    (λ h. (preferred accept).0 (sym e ∙ h), λ w. e ∙ (preferred accept).1 w)
