-- The values of places that are used up one after another.
use Rattle.std.proofs.Common.{◌≡◌, ℕ, suc, ◌+◌, List, [], ◌∷◌, ◌++◌, length, map, ◌≤◌, Option, Some, None, option_map, refl, ap, sym, ◌∙◌, arith, append_assoc}
use Rattle.std.proofs.lemmas.List.{append-nil}
use Rattle.std.specs.List.{zip}
use Rattle.gql_base.specs.Pairs.{names_of, values_of}
use Rattle.gql_base.specs.declared.value.Value.{Value}
use Rattle.gql_place.specs.declared.place.Place.{Place}
use Rattle.gql_place.specs.Raised.{all_items, member_values, value_at, with_first}
use Rattle.gql_place.proofs.PartLemmas.{all_long, members_there}
use Rattle.gql_place.proofs.WeightLemmas.{items_weight, weight}

-- the values that are raised so far, and the places that are left
pub record IsRaising (whole : List Place) (values : List Value) (rest : List Place) : Type 0 where
  pub raised : all_items (map value_at whole) ≡ option_map (λ vs. values ++ vs) (all_items (map value_at rest))
  pub less : items_weight rest ≤ items_weight whole

behind_none : (o : Option (List Value)) → o ≡ option_map (λ vs. [] ++ vs) o
behind_none None = refl
behind_none (Some vs) = refl

pub raising_begun : (whole rest : List Place) (values : List Value) → rest ≡ whole → values ≡ [] → IsRaising whole values rest
raising_begun whole rest values all none = record {
  raised = behind_none (all_items (map value_at whole)) ∙ (λ i. option_map (λ vs. sym none i ++ vs) (all_items (map value_at (sym all i))));
  less = let e : items_weight rest ≡ items_weight whole = ap items_weight all in omega arith;
}

behind_first : (values : List Value) (v : Value) (o : Option (List Value)) → option_map (λ vs. values ++ vs) (with_first v o) ≡ option_map (λ vs. (values ++ v ∷ []) ++ vs) o
behind_first values v None = refl
behind_first values v (Some vs) = ap Some (sym (append_assoc values (v ∷ []) vs))

pub raising_step : (whole rest left : List Place) (values new : List Value) (place : Place) (v : Value) → IsRaising whole values rest → rest ≡ place ∷ left
    → value_at place ≡ Some v → new ≡ values ++ v ∷ [] → IsRaising whole new left
raising_step whole rest left values new place v is next here step = record {
  raised =
      is.raised ∙ ap (λ ps. option_map (λ vs. values ++ vs) (all_items (map value_at ps))) next
      ∙ ap (λ o. option_map (λ vs. values ++ vs) (all_items (o ∷ map value_at left))) here ∙ behind_first values v (all_items (map value_at left))
      ∙ ap (λ us. option_map (λ vs. us ++ vs) (all_items (map value_at left))) (sym step);
  less =
      let e : items_weight rest ≡ weight place + items_weight left = ap items_weight next in
      let less : items_weight rest ≤ items_weight whole = is.less in
      omega arith;
}

-- a value is wanting
pub raising_fails : (whole rest left : List Place) (values : List Value) (place : Place) → IsRaising whole values rest → rest ≡ place ∷ left
    → value_at place ≡ None → all_items (map value_at whole) ≡ None
raising_fails whole rest left values place is next none =
    is.raised ∙ ap (λ ps. option_map (λ vs. values ++ vs) (all_items (map value_at ps))) next
    ∙ ap (λ o. option_map (λ vs. values ++ vs) (all_items (o ∷ map value_at left))) none

-- no place is left
pub raising_ended : (whole rest : List Place) (values : List Value) → IsRaising whole values rest → rest ≡ [] → all_items (map value_at whole) ≡ Some values
raising_ended whole rest values is none =
    is.raised ∙ ap (λ ps. option_map (λ vs. values ++ vs) (all_items (map value_at ps))) none ∙ ap Some (append-nil values)

-- the next place weighs no more than all
pub next_is_less : (whole rest left : List Place) (values : List Value) (place : Place) → IsRaising whole values rest → rest ≡ place ∷ left
    → weight place ≤ items_weight whole
next_is_less whole rest left values place is next =
    let e : items_weight rest ≡ weight place + items_weight left = ap items_weight next in
    let less : items_weight rest ≤ items_weight whole = is.less in
    omega arith

values_of_map : (ms : List (List ℕ × Place)) → map (λ m. value_at m.1) ms ≡ map value_at (values_of ms)
values_of_map [] = refl
values_of_map (m ∷ ms) = ap (λ rest. value_at m.1 ∷ rest) (values_of_map ms)

-- the members of an object by the values of their places
pub members_raised : (ms : List (List ℕ × Place)) (names : List (List ℕ)) (places : List Place) (values : Option (List Value)) → names ≡ names_of ms
    → places ≡ values_of ms → values ≡ all_items (map value_at places) → option_map (zip names) values ≡ member_values ms
members_raised ms names places values named placed raised =
    ap (λ ns. option_map (zip ns) values) named
    ∙ sym (members_there ms values (ap all_items (values_of_map ms ∙ ap (map value_at) (sym placed)) ∙ sym raised))

names_long : (ms : List (List ℕ × Place)) → length (values_of ms) ≡ length (names_of ms)
names_long [] = refl
names_long (m ∷ ms) = ap suc (names_long ms)

-- there are as many values as names
pub values_long : (ms : List (List ℕ × Place)) (names : List (List ℕ)) (places : List Place) (values : List Value) → names ≡ names_of ms → places ≡ values_of ms
    → Some values ≡ all_items (map value_at places) → length values ≡ length names
values_long ms names places values named placed raised =
    all_long value_at places values (sym raised) ∙ ap length placed ∙ names_long ms ∙ sym (ap length named)
