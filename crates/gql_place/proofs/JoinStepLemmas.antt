-- Places that are joined step by step.
use Rattle.std.proofs.Common.{◌≡◌, ℕ, zero, suc, ◌+◌, List, [], ◌∷◌, ◌++◌, length, ◌≤◌, take, drop, Some, None, slice_get, slice_set, refl, ap, sym, ◌∙◌, arith}
use Rattle.std.specs.List.{zip}
use Rattle.gql_base.proofs.PairLemmas.{put-fresh, zipped_again}
use Rattle.gql_base.specs.Pairs.{names_of, put, under, unite, unite_all, values_of}
use Rattle.gql_place.specs.declared.place.Place.{Place}
use Rattle.gql_place.specs.Join.{join, join_items, placed_onto}
use Rattle.gql_place.proofs.JoinLemmas.{alone, put_under}

-- what is left after it
pub next_left : (all rest left : List Place) (index : ℕ) (other : Place) → rest ≡ drop index all → rest ≡ other ∷ left → left ≡ drop (index + 1) all
next_left [] rest left zero other at next = absurd (cc)
next_left [] rest left (suc index) other at next = absurd (cc)
next_left (x ∷ xs) rest left zero other at next = cc
next_left (x ∷ xs) rest left (suc index) other at next =
    next_left xs rest left index other at next ∙ ap (λ k. drop k (x ∷ xs)) (let e : suc (index + 1) ≡ suc index + 1 = omega arith in e)

pub nothing_left : {A : Type 0} (xs : List A) (index : ℕ) → length xs ≤ index → drop index xs ≡ []
nothing_left [] zero long = refl
nothing_left [] (suc index) long = refl
nothing_left (x ∷ xs) zero long = absurd (omega arith)
nothing_left (x ∷ xs) (suc index) long = nothing_left xs index (omega arith)

take_drop : {A : Type 0} (index : ℕ) (xs : List A) → take index xs ++ drop index xs ≡ xs
take_drop zero [] = refl
take_drop (suc index) [] = refl
take_drop zero (x ∷ xs) = refl
take_drop (suc index) (x ∷ xs) = ap (λ ys. x ∷ ys) (take_drop index xs)

pub no_length : {A : Type 0} (xs : List A) → length xs ≡ 0 → xs ≡ []
no_length [] none = refl
no_length (x ∷ xs) none = absurd (omega arith)

-- a member that was joined where it stands
pub joined_there : (ms new : List (List ℕ × Place)) (key : List ℕ) (first made other : Place) → under key ms ≡ Some first → made ≡ join first other
    → new ≡ put ms key made → new ≡ unite join ms key other
joined_there ms new key first made other at joined given =
    given ∙ ap (put ms key) joined ∙ sym (ap (λ o. put ms key (placed_onto other o)) at) ∙ put_under ms key other

-- a member under a key that wasn't there
pub joined_alone : (ms new : List (List ℕ × Place)) (key : List ℕ) (other : Place) → under key ms ≡ None → new ≡ ms ++ (key, other) ∷ []
    → new ≡ unite join ms key other
joined_alone ms new key other none added =
    added ∙ sym (put-fresh ms key other none) ∙ ap (put ms key) (sym (alone other)) ∙ sym (ap (λ o. put ms key (placed_onto other o)) none)
    ∙ put_under ms key other

pub drop_here : {A : Type 0} (xs : List A) (i : ℕ) (x : A) → slice_get xs i ≡ Some x → drop i xs ≡ x ∷ drop (i + 1) xs
drop_here [] i x at = cc
drop_here (y ∷ ys) zero x at = let same : y ≡ x = cc in ap (λ z. z ∷ ys) same
drop_here (y ∷ ys) (suc i) x at =
    drop_here ys i x at ∙ ap (λ k. x ∷ drop k (y ∷ ys)) (let e : suc (i + 1) ≡ suc i + 1 = omega arith in e)

-- the members that are united so far, and those that are left
pub record IsUniting (whole : List (List ℕ × Place)) (names : List (List ℕ)) (index : ℕ) (rest : List Place) (made : List (List ℕ × Place)) : Type 0 where
  pub united : unite_all join made (zip (drop index names) rest) ≡ whole

pub uniting_begun : (ms others : List (List ℕ × Place)) (names : List (List ℕ)) (rest : List Place) → names ≡ names_of others → rest ≡ values_of others
    → IsUniting (unite_all join ms others) names 0 rest ms
uniting_begun ms others names rest named valued = record {
  united = (λ i. unite_all join ms (zip (named i) (valued i))) ∙ ap (unite_all join ms) (zipped_again others);
}

pub uniting_step : (whole made new : List (List ℕ × Place)) (names : List (List ℕ)) (index : ℕ) (rest left : List Place) (key : List ℕ) (other : Place)
    → IsUniting whole names index rest made → slice_get names index ≡ Some key → rest ≡ other ∷ left → new ≡ unite join made key other
    → IsUniting whole names (index + 1) left new
uniting_step whole made new names index rest left key other is at next step = record {
  united =
      ap (λ ps. unite_all join ps (zip (drop (index + 1) names) left)) step
      ∙ sym (λ i. unite_all join made (zip (drop_here names index key at i) (next i))) ∙ is.united;
}

zipped_none : (names : List (List ℕ)) (places : List Place) → places ≡ [] → zip names places ≡ []
zipped_none [] places none = refl
zipped_none (name ∷ names) [] none = refl
zipped_none (name ∷ names) (place ∷ places) none = cc

-- no place is left
pub uniting_ended : (whole made : List (List ℕ × Place)) (names : List (List ℕ)) (index : ℕ) (rest : List Place) → IsUniting whole names index rest made
    → rest ≡ [] → made ≡ whole
uniting_ended whole made names index rest is none =
    sym (ap (unite_all join made) (zipped_none (drop index names) rest none)) ∙ is.united

-- no name is left
pub uniting_over : (whole made : List (List ℕ × Place)) (names : List (List ℕ)) (index : ℕ) (rest : List Place) → IsUniting whole names index rest made
    → drop index names ≡ [] → made ≡ whole
uniting_over whole made names index rest is none = sym (ap (λ ns. unite_all join made (zip ns rest)) none) ∙ is.united

pub alone_items : (items : List Place) → join_items items [] ≡ items
alone_items [] = refl
alone_items (item ∷ items) = refl

-- the items that are joined so far, and those that are left
pub record IsJoining (whole : List Place) (index : ℕ) (rest now : List Place) : Type 0 where
  pub joined : take index now ++ join_items (drop index now) rest ≡ whole

-- no second item is left
pub joining_ended : (whole now : List Place) (index : ℕ) (rest : List Place) → IsJoining whole index rest now → rest ≡ [] → now ≡ whole
joining_ended whole now index rest is none =
    sym (ap (λ r. take index now ++ join_items (drop index now) r) none ∙ ap (λ r. take index now ++ r) (alone_items (drop index now)) ∙ take_drop index now)
    ∙ is.joined

-- no first item is left
pub joining_over : (whole now : List Place) (index : ℕ) (rest : List Place) → IsJoining whole index rest now → length now ≤ index → now ≡ whole
joining_over whole now index rest is long =
    sym (ap (λ r. take index now ++ join_items r rest) (nothing_left now index long) ∙ ap (λ r. take index now ++ r) (sym (nothing_left now index long)) ∙ take_drop index now)
    ∙ is.joined

set_step : (xs : List Place) (i : ℕ) (x other : Place) (left : List Place) → slice_get xs i ≡ Some x
    → take (suc i) (slice_set xs i (join x other)) ++ join_items (drop (suc i) (slice_set xs i (join x other))) left
    ≡ take i xs ++ join_items (drop i xs) (other ∷ left)
set_step [] i x other left at = cc
set_step (y ∷ ys) zero x other left at = let same : y ≡ x = cc in ap (λ z. join z other ∷ join_items ys left) (sym same)
set_step (y ∷ ys) (suc i) x other left at = ap (λ zs. y ∷ zs) (set_step ys i x other left at)

pub joining_step : (whole rest left now new : List Place) (index : ℕ) (item made other : Place) → IsJoining whole index rest now → rest ≡ other ∷ left
    → slice_get now index ≡ Some item → made ≡ join item other → new ≡ slice_set now index made → IsJoining whole (index + 1) left new
joining_step whole rest left now new index item made other is next at fits step = record {
  joined =
      let set : new ≡ slice_set now index (join item other) = step ∙ ap (slice_set now index) fits in
      let more : index + 1 ≡ suc index = omega arith in
      (λ i. take (more i) (set i) ++ join_items (drop (more i) (set i)) left)
      ∙ set_step now index item other left at ∙ sym (ap (λ r. take index now ++ join_items (drop index now) r) next) ∙ is.joined;
}
