-- What is told of the operations one by one, and of the fragments that they reach once for those that
-- ask the same, is what is told of all.
use Rattle.std.proofs.Common.{arith, ◌≡◌, ◌⊎◌, inl, inr, ℕ, zero, suc, ◌+◌, ◌<◌, Bool, true, false, List, [], ◌∷◌, ◌++◌, map, length, Some, get_or, slice_get, slice_set, refl, ap, sym, subst, ◌∙◌, length-append}
use Rattle.std.proofs.lemmas.Bool.{cases_lt}
use Rattle.std.proofs.lemmas.Option.{slice_get_read}
use Rattle.std.specs.List.{Contains, flat_map}
use Rattle.std.specs.Prelude.{◌==◌}
use Rattle.gql_base.specs.Pairs.{names_of}
use Rattle.gql_doc.specs.Depth.{Fragments}
use Rattle.gql_fields.specs.BuiltIn.{built_in}
use Rattle.gql_fields.specs.Places.{Place, operation_places}
use Rattle.gql_fields.specs.Terms.{Terms}
use Rattle.gql_fields.specs.UsePlaceViews.{listed_behind, listed_of, operation_behind, shown}
use Rattle.gql_fields.specs.UsePlaces.{kept}
use Rattle.gql_fields.specs.declared.breach.Breach.{Breach}
use Rattle.gql_fields.specs.declared.listed.OperationPlaces.{OperationPlaces}
use Rattle.gql_lists.proofs.SetLemmas.{among-append, or-either, or-left, or-right}
use Rattle.gql_lists.proofs.SliceLemmas.{length_set}
use Rattle.gql_rules.specs.Adds.{Adds}
use Rattle.gql_rules.specs.AlikeOperations.{AreEmpty, AreGathered, AskAlike, IsGathered, IsHead, WrongBefore, WrongSpread, definitions_of, spread_from, told_listed}
use Rattle.gql_rules.specs.ReachedUses.{IsReached, WrongUseIn, operation_spreads, own, place_graph, spread, spreads_at}
use Rattle.gql_rules.specs.Reaching.{AreBelow, ReachesFrom, at_once, further, is_in, led_to}
use Rattle.gql_rules.specs.VariableUses.{uses_told, uses_told_at}
use Rattle.gql_rules.proofs.AddingLemmas.{adds_then, adds_told}
use Rattle.gql_rules.proofs.AlikeLemmas.{alike_itself, uses_alike}
use Rattle.gql_rules.proofs.BreachLemmas.{first_in, given_at, given_from, later_in, none_in}
use Rattle.gql_rules.proofs.CircleLemmas.{led_more, led_set}
use Rattle.gql_rules.proofs.ListedOperations.{listed_at}
use Rattle.gql_rules.proofs.UseLemmas.{spreads_below}
use Rattle.gql_rules.proofs.UsePlaceLemmas.{spreads_kept, uses_kept}

never : false ≡ true → ⊥
never e = cc

-- Places of lists.

pub record At {A : Type 0} (xs : List A) (x : A) : Type 0 where
  pub place : ℕ
  pub stands : slice_get xs place ≡ Some x

pub stands_in : {A : Type 0} (xs : List A) (x : A) → Contains xs x → At xs x
stands_in [] x there = none_in x (At [] x) there
stands_in (y ∷ xs) x (zero, below, is) = record { place = 0; stands = ap Some is }
stands_in (y ∷ xs) x (suc k, below, is) =
    let rest = stands_in xs x (k, omega (arith, below), is) in
    record { place = suc rest.place; stands = rest.stands }

pub in_at : {A : Type 0} (xs : List A) (i : ℕ) (x : A) → slice_get xs i ≡ Some x → Contains xs x
in_at [] i x at = cc
in_at (y ∷ xs) zero x at =
    let same : y ≡ x = cc in
    subst (λ z. Contains (z ∷ xs) x) (sym same) (first_in x xs)
in_at (y ∷ xs) (suc i) x at = later_in y x xs (in_at xs i x at)

within_at : {A : Type 0} (xs : List A) (i : ℕ) (x : A) → slice_get xs i ≡ Some x → i < length xs
within_at [] i x at = cc
within_at (y ∷ xs) zero x at = omega arith
within_at (y ∷ xs) (suc i) x at = let rest = within_at xs i x at in omega (arith, rest)

same_at : {A : Type 0} (xs : List A) (i : ℕ) (x y : A) → slice_get xs i ≡ Some x → slice_get xs i ≡ Some y → x ≡ y
same_at xs i x y at also = cc

-- the item that becomes another
pub record Becomes {A B : Type 0} (f : A → B) (xs : List A) (y : B) : Type 0 where
  pub item : A
  pub place : ℕ
  pub stands : slice_get xs place ≡ Some item
  pub is : f item ≡ y

becomes : {A B : Type 0} (f : A → B) (xs : List A) (y : B) → Contains (map f xs) y → Becomes f xs y
becomes f [] y there = none_in y (Becomes f [] y) there
becomes f (x ∷ xs) y (zero, below, is) = record { item = x; place = 0; stands = refl; is = is }
becomes f (x ∷ xs) y (suc k, below, is) =
    let rest = becomes f xs y (k, omega (arith, below), is) in
    record { item = rest.item; place = suc rest.place; stands = rest.stands; is = rest.is }

in_mapped : {A B : Type 0} (f : A → B) (xs : List A) (x : A) → Contains xs x → Contains (map f xs) (f x)
in_mapped f [] x there = none_in x (Contains (map f []) (f x)) there
in_mapped f (y ∷ xs) x (zero, below, is) = subst (λ z. Contains (z ∷ map f xs) (f x)) (ap f (sym is)) (first_in (f x) (map f xs))
in_mapped f (y ∷ xs) x (suc k, below, is) = later_in (f y) (f x) (map f xs) (in_mapped f xs x (k, omega (arith, below), is))

-- a walk from several begins at one of them
pub record Begins (graph : List (List ℕ)) (starts : List ℕ) (to : ℕ) : Type 0 where
  pub first : ℕ
  pub there : is_in first starts ≡ true
  pub goes : (others : List ℕ) → is_in first others ≡ true → ReachesFrom graph others to

begins : (graph : List (List ℕ)) (starts : List ℕ) (to : ℕ) → ReachesFrom graph starts to → Begins graph starts to
begins graph starts _ (at_once to among) = record { first = to; there = among; goes = λ others there. at_once to there }
begins graph starts _ (further via to before leads) =
    let so = begins graph starts via before in
    record { first = so.first; there = so.there; goes = λ others there. further via to (so.goes others there) leads }

-- What is gathered.

-- nothing is gathered yet
pub no_starts : (starts : List (List ℕ)) → starts ≡ [] → AreEmpty 0 starts
no_starts starts none = rw none (record { long = refl; none = λ place fragment among. never among })

pub starts_more : (bound : ℕ) (starts more : List (List ℕ)) (fresh : List ℕ) → AreEmpty bound starts → fresh ≡ []
    → more ≡ starts ++ fresh ∷ []
    → AreEmpty (bound + 1) more
starts_more bound starts more fresh are empty added = rw (added, empty) (record {
  long = length-append starts ([] ∷ []) ∙ ap (λ n. n + 1) are.long;
  none = λ place fragment among. elim (led_more starts [] place fragment among)
      [ inl old ↦ are.none place fragment old | inr new ↦ never new.1 ];
})

module _ (names : List (List ℕ)) (operations : List OperationPlaces) where
  pub none_gathered : (starts : List (List ℕ)) → AreEmpty (length operations) starts → AreGathered names operations 0 starts
  none_gathered starts are = record {
    long = are.long;
    sound = λ place fragment among. absurd (are.none place fragment among);
    all = λ place fragment one before at among. absurd (omega (arith, before));
  }

  -- what an operation spreads is put beside one that asks the same
  pub gathered_more : (bound place : ℕ) (one : OperationPlaces) (starts more : List (List ℕ)) (spreads : List ℕ)
      → AreGathered names operations bound starts
      → slice_get operations bound ≡ Some one → place < length operations → IsHead operations place one → spreads ≡ spread_from names one
      → more ≡ slice_set starts place (led_to starts place ++ spreads) → AreGathered names operations (bound + 1) more
  gathered_more bound place one starts more spreads are at inside head is added = rw (added, is) (record {
    long = length_set starts place (led_to starts place ++ spread_from names one) ∙ are.long;
    sound = λ at_place fragment among.
        elim (led_set starts place (led_to starts place ++ spread_from names one) at_place fragment among) [
          | inl old ↦ are.sound at_place fragment old
          | inr new ↦ elim (or-either _ _ (sym (among-append ◌==◌ fragment (led_to starts place) (spread_from names one)) ∙ new.1)) [
            | inl old ↦ are.sound at_place fragment (subst (λ k. is_in fragment (led_to starts k) ≡ true) (sym new.0) old)
            | inr fresh ↦ subst (λ k. IsGathered names operations k fragment) (sym new.0)
                (record { one = one; listed = in_at operations bound one at; spread = fresh; head = head })
          ]
        ];
    all = λ other fragment listed before stands among.
        elim (cases_lt other bound) [
          | inl less ↦
              let old = are.all other fragment listed less stands among in
              record { place = old.place; head = old.head; listed = stays old.place fragment old.listed }
          | inr most ↦
              let here : other ≡ bound = omega (arith, most, before) in
              let same : listed ≡ one = same_at operations bound listed one (subst (λ k. slice_get operations k ≡ Some listed) here stands)
              at in
              record {
                place = place;
                head = subst (IsHead operations place) (sym same) head;
                listed = fresh_here fragment (subst (λ o. is_in fragment (spread_from names o) ≡ true) same among);
              }
        ];
  })
    where
      list : List ℕ
      list = led_to starts place ++ spread_from names one

      set_here : (graph : List (List ℕ)) (k : ℕ) (ks : List ℕ) → k < length graph → led_to (slice_set graph k ks) k ≡ ks
      set_here [] k ks within = absurd (omega arith)
      set_here (js ∷ graph) zero ks within = refl
      set_here (js ∷ graph) (suc k) ks within = set_here graph k ks (omega arith)

      set_keeps : (graph : List (List ℕ)) (k at : ℕ) (ks : List ℕ) (fragment : ℕ)
          → ((f : ℕ) → is_in f (led_to graph k) ≡ true → is_in f ks ≡ true)
          → is_in fragment (led_to graph at) ≡ true → is_in fragment (led_to (slice_set graph k ks) at) ≡ true
      set_keeps [] k at ks fragment more among = among
      set_keeps (js ∷ graph) zero zero ks fragment more among = more fragment among
      set_keeps (js ∷ graph) zero (suc at) ks fragment more among = among
      set_keeps (js ∷ graph) (suc k) zero ks fragment more among = among
      set_keeps (js ∷ graph) (suc k) (suc at) ks fragment more among = set_keeps graph k at ks fragment more among

      stays : (at fragment : ℕ) → is_in fragment (led_to starts at) ≡ true → is_in fragment (led_to (slice_set starts place list) at) ≡ true
      stays at fragment among =
          set_keeps starts place at list fragment
          (λ f there. among-append ◌==◌ f (led_to starts place) (spread_from names one) ∙ or-left _ _ there) among

      fresh_here : (fragment : ℕ) → is_in fragment (spread_from names one) ≡ true
          → is_in fragment (led_to (slice_set starts place list) place) ≡ true
      fresh_here fragment there =
          ap (is_in fragment) (set_here starts place list (omega (arith, inside, are.long)))
          ∙ among-append ◌==◌ fragment (led_to starts place) (spread_from names one) ∙ or-right (is_in fragment (led_to starts place)) _
          there

  -- what is gathered are fragments
  pub gathered_below : (bound place : ℕ) (starts : List (List ℕ)) → AreGathered names operations bound starts
      → AreBelow (length names) (led_to starts place)
  gathered_below bound place starts are = record {
    below = λ fragment among.
        let from = are.sound place fragment among in
        (spreads_below names (shown from.one.places)).below fragment from.spread;
  }

-- the operation itself asks the same
pub own_head : (operations : List OperationPlaces) (place : ℕ) (one : OperationPlaces) → slice_get operations place ≡ Some one
    → IsHead operations place one
own_head operations place one at = record { head = one; stands = at; asks = alike_itself (definitions_of one) }

-- another that was read asks the same
pub asked_head : (operations : List OperationPlaces) (other place : ℕ) (head mine one : OperationPlaces) (asks : Bool)
    → other < length operations → place < length operations → head ≡ get_or operations other head → mine ≡ get_or operations place mine
    → (asks ≡ true → AskAlike (definitions_of head) (definitions_of mine)) → asks ≡ true → slice_get operations place ≡ Some one
    → IsHead operations other one
asked_head operations other place head mine one asks below inside read also alike so at = record {
  head = head;
  stands = slice_get_read operations (length operations) other head refl below read;
  asks =
      subst (λ o. AskAlike (definitions_of head) (definitions_of o))
      (same_at operations place mine one (slice_get_read operations (length operations) place mine refl inside also) at) (alike so);
}

-- What is told.

module _ (terms : Terms) (fragments : Fragments) where
  module _ (operations : List OperationPlaces) where
    module _ (starts : List (List ℕ)) where
      pub none_before : (old : List Breach) → Adds (WrongBefore terms fragments operations starts 0) old old
      none_before old = record {
        kept = λ found there. there;
        has = λ found wrong. absurd (omega (arith, wrong.before));
        only = λ found there. inl there;
      }

      -- one operation more
      pub before_more : (bound : ℕ) (head : OperationPlaces) (old now new : List Breach) → slice_get operations bound ≡ Some head
          → Adds (WrongBefore terms fragments operations starts bound) old now
          → Adds (WrongSpread terms fragments (definitions_of head) (led_to starts bound)) now new
          → Adds (WrongBefore terms fragments operations starts (bound + 1)) old new
      before_more bound head old now new at first second =
          adds_then (WrongBefore terms fragments operations starts bound)
          (WrongSpread terms fragments (definitions_of head) (led_to starts bound))
          (WrongBefore terms fragments operations starts (bound + 1)) old now new
          (λ found wrong. record {
            place = wrong.place;
            before = omega (arith, wrong.before);
            head = wrong.head;
            listed = wrong.listed;
            wrong = wrong.wrong;
          })
          (λ found wrong. record { place = bound; before = omega arith; head = head; listed = at; wrong = wrong })
          (λ found wrong.
          elim (cases_lt wrong.place bound) [
            | inl less ↦ inl (record { place = wrong.place; before = less; head = wrong.head; listed = wrong.listed; wrong = wrong.wrong })
            | inr most ↦
                let here : wrong.place ≡ bound = omega (arith, most, wrong.before) in
                let same : wrong.head ≡ head
                = same_at operations bound wrong.head head (subst (λ k. slice_get operations k ≡ Some wrong.head) here wrong.listed) at in
                inr (subst (λ o. WrongSpread terms fragments (definitions_of o) (led_to starts bound) found) same
                (subst (λ k. WrongSpread terms fragments (definitions_of wrong.head) (led_to starts k) found) here wrong.wrong))
          ])
          first second

    -- all is told
    pub uses_gathered : (starts : List (List ℕ)) (old now new : List Breach)
        → map listed_behind operations ≡ map (listed_of terms) (map operation_behind operations)
        → AreGathered (names_of fragments) operations (length operations) starts
        → now ≡ old ++ flat_map (told_listed built_in terms) operations
        → Adds (WrongBefore terms fragments operations starts (length operations)) now new
        → Adds (WrongUseIn terms fragments (map operation_behind operations)) old new
    uses_gathered starts old now new listed gathered told spread_told =
        adds_then (Contains (flat_map (told_listed built_in terms) operations))
        (WrongBefore terms fragments operations starts (length operations))
        (WrongUseIn terms fragments (map operation_behind operations)) old now new own_wrong spread_wrong either
        (adds_told old (flat_map (told_listed built_in terms) operations) now told) spread_told
      where
        places_of : (place : ℕ) (one : OperationPlaces) → slice_get operations place ≡ Some one
            → shown one.places ≡ kept (operation_places terms (operation_behind one))
        places_of place one at = ap (λ p. p.1) (listed_at terms operations place one listed at)

        spreads_of : (place : ℕ) (one : OperationPlaces) → slice_get operations place ≡ Some one
            → spread_from (names_of fragments) one ≡ operation_spreads terms fragments (operation_behind one)
        spreads_of place one at =
            ap (spreads_at (names_of fragments)) (places_of place one at) ∙ spreads_kept (names_of fragments)
            (operation_places terms (operation_behind one))

        own_is : (place : ℕ) (one : OperationPlaces) → slice_get operations place ≡ Some one
            → told_listed built_in terms one ≡ uses_told built_in terms (definitions_of one) (operation_places terms (operation_behind one))
        own_is place one at =
            ap (uses_told built_in terms (definitions_of one)) (places_of place one at)
            ∙ uses_kept built_in terms (definitions_of one) (operation_places terms (operation_behind one))

        own_wrong : (found : Breach) → Contains (flat_map (told_listed built_in terms) operations) found
            → WrongUseIn terms fragments (map operation_behind operations) found
        own_wrong found there =
            let from = given_from (told_listed built_in terms) operations found there in
            let at = stands_in operations from.item from.there in
            let inner = given_from (uses_told_at built_in terms (definitions_of from.item))
            (operation_places terms (operation_behind from.item)) found
            (subst (λ xs. Contains xs found) (own_is at.place from.item at.stands) from.gives) in
            record {
              operation = operation_behind from.item;
              stands = in_mapped operation_behind operations from.item from.there;
              wrong = record { place = inner.item; reached = own inner.item inner.there; told = inner.gives };
            }

        spread_wrong : (found : Breach) → WrongBefore terms fragments operations starts (length operations) found
            → WrongUseIn terms fragments (map operation_behind operations) found
        spread_wrong found before =
            let wrong = before.wrong in
            let begin = begins (place_graph terms fragments) (led_to starts before.place) wrong.at wrong.reaches in
            let from = gathered.sound before.place begin.first begin.there in
            let at = stands_in operations from.one from.listed in
            let same : from.head.head ≡ before.head = same_at operations before.place from.head.head before.head from.head.stands
            before.listed in
            let asks : AskAlike (definitions_of before.head) (definitions_of from.one) = subst
            (λ o. AskAlike (definitions_of o) (definitions_of from.one)) same from.head.asks in
            record {
              operation = operation_behind from.one;
              stands = in_mapped operation_behind operations from.one from.listed;
              wrong = record {
                place = wrong.place;
                reached = spread wrong.at wrong.fragment wrong.place
                    (begin.goes (operation_spreads terms fragments (operation_behind from.one))
                    (subst (λ ks. is_in begin.first ks ≡ true) (spreads_of at.place from.one at.stands) from.spread))
                    wrong.stands wrong.there;
                told = subst (λ xs. Contains xs found) (uses_alike built_in terms (definitions_of before.head) (definitions_of from.one)
                    asks wrong.place) wrong.told;
              };
            }

        by_reached : (place : ℕ) (one : OperationPlaces) (found : Breach) (used : Place) → slice_get operations place ≡ Some one
            → IsReached terms fragments (operation_behind one) used → Contains (uses_told_at built_in terms (definitions_of one) used) found
            → Contains (flat_map (told_listed built_in terms) operations) found ⊎ WrongBefore terms fragments operations starts
            (length operations) found
        by_reached place one found _ at (own used there) told =
            inl (given_at (told_listed built_in terms) operations one found (in_at operations place one at)
            (subst (λ xs. Contains xs found) (sym (own_is place one at))
            (given_at (uses_told_at built_in terms (definitions_of one)) (operation_places terms (operation_behind one)) used found there
            told)))
        by_reached place one found _ at (spread to fragment used reaches stands there) told =
            let begin = begins (place_graph terms fragments) (operation_spreads terms fragments (operation_behind one)) to reaches in
            let head = gathered.all place begin.first one (within_at operations place one at) at
            (subst (λ ks. is_in begin.first ks ≡ true) (sym (spreads_of place one at)) begin.there) in
            inr (record {
              place = head.place;
              before = within_at operations head.place head.head.head head.head.stands;
              head = head.head.head;
              listed = head.head.stands;
              wrong = record {
                at = to;
                fragment = fragment;
                place = used;
                reaches = begin.goes (led_to starts head.place) head.listed;
                stands = stands;
                there = there;
                told = subst (λ xs. Contains xs found) (sym (uses_alike built_in terms (definitions_of head.head.head) (definitions_of one)
                    head.head.asks used)) told;
              };
            })

        either : (found : Breach) → WrongUseIn terms fragments (map operation_behind operations) found
            → Contains (flat_map (told_listed built_in terms) operations) found ⊎ WrongBefore terms fragments operations starts
            (length operations) found
        either found wrong =
            let from = becomes operation_behind operations wrong.operation wrong.stands in
            by_reached from.place from.item found wrong.wrong.place from.stands
            (subst (λ o. IsReached terms fragments o wrong.wrong.place) (sym from.is) wrong.wrong.reached)
            (subst (λ o. Contains (uses_told_at built_in terms o.node.variable_definitions wrong.wrong.place) found) (sym from.is)
            wrong.wrong.told)
