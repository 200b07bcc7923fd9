-- What is told of the variables at the places that an operation reaches.
use Rattle.std.proofs.Common.{arith, ◌≡◌, inl, inr, ℕ, zero, suc, ◌<◌, Bool, true, false, List, [], ◌∷◌, ◌++◌, map, Option, Some, None, length, slice_get, slice_index_or, refl, ap, sym, subst, ◌∙◌}
use Rattle.std.specs.List.{Contains, flat_map}
use Rattle.std.specs.Option.{option_to_list}
use Rattle.std.specs.Prelude.{◌==◌}
use Rattle.std.proofs.Math.ListN.{length-map}
use Rattle.std.proofs.lemmas.Bool.{eqb-true}
use Rattle.std.proofs.lemmas.List.Elements.{Contains-append_cases}
use Rattle.gql_base.specs.Names.{place_of}
use Rattle.gql_base.specs.Pairs.{names_of, values_of}
use Rattle.gql_base.proofs.NamesLemmas.{place_within}
use Rattle.gql_doc.specs.Depth.{Fragments}
use Rattle.gql_doc.specs.declared.document.FragmentDefinition.{FragmentDefinition}
use Rattle.gql_doc.specs.declared.document.Positioned.{Positioned}
use Rattle.gql_doc.specs.declared.document.VariableDefinition.{VariableDefinition}
use Rattle.gql_fields.specs.BuiltIn.{built_in}
use Rattle.gql_fields.specs.Places.{OnCondition, OnDirective, OnField, OnSpread, Place, fragment_places}
use Rattle.gql_fields.specs.Terms.{Terms}
use Rattle.gql_fields.specs.declared.breach.Breach.{Breach}
use Rattle.gql_fields.specs.declared.built_in_arguments.BuiltIn.{BuiltIn}
use Rattle.gql_rules.specs.Adds.{Adds}
use Rattle.gql_rules.specs.AlikeOperations.{WrongSpread}
use Rattle.gql_rules.specs.Reaching.{AreBelow, AreReached, AreWithin, ReachesFrom, at_once, further, is_in, led_to}
use Rattle.gql_fields.specs.UsePlaceViews.{shown}
use Rattle.gql_rules.specs.Spread.{IsSpread}
use Rattle.gql_fields.specs.UsePlaces.{kept}
use Rattle.gql_rules.specs.ReachedUses.{fragment_spreads, place_graph, spread_at, spreads_at, uses_told_in}
use Rattle.gql_rules.specs.VariableUses.{uses_told_at}
use Rattle.gql_rules.specs.declared.spread.Spread.{Spread}
use Rattle.gql_fields.specs.declared.use_place.UsePlace.{UsePlace}
use Rattle.gql_rules.proofs.AddingLemmas.{adds_same, adds_told}
use Rattle.gql_rules.proofs.BreachLemmas.{first_in, given_at, given_from, later_in, none_in, one_in}
use Rattle.gql_rules.proofs.MarkLemmas.{reached_within}
use Rattle.gql_lists.proofs.SetLemmas.{among-append, among-take, or-either, or-left, or-right}
use Rattle.gql_rules.proofs.ReachLemmas.{same_number}
use Rattle.gql_rules.proofs.UsePlaceLemmas.{spreads_kept, uses_kept}

never : false ≡ true → ⊥
never e = cc

in_option : (o : Option ℕ) (k : ℕ) {n : ℕ} → is_in k (option_to_list o) ≡ true → ((i : ℕ) → o ≡ Some i → i < n) → k < n
in_option None k there all = absurd (never there)
in_option (Some i) k {n} there all =
    elim (or-either (k == i) false there) [
      | inl same ↦ subst (λ m. m < n) (sym ((same_number k i).0 same)) (all i refl)
      | inr nothing ↦ absurd (never nothing)
    ]

-- what is among numbers is among them as a list
pub in_contains : (ns : List ℕ) (k : ℕ) → is_in k ns ≡ true → Contains ns k
in_contains [] k there = cc
in_contains (n ∷ ns) k there =
    elim (or-either (k == n) (is_in k ns) there) [
      | inl same ↦ subst (λ m. Contains (m ∷ ns) k) ((same_number k n).0 same) (first_in k ns)
      | inr behind ↦ later_in n k ns (in_contains ns k behind)
    ]

pub contains_in : (ns : List ℕ) (k : ℕ) → Contains ns k → is_in k ns ≡ true
contains_in [] k there = none_in k (is_in k [] ≡ true) there
contains_in (n ∷ ns) k there =
    elim (Contains-append_cases (n ∷ []) ns k there) [
      | inl here ↦ or-left (k == n) (is_in k ns) ((same_number k n).1 (sym (one_in n k here)))
      | inr behind ↦ or-right (k == n) (is_in k ns) (contains_in ns k behind)
    ]

-- what is spread at places are fragments
pub spreads_below : (names : List (List ℕ)) (places : List Place) → AreBelow (length names) (spreads_at names places)
spreads_below names places = record { below = λ k there. each places k there }
  where
    at-one : (place : Place) (k : ℕ) → is_in k (spread_at names place) ≡ true → k < length names
    at-one (OnSpread pos name) k there = in_option (place_of name names) k there (λ i found. place_within name names i found)
    at-one (OnField field) k there = absurd (never there)
    at-one (OnCondition pos name) k there = absurd (never there)
    at-one (OnDirective selects directive) k there = absurd (never there)

    each : (ps : List Place) (k : ℕ) → is_in k (spreads_at names ps) ≡ true → k < length names
    each [] k there = absurd (never there)
    each (p ∷ ps) k there =
        elim (or-either (is_in k (spread_at names p)) (is_in k (spreads_at names ps)) (sym (among-append ◌==◌ k (spread_at names p)
        (spreads_at names ps)) ∙ there)) [
          | inl here ↦ at-one p k here
          | inr behind ↦ each ps k behind
        ]

-- the graph leads to fragments alone
pub graph_within : (terms : Terms) (fragments : Fragments) → AreWithin (place_graph terms fragments)
graph_within terms fragments = record { within = λ from to there. subst (λ n. to < n) (sym long) (led (values_of fragments) from to there) }
  where
    names : List (List ℕ)
    names = names_of fragments

    long : length (place_graph terms fragments) ≡ length names
    long = length-map (values_of fragments) (fragment_spreads terms fragments) ∙ length-map fragments (λ p. p.1) ∙ sym
        (length-map fragments (λ p. p.0))

    led : (fs : List (Positioned FragmentDefinition)) (from to : ℕ)
        → is_in to (led_to (map (fragment_spreads terms fragments) fs) from) ≡ true → to < length names
    led [] from to there = absurd (never there)
    led (f ∷ fs) zero to there = (spreads_below names (fragment_places terms f)).below to there
    led (f ∷ fs) (suc from) to there = led fs from to there

-- the graph that is made of the places that matter
graph-of : (terms : Terms) (names : List (List ℕ)) (fs : List (Positioned FragmentDefinition))
    → map (spreads_at names) (map (λ fragment. kept (fragment_places terms fragment)) fs) ≡ map
    (λ fragment. spreads_at names (fragment_places terms fragment)) fs
graph-of terms names [] = refl
graph-of terms names (f ∷ fs) = λ i. spreads_kept names (fragment_places terms f) i ∷ graph-of terms names fs i

over_shown : {B : Type 0} (f : List Place → B) (lists : List (List UsePlace))
    → map (λ places. f (shown places)) lists ≡ map f (map shown lists)
over_shown f [] = refl
over_shown f (places ∷ lists) = ap (λ bs. f (shown places) ∷ bs) (over_shown f lists)

pub spread_made : (terms : Terms) (fragments : Fragments) (made_of : Spread) (lists : List (List UsePlace)) (graph : List (List ℕ))
    → map shown lists ≡ map (λ fragment. kept (fragment_places terms fragment)) (values_of fragments)
    → graph ≡ map (λ places. spreads_at (names_of fragments) (shown places)) lists → made_of.places.now ≡ lists → made_of.graph.now ≡ graph
    → IsSpread terms fragments made_of
spread_made terms fragments made_of lists graph listed made places_are graph_is = record {
  places = ap (map shown) places_are ∙ listed;
  graph =
      graph_is ∙ made ∙ over_shown (spreads_at (names_of fragments)) lists ∙ ap (map (spreads_at (names_of fragments))) listed
      ∙ graph-of terms (names_of fragments) (values_of fragments);
}

-- the places of the fragment at a place
module _ {A : Type 0} (f : A → List Place) where
  pub record ListedAt (xs : List A) (at : ℕ) (place : Place) : Type 0 where
    pub item : A
    pub stands : slice_get xs at ≡ Some item
    pub there : Contains (f item) place

  pub listed_at : (xs : List A) (at : ℕ) (place : Place) → Contains (slice_index_or (map f xs) at []) place → ListedAt xs at place
  listed_at [] at place there = none_in place (ListedAt [] at place) there
  listed_at (x ∷ xs) zero place there = record { item = x; stands = refl; there = there }
  listed_at (x ∷ xs) (suc at) place there =
      let rest = listed_at xs at place there in
      record { item = rest.item; stands = rest.stands; there = rest.there }

  pub list_is : (xs : List A) (at : ℕ) (x : A) → slice_get xs at ≡ Some x → slice_index_or (map f xs) at [] ≡ f x
  list_is [] at x stands = cc
  list_is (y ∷ xs) zero x stands =
      let same : y ≡ x = cc in
      ap f same
  list_is (y ∷ xs) (suc at) x stands = list_is xs at x stands

module _ (terms : Terms) (fragments : Fragments) (definitions : List (Positioned VariableDefinition)) where
  abbrev tells_spread : List ℕ → List Breach
  tells_spread reached = flat_map (uses_told_in built_in terms definitions (map (fragment_places terms) (values_of fragments))) reached

  -- what is told of the places that matter in the fragment at a place
  kept_in : (fs : List (Positioned FragmentDefinition)) (at : ℕ)
      → uses_told_in built_in terms definitions (map (λ fragment. kept (fragment_places terms fragment)) fs) at
      ≡ uses_told_in built_in terms definitions (map (fragment_places terms) fs) at
  kept_in [] zero = refl
  kept_in [] (suc at) = refl
  kept_in (f ∷ fs) zero = uses_kept built_in terms definitions (fragment_places terms f)
  kept_in (f ∷ fs) (suc at) = kept_in fs at

  spread_kept : (reached : List ℕ)
      → flat_map (uses_told_in built_in terms definitions (map (λ fragment. kept (fragment_places terms fragment)) (values_of fragments)))
      reached
      ≡ tells_spread reached
  spread_kept [] = refl
  spread_kept (at ∷ reached) = λ i. kept_in (values_of fragments) at i ++ spread_kept reached i

  module _ (starts reached : List ℕ) (are : AreReached (place_graph terms fragments) starts reached) where
    told_wrong : (found : Breach) → Contains (tells_spread reached) found → WrongSpread terms fragments definitions starts found
    told_wrong found there =
        let lists = map (fragment_places terms) (values_of fragments) in
        let from = given_from (uses_told_in built_in terms definitions lists) reached found there in
        let inner = given_from (uses_told_at built_in terms definitions) (slice_index_or lists from.item []) found from.gives in
        let listed = listed_at (fragment_places terms) (values_of fragments) from.item inner.item inner.there in
        record {
          at = from.item;
          fragment = listed.item;
          place = inner.item;
          reaches = are.sound from.item (contains_in reached from.item from.there);
          stands = listed.stands;
          there = listed.there;
          told = inner.gives;
        }

    wrong_told : (found : Breach) → WrongSpread terms fragments definitions starts found → Contains (tells_spread reached) found
    wrong_told found wrong =
        let lists = map (fragment_places terms) (values_of fragments) in
        let list = list_is (fragment_places terms) (values_of fragments) wrong.at wrong.fragment wrong.stands in
        given_at (uses_told_in built_in terms definitions lists) reached wrong.at found
        (in_contains reached wrong.at (are.all wrong.at wrong.reaches))
        (given_at (uses_told_at built_in terms definitions) (slice_index_or lists wrong.at []) wrong.place found
        (subst (λ ps. Contains ps wrong.place) (sym list) wrong.there) wrong.told)

  -- the uses in the fragments that are reached from some, where the places are listed that matter
  pub spread_told : (built : BuiltIn) (lists : List (List Place)) (graph : List (List ℕ)) (starts reached : List ℕ) (old new : List Breach)
      → built ≡ built_in
      → lists ≡ map (λ fragment. kept (fragment_places terms fragment)) (values_of fragments) → graph ≡ place_graph terms fragments
      → AreReached graph starts reached → new ≡ old ++ flat_map (uses_told_in built terms definitions lists) reached
      → Adds (WrongSpread terms fragments definitions starts) old new
  spread_told built lists graph starts reached old new same listed made are told =
      let reaches : AreReached (place_graph terms fragments) starts reached = subst (λ g. AreReached g starts reached) made are in
      adds_same (Contains (tells_spread reached)) (WrongSpread terms fragments definitions starts) old new
      (told_wrong starts reached reaches)
      (wrong_told starts reached reaches)
      (adds_told old (tells_spread reached) new
      (told ∙ (λ i. old ++ flat_map (uses_told_in (same i) terms definitions (listed i)) reached) ∙ ap (λ tells. old ++ tells) (spread_kept
      reached)))

  none_from : (graph : List (List ℕ)) (to : ℕ) → ReachesFrom graph [] to → ⊥
  none_from graph _ (at_once to among) = never among
  none_from graph _ (further via to before leads) = none_from graph via before

  -- from nowhere nothing is reached
  pub none_spread : (starts : List ℕ) (empty : Bool) (old : List Breach) → empty ≡ (length starts == 0) → empty ≡ true
      → Adds (WrongSpread terms fragments definitions starts) old old
  none_spread [] empty old is so = record {
    kept = λ found there. there;
    has = λ found wrong. absurd (none_from (place_graph terms fragments) wrong.at wrong.reaches);
    only = λ found there. inl there;
  }
  none_spread (k ∷ starts) empty old is so =
      let none : length (k ∷ starts) ≡ 0 = eqb-true (length (k ∷ starts)) 0 (sym is ∙ so) in absurd (omega (arith, none))

-- what an operation starts from and reaches are fragments, whose places are listed
module _ (terms : Terms) (fragments : Fragments) (listed : Spread) (is : IsSpread terms fragments listed) where
  graph-long : length listed.graph.now ≡ length (names_of fragments)
  graph-long =
      ap length is.graph ∙ length-map (values_of fragments) (fragment_spreads terms fragments) ∙ length-map fragments (λ p. p.1)
      ∙ sym (length-map fragments (λ p. p.0))

  places-long : length listed.places.now ≡ length (names_of fragments)
  places-long =
      sym (length-map listed.places.now shown) ∙ ap length is.places
      ∙ length-map (values_of fragments) (λ fragment. kept (fragment_places terms fragment)) ∙ length-map fragments (λ p. p.1)
      ∙ sym (length-map fragments (λ p. p.0))

  pub starts_below : (starts : List ℕ) → AreBelow (length (names_of fragments)) starts → AreBelow (length listed.graph.now) starts
  starts_below starts below = subst (λ n. AreBelow n starts) (sym graph-long) below

  pub graph_inside : AreWithin listed.graph.now
  graph_inside = subst AreWithin (sym is.graph) (graph_within terms fragments)

  pub reached_below : (starts reached : List ℕ) → AreBelow (length (names_of fragments)) starts
      → AreReached listed.graph.now starts reached → AreBelow (length listed.places.now) reached
  reached_below starts reached below are = record {
    below = λ k there.
        subst (λ n. k < n) (graph-long ∙ sym places-long)
        (reached_within listed.graph.now starts k graph_inside (starts_below starts below) (are.sound k there));
  }

-- a number that was read is below the bound of all
pub below_at : (bound : ℕ) (ns : List ℕ) (i k : ℕ) → AreBelow bound ns → slice_get ns i ≡ Some k → k < bound
below_at bound ns i k are at = are.below k (among-take ◌==◌ same_number ns i k at)
