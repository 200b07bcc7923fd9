-- Members of circles: what the head of their component leads to, and what leads to it.
use Rattle.std.proofs.Common.{arith, ◌≡◌, ◌⊎◌, inl, inr, ℕ, zero, suc, ◌+◌, ◌<◌, Bool, true, false, ◌||◌, List, [], ◌∷◌, ◌++◌, take, length, Some, slice_get, slice_set, refl, ap, sym, subst, ◌∙◌, add-one, append-nil, append_assoc, length-append}
use Rattle.std.specs.Bool.{Decides}
use Rattle.std.specs.List.{flat_map}
use Rattle.std.specs.Prelude.{◌==◌}
use Rattle.gql_rules.specs.Circles.{AreHeads, AreOfRank, AreOnCircles, AreTold, AreTurned, IsInner, with_way}
use Rattle.gql_rules.specs.Reaching.{AreBelow, AreWithin, Reaches, ReachesFrom, at_once, further, is_in, led_to}
use Rattle.gql_schema.specs.GraphRanks.{rank_of}
use Rattle.gql_lists.proofs.SetLemmas.{among-append, or-either}
use Rattle.gql_lists.proofs.SliceLemmas.{get_append, length_set}
use Rattle.gql_rules.proofs.ReachLemmas.{same_number}

never : false ≡ true → ⊥
never e = cc

-- a place that is in a list with one more at its end
in_more : (ns : List ℕ) (n k : ℕ) → is_in k (ns ++ n ∷ []) ≡ true → (is_in k ns ≡ true) ⊎ (k ≡ n)
in_more ns n k among =
    elim (or-either (is_in k ns) _ (sym (among-append ◌==◌ k ns (n ∷ [])) ∙ among)) [
      | inl h ↦ inl h
      | inr h ↦ elim (or-either _ false h) [
        | inl same ↦ inr ((same_number k n).0 same)
        | inr nothing ↦ absurd (never nothing)
      ]
    ]

-- a way of a graph with one place more
pub led_more : (graph : List (List ℕ)) (ks : List ℕ) (from to : ℕ) → is_in to (led_to (graph ++ ks ∷ []) from) ≡ true
    → (is_in to (led_to graph from) ≡ true) ⊎ ((from ≡ length graph) × (is_in to ks ≡ true))
led_more [] ks zero to among = inr (refl, among)
led_more [] ks (suc from) to among = absurd (never among)
led_more (js ∷ graph) ks zero to among = inl among
led_more (js ∷ graph) ks (suc from) to among =
    elim (led_more graph ks from to among) [ inl h ↦ inl h | inr h ↦ inr (ap suc h.0, h.1) ]

-- a way of a graph in which a place leads to others than before
pub led_set : (graph : List (List ℕ)) (place : ℕ) (ks : List ℕ) (from to : ℕ) → is_in to (led_to (slice_set graph place ks) from) ≡ true
    → (is_in to (led_to graph from) ≡ true) ⊎ ((from ≡ place) × (is_in to ks ≡ true))
led_set [] place ks from to among = inl among
led_set (js ∷ graph) zero ks zero to among = inr (refl, among)
led_set (js ∷ graph) zero ks (suc from) to among = inl among
led_set (js ∷ graph) (suc place) ks zero to among = inl among
led_set (js ∷ graph) (suc place) ks (suc from) to among =
    elim (led_set graph place ks from to among) [ inl h ↦ inl h | inr h ↦ inr (ap suc h.0, h.1) ]

-- what a walk reaches from a place to which a reached place leads
reaches_on : (graph : List (List ℕ)) (first via to : ℕ) → Reaches graph first via → Reaches graph via to → Reaches graph first to
reaches_on graph first via _ before (at_once to among) = further via to before among
reaches_on graph first via _ before (further next to then leads) = further next to (reaches_on graph first via next before then) leads

-- one step, and what is reached from there
step_on : (graph : List (List ℕ)) (first via to : ℕ) → is_in via (led_to graph first) ≡ true → Reaches graph via to → Reaches graph first to
step_on graph first via to leads then = reaches_on graph first via to (at_once via leads) then

-- one of the places to which some lead
pub record LedBy (graph : List (List ℕ)) (places : List ℕ) (to : ℕ) : Type 0 where
  pub from : ℕ
  pub there : is_in from places ≡ true
  pub leads : is_in to (led_to graph from) ≡ true

led_by : (graph : List (List ℕ)) (places : List ℕ) (to : ℕ) → is_in to (flat_map (led_to graph) places) ≡ true → LedBy graph places to
led_by graph [] to among = absurd (never among)
led_by graph (p ∷ places) to among =
    elim (or-either (is_in to (led_to graph p)) _ (sym (among-append ◌==◌ to (led_to graph p) (flat_map (led_to graph) places)) ∙ among)) [
      | inl h ↦ record { from = p; there = first p places; leads = h }
      | inr h ↦
          let rest = led_by graph places to h in
          record { from = rest.from; there = behind p rest.from places rest.there; leads = rest.leads }
    ]
  where
    first : (n : ℕ) (ns : List ℕ) → is_in n (n ∷ ns) ≡ true
    first n ns = ap (λ b. b || is_in n ns) ((same_number n n).1 refl)

    or_right : (b c : Bool) → c ≡ true → (b || c) ≡ true
    or_right true c h = refl
    or_right false c h = h

    behind : (n k : ℕ) (ns : List ℕ) → is_in k ns ≡ true → is_in k (n ∷ ns) ≡ true
    behind n k ns h = or_right (k == n) (is_in k ns) h

-- a place that leads anywhere is one of the graph
leads_within : (graph : List (List ℕ)) (from to : ℕ) → is_in to (led_to graph from) ≡ true → from < length graph
leads_within [] from to leads = absurd (never leads)
leads_within (ks ∷ graph) zero to leads = omega arith
leads_within (ks ∷ graph) (suc from) to leads = let rest = leads_within graph from to leads in omega (arith, rest)

module _ (graph : List (List ℕ)) (ranks table heads : List ℕ) (inner turned : List (List ℕ))
    (is_inner : IsInner graph ranks (length graph) inner) (are_heads : AreHeads (length graph) ranks table heads)
    (are_turned : AreTurned inner (length inner) turned) where
  -- a head of a place's number leads to it
  pub record Behind (place : ℕ) : Type 0 where
    pub head : ℕ
    pub there : is_in head heads ≡ true
    pub ranked : rank_of ranks place ≡ rank_of ranks head
    pub reaches : Reaches graph head place

  -- a place is a head of its number, or leads to it
  pub record Before (place : ℕ) : Type 0 where
    pub head : ℕ
    pub there : is_in head heads ≡ true
    pub ranked : rank_of ranks place ≡ rank_of ranks head
    pub reaches : (place ≡ head) ⊎ Reaches graph place head

  is_behind : (place : ℕ) → ReachesFrom inner (flat_map (led_to inner) heads) place → Behind place
  is_behind _ (at_once place among) =
      let by = led_by inner heads place among in
      record {
        head = by.from;
        there = by.there;
        ranked = is_inner.ranked by.from place by.leads;
        reaches = at_once place (is_inner.within by.from place by.leads);
      }
  is_behind _ (further via place before leads) =
      let so = is_behind via before in
      record {
        head = so.head;
        there = so.there;
        ranked = is_inner.ranked via place leads ∙ so.ranked;
        reaches = further via place so.reaches (is_inner.within via place leads);
      }

  is_before : (place : ℕ) → ReachesFrom turned heads place → Before place
  is_before _ (at_once place among) = record { head = place; there = among; ranked = refl; reaches = inl refl }
  is_before _ (further via place before leads) =
      let so = is_before via before in
      let way : is_in via (led_to inner place) ≡ true = are_turned.turns via place leads in
      let step : is_in via (led_to graph place) ≡ true = is_inner.within place via way in
      record {
        head = so.head;
        there = so.there;
        ranked = sym (is_inner.ranked place via way) ∙ so.ranked;
        reaches =
            elim so.reaches [
              | inl same ↦ inr (at_once so.head (subst (λ k. is_in k (led_to graph place) ≡ true) same step))
              | inr on ↦ inr (step_on graph place via so.head step on)
            ];
      }

  one_of_rank : (one other : ℕ) → is_in one heads ≡ true → is_in other heads ≡ true → rank_of ranks one ≡ rank_of ranks other → one ≡ other
  one_of_rank one other here there same =
      sym (are_heads.own one here) ∙ ap (rank_of table) same ∙ are_heads.own other there

  on_circle : (place : ℕ) → Behind place → Before place → Reaches graph place place
  on_circle place behind before =
      let same : behind.head ≡ before.head = one_of_rank behind.head before.head behind.there before.there
      (sym behind.ranked ∙ before.ranked) in
      let from : Reaches graph before.head place = subst (λ k. Reaches graph k place) same behind.reaches in
      elim before.reaches [
        | inl is ↦ subst (λ k. Reaches graph k place) (sym is) from
        | inr on ↦ reaches_on graph place before.head place on from
      ]

  -- both walks stay within the graph
  pub starts_inside : (starts : List ℕ) → AreWithin graph → starts ≡ flat_map (led_to inner) heads → AreBelow (length inner) starts
  starts_inside starts within begun = record {
    below = λ k among.
        let by = led_by inner heads k (ap (is_in k) (sym begun) ∙ among) in
        let inside = within.within by.from k (is_inner.within by.from k by.leads) in
        omega (arith, inside, is_inner.long);
  }

  pub inner_inside : AreWithin graph → AreWithin inner
  inner_inside within = record {
    within = λ from to leads. let inside = within.within from to (is_inner.within from to leads) in omega (arith, inside, is_inner.long);
  }

  pub heads_inside : AreBelow (length turned) heads
  heads_inside = record { below = λ k among. let inside = are_heads.below k among in omega (arith, inside, are_turned.long, is_inner.long) }

  pub turned_inside : AreWithin turned
  turned_inside = record {
    within = λ from to leads. let inside = leads_within inner to from (are_turned.turns from to leads) in omega
        (arith, inside, are_turned.long);
  }

  -- what both walks reach
  pub circles_made : (starts : List ℕ) (ahead back : List (List ℕ)) (begin : List ℕ) (behind before : List Bool) → ahead ≡ inner
      → back ≡ turned → begin ≡ heads
      → starts ≡ flat_map (led_to inner) heads → length behind ≡ length ahead → length before ≡ length back
      → ((place : ℕ) (mark : Bool) → slice_get behind place ≡ Some mark → Decides mark (ReachesFrom ahead starts place))
      → ((place : ℕ) (mark : Bool) → slice_get before place ≡ Some mark → Decides mark (ReachesFrom back begin place))
      → AreOnCircles graph behind before
  circles_made starts ahead back begin behind before forth round first begun behind_long before_long forwards backwards = record {
    behind_long = behind_long ∙ ap length forth ∙ is_inner.long;
    before_long = before_long ∙ ap length round ∙ are_turned.long ∙ is_inner.long;
    reaches = λ place at also.
        on_circle place (is_behind place (subst (λ g. ReachesFrom g (flat_map (led_to inner) heads) place) forth
        (subst (λ ns. ReachesFrom ahead ns place) begun ((forwards place true at).0 refl))))
        (is_before place (subst (λ g. ReachesFrom g heads place) round (subst (λ ns. ReachesFrom back ns place) first ((backwards place
        true also).0 refl))));
  }

-- marks that tell of the places before one
pub none_told : (graph : List (List ℕ)) (circular : List Bool) → circular ≡ [] → AreTold graph 0 circular
none_told graph circular none = rw none (record { long = refl; told = λ place mark at. let e : ⊥ = cc in absurd e })

pub told_more : (graph : List (List ℕ)) (place : ℕ) (circular more : List Bool) (mark : Bool) → AreTold graph place circular
    → Decides mark (Reaches graph place place) → more ≡ circular ++ mark ∷ [] → AreTold graph (place + 1) more
told_more graph place circular more mark are decides added = rw added (record {
  long = length-append circular (mark ∷ []) ∙ ap (λ n. n + 1) are.long;
  told = λ other one at.
      elim (get_append circular (mark ∷ []) other one at) [
        | inl old ↦ are.told other one old
        | inr (zero, is, new) ↦
            let same : other ≡ place = omega (arith, is, are.long) in
            let mark_is : mark ≡ one = cc in
            subst (λ k. Decides one (Reaches graph k k)) (sym same) (subst (λ b. Decides b (Reaches graph place place)) mark_is decides)
        | inr (suc k, is, new) ↦ let e : ⊥ = cc in absurd e
      ];
})

pub told_on_circle : (P : Type 0) (mark : Bool) → (mark ≡ true → P) → mark ≡ true → Decides true P
told_on_circle P mark reaches is = (λ h. reaches is, λ h. refl)

-- heads, one after another
pub no_heads : (bound : ℕ) (ranks table heads : List ℕ) → heads ≡ [] → AreHeads bound ranks table heads
no_heads bound ranks table heads none = rw none (record {
  below = λ place among. absurd (never among);
  own = λ place among. absurd (never
      among);
})

pub one_head : (bound : ℕ) (ranks table heads more : List ℕ) (place head : ℕ) → AreHeads bound ranks table heads → place < bound
    → head ≡ rank_of table (rank_of ranks place) → head ≡ place → more ≡ heads ++ place ∷ [] → AreHeads bound ranks table more
one_head bound ranks table heads more place head are within read is added = rw added (record {
  below = λ k among. elim (in_more heads place k among) [
    | inl old ↦ are.below k old
    | inr same ↦ subst (λ n. n < bound) (sym same) within
  ];
  own = λ k among. elim (in_more heads place k among) [
    | inl old ↦ are.own k old
    | inr same ↦ ap (λ n. rank_of table (rank_of ranks n)) same ∙ sym read ∙ is ∙ sym same
  ];
})

-- places of a number, one after another
pub none_of_rank : (places ranks : List ℕ) (rank : ℕ) (kept : List ℕ) → kept ≡ [] → AreOfRank places ranks rank kept
none_of_rank places ranks rank kept none = rw none (record {
  among = λ k among. absurd (never among);
  ranked = λ k among. absurd (never
      among);
})

pub one_of_number : (places ranks : List ℕ) (rank : ℕ) (kept more : List ℕ) (place own : ℕ) → AreOfRank places ranks rank kept
    → is_in place places ≡ true
    → own ≡ rank_of ranks place → own ≡ rank → more ≡ kept ++ place ∷ [] → AreOfRank places ranks rank more
one_of_number places ranks rank kept more place own are there read is added = rw added (record {
  among = λ k among. elim (in_more kept place k among) [
    | inl old ↦ are.among k old
    | inr same ↦ subst (λ n. is_in n places ≡ true) (sym same) there
  ];
  ranked = λ k among. elim (in_more kept place k among) [
    | inl old ↦ are.ranked k old
    | inr same ↦ ap (rank_of ranks) same ∙ sym read ∙ is
  ];
})

-- ways between places of one number, place by place
pub no_inner : (graph : List (List ℕ)) (ranks : List ℕ) (inner : List (List ℕ)) → inner ≡ [] → IsInner graph ranks 0 inner
no_inner graph ranks inner none = rw none (record {
  long = refl;
  within = λ from to among. absurd (never among);
  ranked = λ from to among.
      absurd (never among);
})

pub inner_more : (graph : List (List ℕ)) (ranks : List ℕ) (place : ℕ) (inner more : List (List ℕ)) (kept : List ℕ)
    → IsInner graph ranks place inner
    → AreOfRank (led_to graph place) ranks (rank_of ranks place) kept → more ≡ inner ++ kept ∷ [] → IsInner graph ranks (place + 1) more
inner_more graph ranks place inner more kept is are added = rw added (record {
  long = length-append inner (kept ∷ []) ∙ ap (λ n. n + 1) is.long;
  within = λ from to among. elim (led_more inner kept from to among) [
    | inl old ↦ is.within from to old
    | inr new ↦ subst (λ k. is_in to (led_to graph k) ≡ true) (sym (new.0 ∙ is.long)) (are.among to new.1)
  ];
  ranked = λ from to among. elim (led_more inner kept from to among) [
    | inl old ↦ is.ranked from to old
    | inr new ↦ are.ranked to new.1 ∙ ap (rank_of ranks) (sym (new.0 ∙ is.long))
  ];
})

-- ways that are turned, one after another
pub none_turned : (graph turned : List (List ℕ)) → turned ≡ [] → AreTurned graph 0 turned
none_turned graph turned none = rw none (record { long = refl; turns = λ to from among. absurd (never among) })

pub wayless_more : (graph : List (List ℕ)) (place : ℕ) (turned more : List (List ℕ)) (none : List ℕ) → AreTurned graph place turned
    → none ≡ []
    → more ≡ turned ++ none ∷ [] → AreTurned graph (place + 1) more
wayless_more graph place turned more none are empty added = rw (added, empty) (record {
  long = length-append turned ([] ∷ []) ∙ ap (λ n. n + 1) are.long;
  turns = λ to from among. elim (led_more turned [] to from among) [
    | inl old ↦ are.turns to from old
    | inr new ↦ absurd (never new.1)
  ];
})

pub turned_more : (graph turned more : List (List ℕ)) (bound from to : ℕ) → AreTurned graph bound turned
    → is_in to (led_to graph from) ≡ true
    → more ≡ with_way turned to from → AreTurned graph bound more
turned_more graph turned more bound from to are leads added = rw added (record {
  long = length_set turned to (led_to turned to ++ from ∷ []) ∙ are.long;
  turns = λ at by among. elim (led_set turned to (led_to turned to ++ from ∷ []) at by among) [
    | inl old ↦ are.turns at by old
    | inr new ↦ elim (in_more (led_to turned to) from by new.1) [
      | inl old ↦ are.turns at by (subst (λ k. is_in by (led_to turned k) ≡ true) (sym new.0) old)
      | inr same ↦ subst (λ k. is_in at (led_to graph k) ≡ true) (sym same)
          (subst (λ k. is_in k (led_to graph from) ≡ true) (sym new.0) leads)
    ]
  ];
})

-- one place more, with what it leads to
pub led_next : {A B : Type 0} (f : A → List B) (xs : List A) (i : ℕ) (x : A) (now more : List B) → slice_get xs i ≡ Some x
    → now ≡ flat_map f (take i xs)
    → more ≡ now ++ f x → more ≡ flat_map f (take (i + 1) xs)
led_next {A = A} {B = B} f xs i x now more at is added = added ∙ ap (λ ys. ys ++ f x) is ∙ sym
    (ap (λ n. flat_map f (take n xs)) (add-one i) ∙ next xs i x at)
  where
    next : (ys : List A) (k : ℕ) (y : A) → slice_get ys k ≡ Some y → flat_map f (take (suc k) ys) ≡ flat_map f (take k ys) ++ f y
    next [] k y at = cc
    next (z ∷ ys) zero y at =
        let same : z ≡ y = cc in
        ap (λ w. f w ++ []) same ∙ append-nil (f y)
    next (z ∷ ys) (suc k) y at = ap (λ bs. f z ++ bs) (next ys k y at) ∙ sym (append_assoc (f z) (flat_map f (take k ys)) (f y))
