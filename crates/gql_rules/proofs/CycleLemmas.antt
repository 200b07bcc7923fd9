-- Fragments that reach themselves, told one after another.
use Rattle.std.proofs.Common.{arith, ◌≡◌, ◌⊎◌, inl, inr, ℕ, zero, suc, ◌+◌, ◌<◌, Bool, true, false, List, [], ◌∷◌, ◌++◌, length, Some, slice_get, refl, ap, sym, subst, ◌∙◌}
use Rattle.std.proofs.Math.ListN.{length-map}
use Rattle.std.proofs.lemmas.Bool.{cases_lt}
use Rattle.std.specs.Bool.{Decides}
use Rattle.std.specs.Prelude.{◌==◌}
use Rattle.std.specs.List.{Contains}
use Rattle.std.proofs.lemmas.List.Elements.{Contains-append_cases, Contains-append_left, Contains-append_right}
use Rattle.gql_base.specs.Pairs.{names_of, values_of}
use Rattle.gql_doc.specs.Depth.{Fragments}
use Rattle.gql_doc.specs.declared.document.FragmentDefinition.{FragmentDefinition}
use Rattle.gql_doc.specs.declared.document.Positioned.{Positioned}
use Rattle.gql_fields.specs.Breach.{breach}
use Rattle.gql_fields.specs.declared.breach.Breach.{Breach}
use Rattle.gql_fields.specs.declared.breach.BreachKind.TheVariants as kinds
use Rattle.gql_rules.specs.BreachTexts.{circular_text}
use Rattle.gql_rules.specs.Adds.{Adds}
use Rattle.gql_rules.specs.Circles.{AreTold}
use Rattle.gql_rules.specs.Reaching.{AreBelow, AreWithin, Reaches, is_in, led_to}
use Rattle.gql_rules.specs.FragmentCycles.{CircularAt, IsCircular}
use Rattle.gql_rules.specs.FragmentSpreads.{graph_of, spread_in}
use Rattle.gql_lists.proofs.SetLemmas.{among-append, or-either}
use Rattle.gql_rules.proofs.ReachLemmas.{same_number}

never : false ≡ true → ⊥
never e = cc

pub none_below : (bound : ℕ) → AreBelow bound []
none_below bound = record { below = λ k among. absurd (never among) }

pub below_more : (bound : ℕ) (ns : List ℕ) (k : ℕ) → AreBelow bound ns → k < bound → AreBelow bound (ns ++ k ∷ [])
below_more bound ns k are within = record {
  below = λ m among.
      elim (or-either (is_in m ns) _ (sym (among-append ◌==◌ m ns (k ∷ [])) ∙ among)) [
        | inl h ↦ are.below m h
        | inr h ↦ elim (or-either _ false h) [
          | inl same ↦ subst (λ n. n < bound) (sym ((same_number m k).0 same)) within
          | inr nothing ↦ absurd (never nothing)
        ]
      ];
}

-- all to which some place leads is below a bound
pub record AllBelow (bound : ℕ) (graph : List (List ℕ)) : Type 0 where
  pub all : (from to : ℕ) → is_in to (led_to graph from) ≡ true → to < bound

pub none_led : (bound : ℕ) → AllBelow bound []
none_led bound = record { all = λ from to among. absurd (never among) }

led_more : (bound : ℕ) (graph : List (List ℕ)) (ks : List ℕ) → AllBelow bound graph → AreBelow bound ks → (from to : ℕ)
    → is_in to (led_to (graph ++ ks ∷ []) from) ≡ true → to < bound
led_more bound [] ks all are zero to among = are.below to among
led_more bound [] ks all are (suc from) to among = absurd (never among)
led_more bound (js ∷ graph) ks all are zero to among = all.all zero to among
led_more bound (js ∷ graph) ks all are (suc from) to among =
    led_more bound graph ks (record { all = λ f t a. all.all (suc f) t a }) are from to among

pub all_more : (bound : ℕ) (graph : List (List ℕ)) (ks : List ℕ) → AllBelow bound graph → AreBelow bound ks → AllBelow bound (graph ++ ks ∷ [])
all_more bound graph ks all are = record { all = led_more bound graph ks all are }

-- the graph of fragments has a place for each
pub graph_long : (fragments : Fragments) → length (graph_of fragments) ≡ length fragments
graph_long fragments = length-map (values_of fragments) (spread_in (names_of fragments)) ∙ length-map fragments (λ p. p.1)

pub graph_within : (fragments : Fragments) (graph : List (List ℕ)) → graph ≡ graph_of fragments → AllBelow (length fragments) graph → AreWithin graph
graph_within fragments graph is all = record {
  within = λ from to among. subst (λ n. to < n) (sym (ap length is ∙ graph_long fragments)) (all.all from to among);
}

-- what is told of its places is told of the fragments
pub told_for : (fragments : Fragments) (graph ahead : List (List ℕ)) (circular marks : List Bool) → graph ≡ graph_of fragments
    → ahead ≡ graph → marks ≡ circular → AreTold ahead (length ahead) circular → AreTold (graph_of fragments) (length fragments) marks
told_for fragments graph ahead circular marks is read same told =
    subst (AreTold (graph_of fragments) (length fragments)) (sym same)
    (subst (λ n. AreTold (graph_of fragments) n circular) (graph_long fragments)
    (subst (λ g. AreTold g (length g) circular) (read ∙ is) told))

-- Breaches that are added.

none_in : {A : Type 0} (x : A) (G : Type 0) → Contains [] x → G
none_in x G (k, within, at) = absurd (omega arith)

one_in : {A : Type 0} (x y : A) → Contains (x ∷ []) y → x ≡ y
one_in x y (zero, within, at) = at
one_in x y (suc k, within, at) = absurd (omega arith)

last_in : (old : List Breach) (x : Breach) → Contains (old ++ x ∷ []) x
last_in old x = Contains-append_right old (x ∷ []) x (0, omega arith, refl)

slice_same : (fragments : Fragments) (place : ℕ) (one other : List ℕ × Positioned FragmentDefinition) → slice_get fragments place ≡ Some one → slice_get fragments place ≡ Some other
    → one ≡ other
slice_same fragments place one other at also = cc

module _ (fragments : Fragments) where
  -- a fragment that reaches itself is told
  pub one_told : (place : ℕ) (name : List ℕ) (fragment : Positioned FragmentDefinition) (old new : List Breach) (told : Breach) (reaches : Bool) (graph : List (List ℕ))
      → slice_get fragments place ≡ Some (name, fragment) → graph ≡ graph_of fragments → Decides reaches (Reaches graph place place) → reaches ≡ true
      → told ≡ breach fragment.pos kinds.CircularFragment name (circular_text name) → new ≡ old ++ told ∷ [] → Adds (CircularAt fragments place) old new
  one_told place name fragment old new told reaches graph at is decides so told_is added = record {
    kept = λ found among. subst (λ xs. Contains xs found) (sym added) (Contains-append_left old (told ∷ []) found among);
    has = λ found there.
        let same : (there.name, there.fragment) ≡ (name, fragment) = slice_same fragments place (there.name, there.fragment) (name, fragment) there.stands at in
        let meant : found ≡ told = there.told ∙ ap (λ p. breach p.1.pos kinds.CircularFragment p.0 (circular_text p.0)) same ∙ sym told_is in
        subst (λ xs. Contains xs found) (sym added) (subst (λ x. Contains (old ++ told ∷ []) x) (sym meant) (last_in old told));
    only = λ found among.
        elim (Contains-append_cases old (told ∷ []) found (subst (λ xs. Contains xs found) added among)) [
          | inl h ↦ inl h
          | inr h ↦ inr (record {
            name = name;
            fragment = fragment;
            stands = at;
            reaches = subst (λ g. Reaches g place place) is (decides.0 so);
            told = sym (one_in told found h) ∙ told_is;
          })
        ];
  }

  -- and another isn't
  pub none_told : (place : ℕ) (old : List Breach) (reaches : Bool) (graph : List (List ℕ)) → graph ≡ graph_of fragments
      → Decides reaches (Reaches graph place place) → reaches ≡ false → Adds (CircularAt fragments place) old old
  none_told place old reaches graph is decides so = record {
    kept = λ found among. among;
    has = λ found there. absurd (never (sym so ∙ decides.1 (subst (λ g. Reaches g place place) (sym is) there.reaches)));
    only = λ found among. inl among;
  }

  -- those before a place
  pub record IsBefore (bound : ℕ) (found : Breach) : Type 0 where
    pub place : ℕ
    pub before : place < bound
    pub there : CircularAt fragments place found

  pub none_before : (old : List Breach) → Adds (IsBefore 0) old old
  none_before old = record {
    kept = λ found among. among;
    has = λ found before. absurd (omega (arith, before.before));
    only = λ found among. inl among;
  }

  pub before_more : (bound : ℕ) (old now more : List Breach) → Adds (IsBefore bound) old now → Adds (CircularAt fragments bound) now more
      → Adds (IsBefore (bound + 1)) old more
  before_more bound old now more first second = record {
    kept = λ found among. second.kept found (first.kept found among);
    has = λ found before.
        elim (split before.place bound before.before) [
          | inl less ↦ second.kept found (first.has found (record { place = before.place; before = less; there = before.there }))
          | inr same ↦ second.has found (subst (λ p. CircularAt fragments p found) same before.there)
        ];
    only = λ found among.
        elim (second.only found among) [
          | inl h ↦ elim (first.only found h) [
            | inl old ↦ inl old
            | inr before ↦ inr (record { place = before.place; before = omega (arith, before.before); there = before.there })
          ]
          | inr there ↦ inr (record { place = bound; before = omega arith; there = there })
        ];
  }
    where
      split : (place bound : ℕ) → place < bound + 1 → (place < bound) ⊎ (place ≡ bound)
      split place bound h = elim (cases_lt place bound) [ inl less ↦ inl less | inr more ↦ inr (omega (arith, more)) ]

  within_long : (xs : Fragments) (place : ℕ) (x : List ℕ × Positioned FragmentDefinition) → slice_get xs place ≡ Some x → place < length xs
  within_long [] place x at = cc
  within_long (y ∷ ys) zero x at = omega arith
  within_long (y ∷ ys) (suc place) x at = let h = within_long ys place x at in omega (arith, h)

  -- all places were looked at
  pub all_before : (old new : List Breach) → Adds (IsBefore (length fragments)) old new → Adds (IsCircular fragments) old new
  all_before old new adds = record {
    kept = adds.kept;
    has = λ found is. adds.has found (record { place = is.place; before = within_long fragments is.place (is.there.name, is.there.fragment) is.there.stands; there = is.there });
    only = λ found among.
        elim (adds.only found among) [ inl h ↦ inl h | inr before ↦ inr (record { place = before.place; there = before.there }) ];
  }

-- what stands of fragments before a place
pub ruleset each_before = (none_before, before_more, all_before)
