-- Chains of places: what they are once a name is added, and what a search in one finds.
use Rattle.std.proofs.Common.{◌≡◌, ◌⊎◌, inl, inr, ℕ, zero, suc, ◌+◌, ◌<◌, List, [], ◌∷◌, ◌++◌, length, Option, Some, None, slice_get}
use Rattle.std.proofs.Common.{slice_set, Bool, true, false, cond, refl, ap, sym, ◌∙◌, subst, arith, length-append}
use Rattle.std.specs.Option.{option_map_or}
use Rattle.std.specs.Str.{bytes_eq}
use Rattle.std.specs.Cmp.Lexicographic.{bytes_decides}
use Rattle.std.proofs.Math.ListN.{replicate}
use Rattle.std.proofs.lemmas.List.{length-set}
use Rattle.gql_base.specs.Names.{place_of, AreDistinct}
use Rattle.gql_base.specs.Chains.{AreLinked, Leads, chain_of, further, here}
use Rattle.gql_base.proofs.NamesLemmas.{next, place_front, place_here}

some_same : {A : Type 0} (x y : A) → Some x ≡ Some y → x ≡ y
some_same x y same = ap (λ o. option_map_or (λ z. z) o x) same

get_more : {A : Type 0} (xs ys : List A) (i : ℕ) (x : A) → slice_get xs i ≡ Some x → slice_get (xs ++ ys) i ≡ Some x
get_more [] ys i x at = cc
get_more (y ∷ xs) ys zero x at = at
get_more (y ∷ xs) ys (suc i) x at = get_more xs ys i x at

get_last : {A : Type 0} (xs : List A) (x : A) → slice_get (xs ++ x ∷ []) (length xs) ≡ Some x
get_last [] x = refl
get_last (y ∷ xs) x = get_last xs x

-- an item of a list with one more is one of the list, or the last
got_pushed : {A : Type 0} (xs : List A) (x : A) (i : ℕ) (y : A) → slice_get (xs ++ x ∷ []) i ≡ Some y
    → (slice_get xs i ≡ Some y) ⊎ ((i ≡ length xs) × (x ≡ y))
got_pushed [] x zero y at = inr (refl, some_same x y at)
got_pushed [] x (suc i) y at = cc
got_pushed (z ∷ xs) x zero y at = inl at
got_pushed (z ∷ xs) x (suc i) y at =
    elim (got_pushed xs x i y at) [ inl h ↦ inl h | inr h ↦ inr (ap suc h.0, h.1) ]

-- an item of a list in which one is set is that one, or stands elsewhere
got_set : {A : Type 0} (xs : List A) (k : ℕ) (v : A) (i : ℕ) (y : A) → slice_get (slice_set xs k v) i ≡ Some y
    → ((i ≡ k) × (v ≡ y)) ⊎ ((i ≡ k → ⊥) × (slice_get xs i ≡ Some y))
got_set [] k v i y at = cc
got_set (x ∷ xs) zero v zero y at = inl (refl, some_same v y at)
got_set (x ∷ xs) zero v (suc i) y at = inr ((λ same. omega (arith, same)), at)
got_set (x ∷ xs) (suc k) v zero y at = inr ((λ same. omega (arith, same)), at)
got_set (x ∷ xs) (suc k) v (suc i) y at =
    elim (got_set xs k v i y at) [
      | inl h ↦ inl (ap suc h.0, h.1)
      | inr h ↦ inr ((λ same. h.0 (omega (arith, same))), h.1)
    ]

get_within : {A : Type 0} (xs : List A) (i : ℕ) (x : A) → slice_get xs i ≡ Some x → i < length xs
get_within [] i x at = cc
get_within (y ∷ xs) zero x at = omega arith
get_within (y ∷ xs) (suc i) x at = omega (arith, get_within xs i x at)

got_replicated : {A : Type 0} (n : ℕ) (a : A) (i : ℕ) (x : A) → slice_get (replicate n a) i ≡ Some x → a ≡ x
got_replicated zero a i x at = cc
got_replicated (suc n) a zero x at = some_same a x at
got_replicated (suc n) a (suc i) x at = got_replicated n a i x at

leads_more : (before more : List (Option ℕ)) (last : Option ℕ) (place : ℕ) → Leads before last place → Leads (before ++ more) last place
leads_more before more last place (here at) = here at
leads_more before more last place (further from to next at rest) =
    further from to next (get_more before more from next at) (leads_more before more next to rest)

-- chains without a place
pub none_linked : (count : ℕ) (heads : List (Option ℕ)) → 0 < count → heads ≡ replicate count None → length heads ≡ count → AreLinked heads [] []
none_linked count heads some is long = record {
  some = subst (λ n. 0 < n) (sym long) some;
  paired = refl;
  falls = λ place next at. cc;
  starts = λ chain place at.
      let gone : None ≡ Some place = got_replicated count None chain (Some place) (ap (λ xs. slice_get xs chain) (sym is) ∙ at) in
      cc;
  leads = λ place name last at head. cc;
}

-- chains with one place more
pub linked_more : (heads before : List (Option ℕ)) (names : List (List ℕ)) (name : List ℕ) (last : Option ℕ) → AreLinked heads before names
    → slice_get heads (chain_of name (length heads)) ≡ Some last
    → AreLinked (slice_set heads (chain_of name (length heads)) (Some (length names))) (before ++ last ∷ []) (names ++ name ∷ [])
linked_more heads before names name last linked first = record {
  some = subst (λ n. 0 < n) (sym long) linked.some;
  paired = length-append before (last ∷ []) ∙ ap (λ n. n + 1) linked.paired ∙ sym (length-append names (name ∷ []));
  falls = λ place next at. falls place next (got_pushed before last place (Some next) at);
  starts = λ chain place at. starts chain place (got_set heads (chain_of name (length heads)) (Some (length names)) chain (Some place) at);
  leads = λ place other head at stands.
      leads place other head (got_pushed names name place other at)
      (got_set heads (chain_of name (length heads)) (Some (length names)) (chain_of other (length heads)) head
      (subst (λ n. slice_get (slice_set heads (chain_of name (length heads)) (Some (length names))) (chain_of other n) ≡ Some head) long stands));
}
  where
    chain : ℕ
    chain = chain_of name (length heads)

    long : length (slice_set heads chain (Some (length names))) ≡ length heads
    long = length-set heads chain (Some (length names))

    longer : length (names ++ name ∷ []) ≡ length names + 1
    longer = length-append names (name ∷ [])

    falls : (place next : ℕ) → (slice_get before place ≡ Some (Some next)) ⊎ ((place ≡ length before) × (last ≡ Some next)) → next < place
    falls place next (inl at) = linked.falls place next at
    falls place next (inr (at, is)) =
        let within : next < length names = linked.starts chain next (first ∙ ap Some is) in
        omega (arith, within, at, linked.paired)

    starts : (at place : ℕ) → ((at ≡ chain) × (Some (length names) ≡ Some place)) ⊎ ((at ≡ chain → ⊥) × (slice_get heads at ≡ Some (Some place)))
        → place < length (names ++ name ∷ [])
    starts at place (inl (same, is)) =
        let place_is : length names ≡ place = some_same (length names) place is in
        omega (arith, place_is, longer)
    starts at place (inr (other, stands)) =
        let within : place < length names = linked.starts at place stands in
        omega (arith, within, longer)

    -- from the new place on
    behind : (place : ℕ) → Leads before last place → Leads (before ++ last ∷ []) (Some (length names)) place
    behind place leading =
        further (length names) place last (subst (λ n. slice_get (before ++ last ∷ []) n ≡ Some last) linked.paired (get_last before last))
        (leads_more before (last ∷ []) last place leading)

    leads : (place : ℕ) (other : List ℕ) (head : Option ℕ) → (slice_get names place ≡ Some other) ⊎ ((place ≡ length names) × (name ≡ other))
        → ((chain_of other (length heads) ≡ chain) × (Some (length names) ≡ head))
        ⊎ ((chain_of other (length heads) ≡ chain → ⊥) × (slice_get heads (chain_of other (length heads)) ≡ Some head))
        → Leads (before ++ last ∷ []) head place
    leads place other head (inl at) (inl (same, is)) =
        subst (λ h. Leads (before ++ last ∷ []) h place) is
        (behind place (linked.leads place other last at (ap (slice_get heads) same ∙ first)))
    leads place other head (inl at) (inr (elsewhere, stands)) =
        leads_more before (last ∷ []) head place (linked.leads place other head at stands)
    leads place other head (inr (at, is)) (inl (same, last_is)) =
        subst (λ h. Leads (before ++ last ∷ []) h place) last_is (subst (λ p. Leads (before ++ last ∷ []) (Some p) place) at (here place))
    leads place other head (inr (at, is)) (inr (elsewhere, stands)) =
        absurd (elsewhere (ap (λ n. chain_of n (length heads)) (sym is)))

-- the same, where the new lists are known by what they equal
pub linked_added : (heads before new_heads new_before : List (Option ℕ)) (names : List (List ℕ)) (name : List ℕ) (chain : ℕ) (last set : Option ℕ)
    → AreLinked heads before names → chain ≡ chain_of name (length heads) → slice_get heads chain ≡ Some last → new_heads ≡ slice_set heads chain set
    → set ≡ Some (length names) → new_before ≡ before ++ last ∷ [] → AreLinked new_heads new_before (names ++ name ∷ [])
linked_added heads before new_heads new_before names name chain last set linked chained first heads_are set_is before_is =
    let more = linked_more heads before names name last linked (ap (slice_get heads) (sym chained) ∙ first) in
    let whole : slice_set heads (chain_of name (length heads)) (Some (length names)) ≡ new_heads =
    ap (λ k. slice_set heads k (Some (length names))) (sym chained) ∙ ap (slice_set heads chain) (sym set_is) ∙ sym heads_are in
    subst (λ hs. AreLinked hs new_before (names ++ name ∷ [])) whole
    (subst (λ bs. AreLinked (slice_set heads (chain_of name (length heads)) (Some (length names))) bs (names ++ name ∷ [])) (sym before_is) more)

-- where a search for a name has come to in a chain
pub record SeeksFrom (before : List (Option ℕ)) (names : List (List ℕ)) (name : List ℕ) (at : Option ℕ) : Type 0 where
  pub within : (place : ℕ) → at ≡ Some place → place < length names
  pub leads : (place : ℕ) → slice_get names place ≡ Some name → Leads before at place

pub seeks_first : (heads before : List (Option ℕ)) (names : List (List ℕ)) (name : List ℕ) (last : Option ℕ) → AreLinked heads before names
    → slice_get heads (chain_of name (length heads)) ≡ Some last → SeeksFrom before names name last
seeks_first heads before names name last linked first = record {
  within = λ place is. linked.starts (chain_of name (length heads)) place (first ∙ ap Some is);
  leads = λ place at. linked.leads place name last at first;
}

-- a step of a way
led_on : (before : List (Option ℕ)) (from to : ℕ) → Leads before (Some from) to
    → (from ≡ to) ⊎ ((next : Option ℕ) × (slice_get before from ≡ Some next) × Leads before next to)
led_on before from to (here at) = inl refl
led_on before from to (further at there next is rest) = inr (next, is, rest)

pub seeks_next : (heads before : List (Option ℕ)) (names : List (List ℕ)) (name other : List ℕ) (place : ℕ) (following : Option ℕ)
    → AreLinked heads before names → SeeksFrom before names name (Some place) → slice_get names place ≡ Some other → bytes_eq other name ≡ false
    → slice_get before place ≡ Some following → SeeksFrom before names name following
seeks_next heads before names name other place following linked seeks stands differs at = record {
  within = λ more is.
      let less : more < place = linked.falls place more (at ∙ ap Some is) in
      omega (arith, less, seeks.within place refl);
  leads = λ to there.
      elim (led_on before place to (seeks.leads to there)) [
        | inl same ↦
            let named : other ≡ name = some_same other name (sym stands ∙ ap (slice_get names) same ∙ there) in
            let equal : bytes_eq other name ≡ true = (bytes_decides other name).1 named in
            let bad : true ≡ false = sym equal ∙ differs in
            cc
        | inr (next, is, rest) ↦ subst (λ o. Leads before o to) (some_same next following (sym is ∙ at)) rest
      ];
}

-- how far a search has to go still
abbrev pub weight : Option ℕ → ℕ
weight None = 0
weight (Some place) = suc place

pub lighter : (heads before : List (Option ℕ)) (names : List (List ℕ)) (place : ℕ) (following : Option ℕ) → AreLinked heads before names
    → slice_get before place ≡ Some following → weight following < suc place
lighter heads before names place None linked at = omega arith
lighter heads before names place (Some more) linked at = omega (arith, linked.falls place more at)

-- the name at a place that is found
place_behind : (name other : List ℕ) (names : List (List ℕ)) (place : ℕ) (o : Option ℕ) → ((k : ℕ) → o ≡ Some k → slice_get names k ≡ Some name)
    → next o ≡ Some place → slice_get (other ∷ names) place ≡ Some name
place_behind name other names place None each h = cc
place_behind name other names place (Some k) each h =
    subst (λ p. slice_get (other ∷ names) p ≡ Some name) (some_same (suc k) place h) (each k refl)

place_named : (name : List ℕ) (names : List (List ℕ)) (place : ℕ) → place_of name names ≡ Some place → slice_get names place ≡ Some name
place_named name [] place found = cc
place_named name (other ∷ names) place found =
    let P : Bool → Type 0 = λ b. (b ≡ true → name ≡ other) → cond b (Some 0) (next (place_of name names)) ≡ Some place
    → slice_get (other ∷ names) place ≡ Some name in
    (elim (bytes_eq name other) as P [
      | true ↦ λ same h. (let zeroth : 0 ≡ place = some_same 0 place h in
          subst (λ p. slice_get (other ∷ names) p ≡ Some name) zeroth (ap Some (sym (same refl))))
      | false ↦ λ same h. place_behind name other names place (place_of name names) (λ k is. place_named name names k is) h
    ]) (bytes_decides name other).0 found

-- nothing is met after the first place of a chain
nowhere : (before : List (Option ℕ)) (at : Option ℕ) (place : ℕ) → Leads before at place → at ≡ None → ⊥
nowhere before at place (here _) is = cc
nowhere before at place (further _ _ _ _ _) is = cc

-- a search at the end of a chain has found nothing
pub sought : (before : List (Option ℕ)) (names : List (List ℕ)) (name : List ℕ) → SeeksFrom before names name None → place_of name names ≡ None
sought before names name seeks = absent (place_of name names) refl
  where
    absent : (o : Option ℕ) → place_of name names ≡ o → o ≡ None
    absent None is = refl
    absent (Some place) is = absurd (nowhere before None place (seeks.leads place (place_named name names place is)) refl)

-- a name at a place of distinct names is found there
pub found_there : (names : List (List ℕ)) (name : List ℕ) (place : ℕ) → AreDistinct names → slice_get names place ≡ Some name
    → place_of name names ≡ Some place
found_there names name place distinct at = place_here name names place (place_front names place name distinct at) at
