-- How a search goes along the ways of a tree of keys, and that a tree of keys stays one.
use Rattle.std.proofs.Common.{◌≡◌, ℕ, zero, suc, ◌+◌, ◌/◌, ◌<◌, ◌≤◌, ◌==◌, ◌⊎◌, inl, inr, Bool, true, false, List, [], ◌∷◌, ◌++◌, Option, Some, None, length, slice_get, slice_set, slice_index_or, refl, ap, sym, ◌∙◌, arith, subst, append_assoc, length-append, length-set, eq-eqb}
use borrow.Author.Tests.{eqb-true}
use Rattle.std.proofs.lemmas.Bool.{cases_lt}
use Rattle.std.proofs.lemmas.Option.{slice_get_within, slice_get-get_or, get_or_from_slice_get}
use Rattle.std.proofs.lemmas.List.Sums.{position_or_len_is}
use Rattle.gql_request.specs.KeyTree.{link_at, end_of, Leads, Arrives, GoesOn, IsKeyTree, first_place, Extends, Ends, EndsAt, EndsWithin, with_end, Finds}
use Rattle.gql_request.specs.declared.key_tree.Sought.{Sought}
use Rattle.gql_request.specs.declared.key_tree.Sought.TheVariants.{At, Missing}

not-true : (b : Bool) → (b ≡ true → ⊥) → b ≡ false
not-true true h = absurd (h refl)
not-true false h = refl

-- a way stays where links are added
extended : (links more : List (Option ℕ)) → Extends links more → (goal place bits : ℕ) → Leads links goal place bits → Leads more goal place bits
extended links more extends goal place bits (Arrives _) = Arrives bits
extended links more extends goal place bits (GoesOn _ _ next end rest) =
    GoesOn place bits next (extends (link_at place bits) next end) (extended links more extends goal next (bits / 2) rest)

-- a way that goes on goes on by the link
way-on : (links : List (Option ℕ)) (goal place bits next : ℕ) → end_of links (link_at place bits) ≡ Some next → (place ≡ goal → ⊥)
    → Leads links goal place bits → Leads links goal next (bits / 2)
way-on links goal place bits next end other (Arrives _) = absurd (other refl)
way-on links goal place bits next end other (GoesOn _ _ further there rest) =
    let same : further ≡ next = cc in
    subst (λ (at : ℕ). Leads links goal at (bits / 2)) same rest

-- where the link goes nowhere, no way goes on
no-way : (links : List (Option ℕ)) (goal place bits : ℕ) → end_of links (link_at place bits) ≡ None → (place ≡ goal → ⊥) → Leads links goal place bits → ⊥
no-way links goal place bits none other (Arrives _) = other refl
no-way links goal place bits none other (GoesOn _ _ further there rest) = cc

module _ (keys : List ℕ) (links : List (Option ℕ)) (tree : IsKeyTree keys links) where
  -- a way goes to later places alone
  leads-later : (goal place bits : ℕ) → Leads links goal place bits → place ≤ goal
  leads-later goal place bits (Arrives _) = omega arith
  leads-later goal place bits (GoesOn _ _ next end rest) =
      let on = tree.later (link_at place bits) next end in
      let further = leads-later goal next (bits / 2) rest in
      omega arith

  module _ (key place bits : ℕ) (leads : (goal : ℕ) → slice_get keys goal ≡ Some key → Leads links goal place bits) where
    -- a key that stands here isn't found before
    pub found_here : slice_get keys place ≡ Some key → first_place key keys ≡ place
    found_here here =
        let within = slice_get_within keys place key here in
        let before : (at : ℕ) → at < place → (key == slice_index_or keys at 0) ≡ false
        = λ at earlier. not-true (key == slice_index_or keys at 0) (λ same.
        let stands : slice_get keys at ≡ Some key =
        slice_get-get_or keys at 0 (omega arith) ∙ ap (λ k. Some k) (sym (eqb-true key (slice_index_or keys at 0) same)) in
        let later = leads-later at place bits (leads at stands) in
        omega arith) in
        let there : (key == slice_index_or keys place 0) ≡ true = eq-eqb key _ (sym (get_or_from_slice_get keys place key 0 here)) in
        position_or_len_is (λ k. key == k) keys place 0 (omega arith) before (λ _. there)

    -- a way that ends without the key finds it nowhere
    pub found_nowhere : (slice_get keys place ≡ Some key → ⊥) → end_of links (link_at place bits) ≡ None → length keys ≤ first_place key keys
    found_nowhere other none =
        let before : (at : ℕ) → at < length keys → (key == slice_index_or keys at 0) ≡ false
        = λ at within. not-true (key == slice_index_or keys at 0) (λ same.
        let stands : slice_get keys at ≡ Some key =
        slice_get-get_or keys at 0 within ∙ ap (λ k. Some k) (sym (eqb-true key (slice_index_or keys at 0) same)) in
        no-way links at place bits none (λ e. other (ap (slice_get keys) e ∙ stands)) (leads at stands)) in
        let first : first_place key keys ≡ length keys = position_or_len_is (λ k. key == k) keys (length keys) 0 (omega arith) before (λ w. absurd (omega arith)) in
        omega arith

    -- the keys that are left lie after the next place
    pub leads_on : (next : ℕ) → (slice_get keys place ≡ Some key → ⊥) → end_of links (link_at place bits) ≡ Some next
        → (goal : ℕ) → slice_get keys goal ≡ Some key → Leads links goal next (bits / 2)
    leads_on next other end goal stands = way-on links goal place bits next end (λ e. other (ap (slice_get keys) e ∙ stands)) (leads goal stands)

-- what is found from the next place on is found from here
pub finds_on : (keys : List ℕ) (links : List (Option ℕ)) (key place bits next : ℕ) (result : Sought) → end_of links (link_at place bits) ≡ Some next
    → Finds keys links key next (bits / 2) result → Finds keys links key place bits result
finds_on keys links key place bits next (At found) end finds = finds
finds_on keys links key place bits next (Missing None) end finds = finds
finds_on keys links key place bits next (Missing (Some link)) end (nowhere, ends) = (
  nowhere,
  record {
    within = ends.within;
    free = ends.free;
    leads = λ more goal extends there. GoesOn place bits next (extends (link_at place bits) next end) (ends.leads more goal extends there);
  },
)

-- a way ends at a link that goes nowhere
pub ends_here : (links : List (Option ℕ)) (place bits : ℕ) → link_at place bits < length links → end_of links (link_at place bits) ≡ None
    → Ends links place bits (link_at place bits)
ends_here links place bits within free =
    record {
      within = within;
      free = free;
      leads = λ more goal extends there. GoesOn place bits goal there (Arrives (bits / 2));
    }

get-front : {A : Type 0} (xs ys : List A) (k : ℕ) → k < length xs → slice_get (xs ++ ys) k ≡ slice_get xs k
get-front [] ys k within = absurd (omega arith)
get-front (x ∷ xs) ys zero within = refl
get-front (x ∷ xs) ys (suc k) within = get-front xs ys k (omega arith)

get-last : {A : Type 0} (xs : List A) (x : A) → slice_get (xs ++ x ∷ []) (length xs) ≡ Some x
get-last [] x = refl
get-last (y ∷ xs) x = get-last xs x

no-ends : (link next : ℕ) → end_of (None ∷ None ∷ []) link ≡ Some next → ⊥
no-ends zero next e = cc
no-ends (suc zero) next e = cc
no-ends (suc (suc link)) next e = cc

kept-front : (links : List (Option ℕ)) (at next : ℕ) (behind : List (Option ℕ)) → end_of links at ≡ Some next → end_of (links ++ behind) at ≡ Some next
kept-front [] at next behind end = cc
kept-front (x ∷ links) zero next behind end = end
kept-front (x ∷ links) (suc at) next behind end = kept-front links at next behind end

front-only : (links : List (Option ℕ)) (at next : ℕ) → end_of (links ++ None ∷ None ∷ []) at ≡ Some next → end_of links at ≡ Some next
front-only [] at next end = absurd (no-ends at next end)
front-only (x ∷ links) zero next end = end
front-only (x ∷ links) (suc at) next end = front-only links at next end

-- what a link goes to once another one is set and two are added
kept : (links : List (Option ℕ)) (at link next : ℕ) (new : Option ℕ) (behind : List (Option ℕ)) → end_of links at ≡ Some next → end_of links link ≡ None
    → end_of (slice_set links link new ++ behind) at ≡ Some next
kept [] at link next new behind end free = cc
kept (x ∷ links) zero zero next new behind end free = cc
kept (x ∷ links) zero (suc link) next new behind end free = end
kept (x ∷ links) (suc at) zero next new behind end free = kept-front links at next behind end
kept (x ∷ links) (suc at) (suc link) next new behind end free = kept links at link next new behind end free

only : (links : List (Option ℕ)) (at link next goal : ℕ) → link < length links → end_of (slice_set links link (Some goal) ++ None ∷ None ∷ []) at ≡ Some next
    → (end_of links at ≡ Some next) ⊎ ((at < length links) × (next ≡ goal))
only [] at link next goal within end = absurd (omega arith)
only (x ∷ links) zero zero next goal within end = inr (omega arith, cc)
only (x ∷ links) zero (suc link) next goal within end = inl end
only (x ∷ links) (suc at) zero next goal within end = inl (front-only links at next end)
only (x ∷ links) (suc at) (suc link) next goal within end = elim (only links at link next goal (omega arith) end) [
  | inl old ↦ inl old
  | inr (before, same) ↦ inr (omega arith, same)
]

set-here : (links : List (Option ℕ)) (link : ℕ) (new : Option ℕ) (behind : List (Option ℕ)) → link < length links
    → end_of (slice_set links link new ++ behind) link ≡ new
set-here [] link new behind within = absurd (omega arith)
set-here (x ∷ links) zero new behind within = refl
set-here (x ∷ links) (suc link) new behind within = set-here links link new behind (omega arith)

module _ (keys : List ℕ) (links more : List (Option ℕ)) (tree : IsKeyTree keys links) (key : ℕ) where
  grown : length more ≡ length links + 2 → Extends links more
      → ((link next : ℕ) → end_of more link ≡ Some next → (end_of links link ≡ Some next) ⊎ ((link < length links) × (next ≡ length keys)))
      → Leads more (length keys) 0 key → IsKeyTree (keys ++ key ∷ []) more
  grown long extends others leads =
      let longer : length (keys ++ key ∷ []) ≡ length keys + 1 = length-append keys (key ∷ []) in
      record {
        two = omega (arith, tree.two);
        later = λ link next end. elim (others link next end) [
          | inl old ↦ (let at = tree.later link next old in (at.0, omega (arith, at.1)))
          | inr (within, last) ↦ (omega (arith, tree.two), omega arith)
        ];
        reached = λ place other at. elim (cases_lt place (length keys)) [
          | inl before ↦ extended links more extends place 0 other (tree.reached place other (sym (get-front keys (key ∷ []) place before) ∙ at))
          | inr behind ↦ (
              let last : place ≡ length keys = (let within = slice_get_within (keys ++ key ∷ []) place other at in omega arith) in
              let same : Some key ≡ Some other = sym (get-last keys key) ∙ ap (slice_get (keys ++ key ∷ [])) (sym last) ∙ at in
              let one : key ≡ other = cc in
              subst (λ (k : ℕ). Leads more place 0 k) one (subst (λ (p : ℕ). Leads more p 0 key) (sym last) leads)
              )
        ];
      }

  -- the first key of all
  grown-first : links ≡ [] → more ≡ None ∷ None ∷ [] → IsKeyTree (keys ++ key ∷ []) more
  grown-first none is =
      let empty : length links ≡ 0 = ap length none in
      let no_key : length keys ≡ 0 = omega (arith, tree.two) in
      grown (ap length is ∙ omega arith)
      (λ link next end. absurd (let e : end_of links link ≡ None = ap (λ ls. end_of ls link) none in cc))
      (λ link next end. absurd (no-ends link next (ap (λ ls. end_of ls link) (sym is) ∙ end)))
      (subst (λ (goal : ℕ). Leads more goal 0 key) (sym no_key) (Arrives key))

  -- a key at a link
  grown-at : (link : ℕ) → Ends links 0 key link → more ≡ slice_set links link (Some (length keys)) ++ None ∷ None ∷ [] → IsKeyTree (keys ++ key ∷ []) more
  grown-at link ends is =
      let set : List (Option ℕ) = slice_set links link (Some (length keys)) in
      let long : length more ≡ length links + 2 = ap length is ∙ length-append set (None ∷ None ∷ []) ∙ ap (λ n. n + 2) (length-set links link (Some (length keys))) in
      let extends : Extends links more = λ at next end. ap (λ ls. end_of ls at) is ∙ kept links at link next (Some (length keys)) (None ∷ None ∷ []) end ends.free in
      grown long extends
      (λ at next end. only links at link next (length keys) ends.within (ap (λ ls. end_of ls at) (sym is) ∙ end))
      (ends.leads more (length keys) extends (ap (λ ls. end_of ls link) is ∙ set-here links link (Some (length keys)) (None ∷ None ∷ []) ends.within))

-- a key at the end of its way makes a tree of the tree
pub grown_end : (keys keys' : List ℕ) (links set half more : List (Option ℕ)) (key place : ℕ) (end : Option ℕ) → IsKeyTree keys links → EndsAt links 0 key end
    → place ≡ length keys → set ≡ with_end links end place → half ≡ set ++ None ∷ [] → more ≡ half ++ None ∷ [] → keys' ≡ keys ++ key ∷ []
    → IsKeyTree keys' more
grown_end keys keys' links set half more key place None tree ends at is first second grows =
    let made : more ≡ None ∷ None ∷ [] = second ∙ ap (λ ls. ls ++ None ∷ []) (first ∙ ap (λ ls. ls ++ None ∷ []) (is ∙ ends)) in
    subst (λ (ks : List ℕ). IsKeyTree ks more) (sym grows) (grown-first keys links more tree key ends made)
grown_end keys keys' links set half more key place (Some link) tree ends at is first second grows =
    let two : more ≡ set ++ None ∷ None ∷ [] = second ∙ ap (λ ls. ls ++ None ∷ []) first ∙ append_assoc set (None ∷ []) (None ∷ []) in
    let made : more ≡ slice_set links link (Some (length keys)) ++ None ∷ None ∷ [] = two ∙ ap (λ ls. ls ++ None ∷ None ∷ []) (is ∙ ap (λ p. slice_set links link (Some p)) at) in
    subst (λ (ks : List ℕ). IsKeyTree ks more) (sym grows) (grown-at keys links more tree key link ends made)

pub ends_within : (links : List (Option ℕ)) (place bits : ℕ) (end : Option ℕ) → EndsAt links place bits end → EndsWithin links end
ends_within links place bits None ends = tt
ends_within links place bits (Some link) ends = ends.within
