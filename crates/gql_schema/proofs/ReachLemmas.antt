-- Walks over the input objects that others need.
use Rattle.std.proofs.Common.{◌≡◌, ℕ, zero, suc, ◌+◌, ◌-◌, ◌≤◌, ◌<◌, Bool, true, false, cond, List, [], ◌∷◌, ◌++◌, take, length, Option, Some, None, slice_get, refl, ap, sym, ◌∙◌, add-one}
use Rattle.std.specs.List.{filter_map}
use Rattle.std.specs.Str.{bytes_eq}
use Rattle.std.specs.Cmp.Lexicographic.{bytes_decides}
use Rattle.std.specs.Bool.{Decides}
use Rattle.gql_base.specs.Pairs.{under}
use Rattle.gql_lists.specs.Sets.{missing}
use Rattle.gql_lists.proofs.ReachLemmas.{IsWalk, Reaching}
use Rattle.gql_lists.proofs.ReachLemmas.{walk_closed, walk_ends as ends, walk_goes as goes, walk_starts as starts}
use Rattle.gql_lists.proofs.SetLemmas.{all-append, among-append, or-left, or-right}
use Rattle.gql_schema.specs.NameSet.{is_among, with_names, with_optional}
use Rattle.gql_schema.specs.Sound.{Reaches, at_once, further, needed_by, needed_in, needed_name}
use Rattle.gql_schema.specs.TableReading.{TypeTable}
use Rattle.gql_schema.specs.declared.input_value.InputValue.{InputValue}

-- names that are added one by one
with-optional-front : (f : List ℕ × InputValue) (o : Option (List ℕ)) (ns xs : List (List ℕ)) → needed_name f ≡ o
    → with_names ns (filter_map needed_name (f ∷ [])) ≡ with_optional ns o
with-optional-front f None ns xs same = rw same refl
with-optional-front f (Some n) ns xs same = rw same refl

filter_map-cons : (f : List ℕ × InputValue) (fs : List (List ℕ × InputValue)) → filter_map needed_name (f ∷ fs) ≡ filter_map needed_name (f ∷ []) ++ filter_map needed_name fs
filter_map-cons f fs =
    let P : Option (List ℕ) → Type 0 = λ o. (needed_name f ≡ o) → filter_map needed_name (f ∷ fs) ≡ filter_map needed_name (f ∷ []) ++ filter_map needed_name fs in
    (elim (needed_name f) as P [ None ↦ λ h. rw h refl | Some n ↦ λ h. rw h refl ]) refl

needed-more : (fs : List (List ℕ × InputValue)) (i : ℕ) (f : List ℕ × InputValue) (ns : List (List ℕ)) → slice_get fs i ≡ Some f
    → with_names ns (filter_map needed_name (take (suc i) fs)) ≡ with_optional (with_names ns (filter_map needed_name (take i fs))) (needed_name f)
needed-more [] i f ns at = cc
needed-more (g ∷ fs) zero f ns at =
    let same : g ≡ f = cc in
    rw same (with-optional-front f (needed_name f) ns [] refl)
needed-more (g ∷ fs) (suc i) f ns at =
    ap (with_names ns) (filter_map-cons g (take (suc i) fs))
    ∙ all-append bytes_eq ns (filter_map needed_name (g ∷ [])) (filter_map needed_name (take (suc i) fs))
    ∙ needed-more fs i f (with_names ns (filter_map needed_name (g ∷ []))) at
    ∙ ap (λ ms. with_optional ms (needed_name f)) (sym (all-append bytes_eq ns (filter_map needed_name (g ∷ [])) (filter_map needed_name (take i fs))))
    ∙ ap (λ ms. with_optional (with_names ns ms) (needed_name f)) (sym (filter_map-cons g (take i fs)))

pub needed_more : (fs : List (List ℕ × InputValue)) (i : ℕ) (f : List ℕ × InputValue) (ns ms : List (List ℕ)) (o : Option (List ℕ)) → slice_get fs i ≡ Some f
    → ms ≡ with_names ns (filter_map needed_name (take i fs)) → o ≡ needed_name f
    → with_optional ms o ≡ with_names ns (filter_map needed_name (take (i + 1) fs))
needed_more fs i f ns ms o at made told = rw (made, told, add-one) (sym (needed-more fs i f ns at))

-- a walk from an input object: the names that were reached, of which the first have been entered
abbrev pub NeedsWalk : TypeTable → List ℕ → List (List ℕ) → ℕ → Type 0
NeedsWalk table start = IsWalk bytes_eq (needed_by table) (needed_by table start) (Reaches table start)

module _ (table : TypeTable) (start : List ℕ) where
  reaching : Reaching bytes_eq (needed_by table) (needed_by table start) (Reaches table start)
  reaching = record { at_once = at_once; further = further }

  pub walk_starts : (reached : List (List ℕ)) → reached ≡ with_names [] (needed_by table start) → NeedsWalk table start reached 0
  walk_starts = starts bytes_eq bytes_decides (needed_by table) (needed_by table start) (Reaches table start) reaching

  pub walk_goes : (reached more : List (List ℕ)) (next : ℕ) (name : List ℕ) → NeedsWalk table start reached next → slice_get reached next ≡ Some name
      → more ≡ with_names reached (needed_by table name) → next < length reached → NeedsWalk table start more (next + 1)
  walk_goes = goes bytes_eq bytes_decides (needed_by table) (needed_by table start) (Reaches table start) reaching

  reached-all : (reached : List (List ℕ)) (next : ℕ) → NeedsWalk table start reached next → length reached ≤ next → (x : List ℕ) → Reaches table start x
      → is_among x reached ≡ true
  reached-all reached next walk over _ (at_once x need) = walk.first x need
  reached-all reached next walk over _ (further via x before need) =
      walk_closed bytes_eq (needed_by table) (needed_by table start) (Reaches table start) reached next walk over via x (reached-all reached next walk over via before) need

  pub walk_tells : (reached : List (List ℕ)) (next : ℕ) (result : Bool) → NeedsWalk table start reached next → length reached ≤ next → result ≡ is_among start reached
      → Decides result (Reaches table start start)
  walk_tells reached next result walk over told = (λ h. walk.sound start (sym told ∙ h), λ reaches. told ∙ reached-all reached next walk over start reaches)

-- the names that some input object needs
abbrev pub all_needed : TypeTable → List (List ℕ)
all_needed [] = []
all_needed (p ∷ table) = needed_in (Some p.1) ++ all_needed table

pub needed_within : (table : TypeTable) (n x : List ℕ) → is_among x (needed_by table n) ≡ true → is_among x (all_needed table) ≡ true
needed_within [] n x there = cc
needed_within (p ∷ table) n x there =
    let P : Bool → Type 0 = λ b. is_among x (needed_in (cond b (Some p.1) (under n table))) ≡ true → is_among x (all_needed (p ∷ table)) ≡ true in
    (elim (bytes_eq n p.0) as P [
      | true ↦ λ h. among-append bytes_eq x (needed_in (Some p.1)) (all_needed table) ∙ or-left _ _ h
      | false ↦ λ h. among-append bytes_eq x (needed_in (Some p.1)) (all_needed table) ∙ or-right _ _ (needed_within table n x h)
    ]) there

-- the walk ends: what is missing and what is to be entered falls
pub walk_ends : (table : TypeTable) (reached more : List (List ℕ)) (next : ℕ) (name : List ℕ) → more ≡ with_names reached (needed_by table name)
    → next < length reached → (missing bytes_eq (all_needed table) more + length more) - (next + 1) < (missing bytes_eq (all_needed table) reached + length reached) - next
walk_ends table reached more next name made inside =
    ends bytes_eq bytes_decides (needed_by table) (all_needed table) reached more next name (λ x h. needed_within table name x h) made inside
