-- What is left of open sets, where the innermost one changes.
use Rattle.std.proofs.Common.{◌≡◌, ℕ, zero, suc, ◌+◌, ◌<◌, List, [], ◌∷◌, ◌-◌, ◌++◌, length, take, slice_get, slice_set, get_or, Option, Some, None, MatchOption, refl, ap, sym, subst, ◌∙◌, arith}
use Rattle.std.proofs.lemmas.List.{append-nil, append_assoc, length-append}
use Rattle.std.proofs.lemmas.Option.{slice_get_read}
use Rattle.gql_doc.specs.declared.document.Positioned.{Positioned}
use Rattle.gql_doc.specs.declared.document.Selection.{Selection}
use Rattle.gql_request.specs.declared.query_env.QueryEnv.{QueryEnv}
use Rattle.gql_resolve.specs.Beneath.{fields_within}
use Rattle.gql_resolve.specs.OpenSets.{Enters, Passes, all_open, steps_left, steps_within, within}
use Rattle.gql_resolve.specs.SelectionField.{seen_of}
use Rattle.gql_resolve.specs.declared.open_set.OpenSet.{OpenSet}
use Rattle.gql_resolve.specs.declared.selection_field.SelectionField.{SelectionField}

module _ {X : Type 0} (f : OpenSet → List X) where
  -- the innermost set comes first
  pub on_top : (opened : List OpenSet) (place : ℕ) (top : OpenSet) → slice_get opened place ≡ Some top → place + 1 ≡ length opened
      → all_open f opened ≡ f top ++ all_open f (take place opened)
  on_top [] place top at last = cc
  on_top (o ∷ []) zero top at last =
      let same : o ≡ top = cc in
      ap f same ∙ sym (append-nil (f top))
  on_top (o ∷ p ∷ os) zero top at last = absurd (omega arith)
  on_top (o ∷ os) (suc place) top at last =
      ap (λ xs. xs ++ f o) (on_top os place top at (omega arith)) ∙ append_assoc (f top) (all_open f (take place os)) (f o)

  -- another set in its place
  pub top_set : (opened : List OpenSet) (place : ℕ) (new : OpenSet) → place + 1 ≡ length opened
      → all_open f (slice_set opened place new) ≡ f new ++ all_open f (take place opened)
  top_set [] place new last = absurd (omega arith)
  top_set (o ∷ []) zero new last = sym (append-nil (f new))
  top_set (o ∷ p ∷ os) zero new last = absurd (omega arith)
  top_set (o ∷ os) (suc place) new last =
      ap (λ xs. xs ++ f o) (top_set os place new (omega arith)) ∙ append_assoc (f new) (all_open f (take place os)) (f o)

  -- one more set
  pub top_pushed : (opened : List OpenSet) (inner : OpenSet) → all_open f (opened ++ inner ∷ []) ≡ f inner ++ all_open f opened
  top_pushed [] inner = sym (append-nil (f inner))
  top_pushed (o ∷ os) inner = ap (λ xs. xs ++ f o) (top_pushed os inner) ∙ append_assoc (f inner) (all_open f os) (f o)

set_before : (opened : List OpenSet) (place : ℕ) (rest inner : OpenSet) → place + 1 ≡ length opened
    → slice_set (opened ++ inner ∷ []) place rest ≡ slice_set opened place rest ++ inner ∷ []
set_before [] place rest inner last = absurd (omega arith)
set_before (o ∷ os) zero rest inner last = refl
set_before (o ∷ []) (suc place) rest inner last = absurd (omega arith)
set_before (o ∷ p ∷ os) (suc place) rest inner last = ap (λ xs. o ∷ xs) (set_before (p ∷ os) place rest inner (omega arith))

module _ (opened : List OpenSet) (place : ℕ) (top : OpenSet) (at : slice_get opened place ≡ Some top) (last : place + 1 ≡ length opened) where
  -- a field is given, and the rest of its set stays
  pub gives_top : (field : SelectionField) (rest : OpenSet) → fields_within top.env.now top.left top.selections.now ≡ seen_of field ∷ within rest
      → all_open within opened ≡ seen_of field ∷ all_open within (slice_set opened place rest)
  gives_top field rest is =
      on_top within opened place top at last ∙ ap (λ xs. xs ++ all_open within (take place opened)) is
      ∙ ap (λ xs. seen_of field ∷ xs) (sym (top_set within opened place rest last))

  -- a selection is passed
  pub passes_top : (rest : OpenSet) → Passes top.env.now top.left top.selections.now rest
      → (all_open within (slice_set opened place rest) ≡ all_open within opened)
      × (length (all_open steps_left (slice_set opened place rest)) < length (all_open steps_left opened))
  passes_top rest passes = (
    top_set within opened place rest last ∙ ap (λ xs. xs ++ all_open within (take place opened)) (sym passes.fields) ∙ sym (on_top within opened place top at last),
    (let base = all_open steps_left (take place opened) in
        let old : length (all_open steps_left opened) ≡ length (steps_left top) + length base
        = ap (λ (xs : List (Unit {0})). length xs) (on_top steps_left opened place top at last) ∙ length-append (steps_left top) base in
        let new : length (all_open steps_left (slice_set opened place rest)) ≡ length (steps_left rest) + length base
        = ap (λ (xs : List (Unit {0})). length xs) (top_set steps_left opened place rest last) ∙ length-append (steps_left rest) base in
        let less = passes.steps in
        omega (arith, old, new, less)),
  )

  -- a set is entered
  pub enters_top : (inner rest : OpenSet) → Enters top.env.now top.left top.selections.now inner rest
      → (all_open within (slice_set (opened ++ inner ∷ []) place rest) ≡ all_open within opened)
      × (length (all_open steps_left (slice_set (opened ++ inner ∷ []) place rest)) < length (all_open steps_left opened))
  enters_top inner rest enters = (
    moved within ∙ ap (λ xs. within inner ++ xs) (top_set within opened place rest last)
        ∙ sym (append_assoc (within inner) (within rest) (all_open within (take place opened)))
        ∙ ap (λ xs. xs ++ all_open within (take place opened)) (sym enters.fields) ∙ sym (on_top within opened place top at last),
    (let base = all_open steps_left (take place opened) in
        let old : length (all_open steps_left opened) ≡ length (steps_left top) + length base
        = ap (λ (xs : List (Unit {0})). length xs) (on_top steps_left opened place top at last) ∙ length-append (steps_left top) base in
        let rested : length (all_open steps_left (slice_set opened place rest)) ≡ length (steps_left rest) + length base
        = ap (λ (xs : List (Unit {0})). length xs) (top_set steps_left opened place rest last) ∙ length-append (steps_left rest) base in
        let new : length (all_open steps_left (slice_set (opened ++ inner ∷ []) place rest)) ≡ length (steps_left inner) + length (all_open steps_left (slice_set opened place rest))
        = ap (λ (xs : List (Unit {0})). length xs) (moved steps_left) ∙ length-append (steps_left inner) (all_open steps_left (slice_set opened place rest)) in
        let less = enters.steps in
        omega (arith, old, new, rested, less)),
  )
    where
      moved : {X : Type 0} (f : OpenSet → List X) → all_open f (slice_set (opened ++ inner ∷ []) place rest) ≡ f inner ++ all_open f (slice_set opened place rest)
      moved f = ap (λ xs. all_open f xs) (set_before opened place rest inner last) ∙ top_pushed f (slice_set opened place rest) inner

  -- the innermost set is left
  pub leaves_top : (new : List OpenSet) (gone : OpenSet) → top.selections.now ≡ [] → opened ≡ new ++ gone ∷ []
      → (all_open within new ≡ all_open within opened) × (length (all_open steps_left new) < length (all_open steps_left opened))
  leaves_top new gone empty is =
      let same : take place opened ≡ new = front new place is last in (
        sym (on_top within opened place top at last ∙ ap (λ xs. xs ++ all_open within (take place opened)) (nothing top.env.now top.left empty) ∙ ap (λ xs. all_open within xs) same),
        (let old : length (all_open steps_left opened) ≡ length (steps_left top) + length (all_open steps_left (take place opened))
            = ap (λ (xs : List (Unit {0})). length xs) (on_top steps_left opened place top at last) ∙ length-append (steps_left top) (all_open steps_left (take place opened)) in
            let base : length (all_open steps_left (take place opened)) ≡ length (all_open steps_left new) = ap (λ xs. length (all_open steps_left xs)) same in
            let some : length (steps_left top) ≡ 1 = one top.env.now top.left empty in
            omega (arith, old, base, some)),
      )
    where
      front : (xs : List OpenSet) (n : ℕ) → opened ≡ xs ++ gone ∷ [] → n + 1 ≡ length opened → take n opened ≡ xs
      front xs n same long = ap (take n) same ∙ cut xs n (long ∙ ap (λ (ys : List OpenSet). length ys) same ∙ length-append xs (gone ∷ []))
        where
          cut : (ys : List OpenSet) (m : ℕ) → m + 1 ≡ length ys + 1 → take m (ys ++ gone ∷ []) ≡ ys
          cut [] zero h = refl
          cut [] (suc m) h = absurd (omega arith)
          cut (y ∷ ys) zero h = absurd (omega arith)
          cut (y ∷ ys) (suc m) h = ap (λ zs. y ∷ zs) (cut ys m (omega arith))

      nothing : (env : QueryEnv) (left : ℕ) {selections : List (Positioned Selection)} → selections ≡ [] → fields_within env left selections ≡ []
      nothing env zero none = refl
      nothing env (suc left) none = ap (fields_within env (suc left)) none

      one : (env : QueryEnv) (left : ℕ) {selections : List (Positioned Selection)} → selections ≡ [] → length (steps_within env.fragments left selections) ≡ 1
      one env zero none = refl
      one env (suc left) none = ap (λ xs. length (steps_within env.fragments (suc left) xs)) none

-- that no field is lost, and the end is nearer
abbrev pub Moves : List OpenSet → List OpenSet → Type 0
Moves old new = (all_open within new ≡ all_open within old) × (length (all_open steps_left new) < length (all_open steps_left old))

-- one look at the innermost set, which is read by the number of sets
module _ (sets : List OpenSet) (count : ℕ) (slice : List OpenSet) (top : OpenSet) (some : 0 < length sets) (counted : count ≡ length sets) (same : slice ≡ sets)
    (read : top ≡ get_or slice (count - 1) top) where
  stands : slice_get sets (count - 1) ≡ Some top
  stands = slice_get_read sets (length sets) (count - 1) top refl (omega (arith, some, counted)) (read ∙ ap (λ (xs : List OpenSet). get_or xs (count - 1) top) same)

  innermost : count - 1 + 1 ≡ length sets
  innermost = omega (arith, some, counted)

  pub look_gives : (field : SelectionField) (rest : OpenSet) (new : List OpenSet) → fields_within top.env.now top.left top.selections.now ≡ seen_of field ∷ within rest
      → new ≡ slice_set sets (count - 1) rest → all_open within sets ≡ seen_of field ∷ all_open within new
  look_gives field rest new is set =
      gives_top sets (count - 1) top stands innermost field rest is ∙ ap (λ (xs : List OpenSet). seen_of field ∷ all_open within xs) (sym set)

  pub look_passes : (rest : OpenSet) (new : List OpenSet) → Passes top.env.now top.left top.selections.now rest → new ≡ slice_set sets (count - 1) rest → Moves sets new
  look_passes rest new is set = subst (Moves sets) (sym set) (passes_top sets (count - 1) top stands innermost rest is)

  pub look_enters : (inner rest : OpenSet) (more new : List OpenSet) → Enters top.env.now top.left top.selections.now inner rest → more ≡ sets ++ inner ∷ []
      → new ≡ slice_set more (count - 1) rest → Moves sets new
  look_enters inner rest more new is pushed set =
      subst (Moves sets) (sym (set ∙ ap (λ (xs : List OpenSet). slice_set xs (count - 1) rest) pushed)) (enters_top sets (count - 1) top stands innermost inner rest is)

  pub look_leaves : (new : List OpenSet) (popped : Option OpenSet) → top.selections.now ≡ []
      → MatchOption popped ((sets ≡ []) × (new ≡ [])) (λ gone. sets ≡ new ++ gone ∷ []) → Moves sets new
  look_leaves new None empty none =
      let long : length sets ≡ 0 = ap (λ (xs : List OpenSet). length xs) none.0 in
      absurd (omega (arith, some, long))
  look_leaves new (Some gone) empty is = leaves_top sets (count - 1) top stands innermost new gone empty is
