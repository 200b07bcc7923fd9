-- A path that is written over another, segment by segment.
use Rattle.std.proofs.Common.{◌≡◌, ℕ, suc, ◌+◌, ◌<◌, ◌≤◌, List, [], ◌∷◌, ◌++◌, length, take, drop, get_or, slice_set, Option, Some, None, refl, ap, sym, ◌∙◌, arith, length-append, append_assoc, Result, Ok, Err, OnOk}
use Rattle.std.proofs.lemmas.List.{append-nil, drop_all, length-map, length-take, length-take-le, length_push, map-append, set_split, take-take, take_all, take_at, take_more}
use Rattle.std.proofs.lemmas.Slice.{drop-append-drop}
use Rattle.gql_base.specs.declared.path_segment.PathSegment.{PathSegment}
use Rattle.gql_base.specs.declared.path_segment.PathSegment.TheVariants as segment
use Rattle.gql_objects.specs.Parents.{steps_by}
use Rattle.gql_objects.specs.Paths.{index_step, path_of, segment_of, written}
use Rattle.gql_objects.specs.declared.parent.Trail.{Trail}
use Rattle.gql_objects.specs.declared.step.Step.{Step}

-- a segment is written over another
pub written_over : {E : Type 0} (result : Result (Unit {0}) E) (old : List PathSegment) (place : ℕ) (new segment : PathSegment)
    → place < length old
    → OnOk result (new ≡ segment) → OnOk result (slice_set old place new ≡ written place segment old)
written_over (Err e) old place new segment within is = tt
written_over (Ok u) old place new segment within is = set_split old place new within ∙ ap (λ s. written place s old) is

-- how far steps are written over the front of a path
pub record IsWritten (steps : List Step) (place : ℕ) (old path : List PathSegment) : Type 0 where
  pub path_is : path ≡ path_of (take place steps) ++ drop place old
  pub inside : place ≤ length steps

-- nothing is written yet
pub written_first : (steps : List Step) (old : List PathSegment) → IsWritten steps 0 old old
written_first steps old = record { path_is = refl; inside = omega arith }

front_long : (steps : List Step) (place : ℕ) → place ≤ length steps → length (path_of (take place steps)) ≡ place
front_long steps place inside = length-map (take place steps) segment_of ∙ length-take-le place steps inside

-- a segment at the end of what is written
front_more : (front old : List PathSegment) (place : ℕ) (segment : PathSegment) → length front ≡ place
    → written place segment (front ++ drop place old) ≡ (front ++ segment ∷ []) ++ drop (place + 1) old
front_more front old place segment long =
    let next : suc place ≡ place + 1 = omega arith in
    (λ i. take_at front (drop place old) place long i ++ segment ∷ drop-append-drop place old front (suc place) (omega arith) long i)
    ∙ ap (λ n. front ++ segment ∷ drop n old) next
    ∙ sym (append_assoc front (segment ∷ []) (drop (place + 1) old))

-- one more step is written
pub written_more : (steps : List Step) (place : ℕ) (d : Step) (start old new : List PathSegment) → place < length steps
    → new ≡ written place (segment_of (get_or steps place d)) old → IsWritten steps place start old → IsWritten steps (place + 1) start new
written_more steps place d start old new inside is before =
    let step = get_or steps place d in
    record {
      path_is = is
          ∙ ap (written place (segment_of step)) before.path_is
          ∙ front_more (path_of (take place steps)) start place (segment_of step) (front_long steps place before.inside)
          ∙ ap (λ ps. ps ++ drop (place + 1) start)
          (sym (map-append segment_of (take place steps) (step ∷ [])) ∙ ap path_of (sym (take_more steps place d inside)));
      inside = omega arith;
    }

-- all steps are written
pub written_front : (steps : List Step) (place : ℕ) (start path : List PathSegment) → length steps ≤ place
    → IsWritten steps place start path
    → path ≡ path_of steps ++ drop (length steps) start
written_front steps place start path past before =
    let same : place ≡ length steps = (let inside = before.inside in omega arith) in
    before.path_is ∙ (λ i. path_of (take_all place steps past i) ++ drop (same i) start)

-- the begin and the end of steps that are written
pub ruleset front_ends = (written_first, written_front)

-- a path with a segment at a place, and nothing after it
written_cut : (old : List PathSegment) (place : ℕ) (segment : PathSegment) → place ≤ length old
    → written place segment (take (place + 1) old) ≡ take place old ++ segment ∷ []
written_cut old place segment within =
    (λ i. take-take place (place + 1) old (omega arith) i ++ segment ∷ drop_all (suc place) (take (place + 1) old)
    (omega (arith, length-take (place + 1) old)) i)

-- the last segment is written, where memory doesn't want
pub written_last : {E : Type 0} (result : Result (Unit {0}) E) (old cut new : List PathSegment) (place : ℕ) (segment : PathSegment)
    → place ≤ length old
    → cut ≡ take (place + 1) old → OnOk result (new ≡ written place segment cut) → OnOk result (new ≡ take place old ++ segment ∷ [])
written_last (Err e) old cut new place segment within cut_is is = tt
written_last (Ok u) old cut new place segment within cut_is is = is ∙ ap (written place segment) cut_is
    ∙ written_cut old place segment within

-- how long a path is with steps at its front
steps_long : (steps : List Step) (behind path : List PathSegment) → path ≡ path_of steps ++ behind
    → length path ≡ length steps + length behind
steps_long steps behind path is = ap length is ∙ length-append (path_of steps) behind
    ∙ ap (λ n. n + length behind) (length-map steps segment_of)

module _ {E : Type 0} (result : Result (Unit {0}) E) (steps steps' : List Step) (o o' : Option ℕ) (behind path new : List PathSegment)
    (key key' : PathSegment)
    (steps_are : steps ≡ steps') (same : o ≡ o') (key_is : key ≡ key') (is : path ≡ path_of steps ++ behind) where
  long : length (path_of steps) ≡ length steps
  long = length-map steps segment_of

  all_is : path_of (steps ++ index_step o) ++ key ∷ [] ≡ path_of (steps' ++ index_step o') ++ key' ∷ []
  all_is = λ i. path_of (steps_are i ++ index_step (same i)) ++ key_is i ∷ []

  -- a key is written after steps
  pub key_behind : o ≡ None → OnOk result (new ≡ take (length steps) path ++ key ∷ [])
      → OnOk result (new ≡ path_of (steps' ++ index_step o') ++ key' ∷ [])
  key_behind none last = done result last
    where
      front : take (length steps) path ≡ path_of (steps ++ index_step o)
      front = ap (take (length steps)) is ∙ take_at (path_of steps) behind (length steps) long ∙ ap path_of (sym (append-nil steps))
          ∙ ap (λ x. path_of (steps ++ index_step x)) (sym none)

      done : (r : Result (Unit {0}) E) → OnOk r (new ≡ take (length steps) path ++ key ∷ [])
          → OnOk r (new ≡ path_of (steps' ++ index_step o') ++ key' ∷ [])
      done (Err e) written_is = tt
      done (Ok u) written_is = written_is ∙ ap (λ ps. ps ++ key ∷ []) front ∙ all_is

  -- a key is written after steps and the index of an item
  pub key_behind_index : (index : ℕ) (path' : List PathSegment) → o ≡ Some index → path' ≡ written (length steps) (segment.Index index) path
      → OnOk result (new ≡ take (length steps + 1) path' ++ key ∷ []) → OnOk result (new ≡ path_of (steps' ++ index_step o') ++ key' ∷ [])
  key_behind_index index path' some more last = done result last
    where
      whole : path' ≡ (path_of steps ++ segment.Index index ∷ []) ++ drop (suc (length steps)) path
      whole = more
          ∙ ap (λ ps. ps ++ segment.Index index ∷ drop (suc (length steps)) path)
          (ap (take (length steps)) is ∙ take_at (path_of steps) behind (length steps) long)
          ∙ sym (append_assoc (path_of steps) (segment.Index index ∷ []) (drop (suc (length steps)) path))

      front : take (length steps + 1) path' ≡ path_of (steps ++ index_step o)
      front = ap (take (length steps + 1)) whole
          ∙ take_at (path_of steps ++ segment.Index index ∷ []) (drop (suc (length steps)) path) (length steps + 1)
          (length_push (path_of steps) (segment.Index index) ∙ ap (λ n. n + 1) long)
          ∙ sym (map-append segment_of steps (index_step (Some index)))
          ∙ ap (λ x. path_of (steps ++ index_step x)) (sym some)

      done : (r : Result (Unit {0}) E) → OnOk r (new ≡ take (length steps + 1) path' ++ key ∷ [])
          → OnOk r (new ≡ path_of (steps' ++ index_step o') ++ key' ∷ [])
      done (Err e) written_is = tt
      done (Ok u) written_is = written_is ∙ ap (λ ps. ps ++ key ∷ []) front ∙ all_is

-- there is room for a key after steps
pub key_within : (steps : List Step) (behind path : List PathSegment) → path ≡ path_of steps ++ behind → length steps ≤ length path
key_within steps behind path is = (let long = steps_long steps behind path is in omega arith)

-- and after an index, too
pub key_within_index : (steps : List Step) (index : ℕ) (behind path path' : List PathSegment) → path ≡ path_of steps ++ behind
    → path' ≡ written (length steps) (segment.Index index) path → length steps + 1 ≤ length path'
key_within_index steps index behind path path' is more =
    let within = key_within steps behind path is in
    let long : length path' ≡ length steps + suc (length (drop (suc (length steps)) path))
    = ap length more ∙ length-append (take (length steps) path) (segment.Index index ∷ drop (suc (length steps)) path)
    ∙ ap (λ n. n + suc (length (drop (suc (length steps)) path))) (length-take-le (length steps) path within) in
    omega arith

-- the way to an object that came of an answer has a step
pub trail_some : (trail : Trail) → 0 < length (steps_by trail)
trail_some trail =
    let long = length-append trail.steps.value.items (index_step trail.index) in
    let below = trail.below in
    omega arith
