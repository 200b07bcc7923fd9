-- What comes of each of some, up to the first refusal, made one by one.
use Rattle.std.proofs.Common.{◌≡◌, ℕ, ◌+◌, ◌≤◌, List, [], ◌∷◌, ◌++◌, length, drop, Some, Result, Ok, Err, slice_get, refl, ap, sym, ◌∙◌}
use Rattle.std.proofs.lemmas.List.{append-nil, append_assoc, drop_all, drop_more}
use Rattle.std.proofs.lemmas.Option.{get_or_from_slice_get, slice_get_within}
use Rattle.gql_resolve.specs.SelectionField.{all_ok, ok_in_front, ok_map}

module _ {A B E : Type 0} (f : A → Result B E) where
  -- what is left, in front of which the next stands
  next_left : (xs : List A) (i : ℕ) (x : A) → slice_get xs i ≡ Some x → drop i xs ≡ x ∷ drop (i + 1) xs
  next_left xs i x at =
      drop_more xs i x (slice_get_within xs i x at) ∙ ap (λ y. y ∷ drop (i + 1) xs) (get_or_from_slice_get xs i x x at)

  one_front : (all : List B) (y : B) (r : Result (List B) E) → ok_map (λ rest. all ++ rest) (ok_in_front (Ok y) r) ≡ ok_map (λ rest. (all ++ y ∷ []) ++ rest) r
  one_front all y (Ok ys) = ap Ok (sym (append_assoc all (y ∷ []) ys))
  one_front all y (Err e) = refl

  nothing_front : (r : Result (List B) E) → ok_map (λ rest. [] ++ rest) r ≡ r
  nothing_front (Ok ys) = refl
  nothing_front (Err e) = refl

  pub none_read : (xs : List A) → ok_map (λ rest. [] ++ rest) (all_ok f (drop 0 xs)) ≡ all_ok f xs
  none_read xs = nothing_front (all_ok f xs)

  -- one more is read
  pub one_read : (xs : List A) (i : ℕ) (x : A) (y : B) (all new : List B) → ok_map (λ rest. all ++ rest) (all_ok f (drop i xs)) ≡ all_ok f xs
      → slice_get xs i ≡ Some x → Ok y ≡ f x → new ≡ all ++ y ∷ [] → ok_map (λ rest. new ++ rest) (all_ok f (drop (i + 1) xs)) ≡ all_ok f xs
  one_read xs i x y all new before at is more =
      ap (λ ys. ok_map (λ rest. ys ++ rest) (all_ok f (drop (i + 1) xs))) more
      ∙ sym (one_front all y (all_ok f (drop (i + 1) xs)))
      ∙ ap (λ r. ok_map (λ rest. all ++ rest) (ok_in_front r (all_ok f (drop (i + 1) xs)))) is
      ∙ sym (ap (λ ys. ok_map (λ rest. all ++ rest) (all_ok f ys)) (next_left xs i x at))
      ∙ before

  -- one is refused
  pub one_refused : (xs : List A) (i : ℕ) (x : A) (e : E) (all : List B) → ok_map (λ rest. all ++ rest) (all_ok f (drop i xs)) ≡ all_ok f xs
      → slice_get xs i ≡ Some x → Err e ≡ f x → Err e ≡ all_ok f xs
  one_refused xs i x e all before at is =
      ap (λ r. ok_map (λ rest. all ++ rest) (ok_in_front r (all_ok f (drop (i + 1) xs)))) is
      ∙ sym (ap (λ ys. ok_map (λ rest. all ++ rest) (all_ok f ys)) (next_left xs i x at))
      ∙ before

  -- all are read
  pub all_read : (xs : List A) (i : ℕ) (all : List B) → ok_map (λ rest. all ++ rest) (all_ok f (drop i xs)) ≡ all_ok f xs → length xs ≤ i → Ok all ≡ all_ok f xs
  all_read xs i all before done =
      ap Ok (sym (append-nil all)) ∙ sym (ap (λ ys. ok_map (λ rest. all ++ rest) (all_ok f ys)) (drop_all i xs done)) ∙ before
