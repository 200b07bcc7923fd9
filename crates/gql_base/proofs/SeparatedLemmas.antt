-- One more part after parts with a separator between them.
use Rattle.std.proofs.Common.{◌≡◌, ℕ, ◌+◌, ◌<◌, List, [], ◌∷◌, ◌++◌, map, take, length, get_or, ap, sym, ◌∙◌, arith, append_assoc}
use Rattle.std.proofs.Common.{append-nil, length-take-le, slice_get, Some}
use Rattle.std.proofs.lemmas.Grind.{flat_map-append}
use Rattle.std.proofs.lemmas.List.{take_more, length-map, map-append}
use Rattle.std.proofs.lemmas.Option.{slice_get_within, get_or_from_slice_get}
use Rattle.std.specs.List.{flat_map}
use Rattle.gql_base.specs.Separated.{separated, before}

pub separated-push : (sep : List ℕ) (parts : List (List ℕ)) (part : List ℕ)
    → separated sep (parts ++ part ∷ []) ≡ separated sep parts ++ (before sep (length parts) ++ part)
separated-push sep [] part = append-nil part
separated-push sep (p ∷ ps) part =
    ap (λ rest. p ++ rest) (flat_map-append (λ next. sep ++ next) ps (part ∷ []))
    ∙ ap (λ last. p ++ (flat_map (λ next. sep ++ next) ps ++ last)) (append-nil (sep ++ part))
    ∙ sym (append_assoc p (flat_map (λ next. sep ++ next) ps) (sep ++ part))

-- one more of a list of things that each have a text
pub separated_more : {X : Type 0} (f : X → List ℕ) (sep : List ℕ) (xs : List X) (i : ℕ) (d : X) → i < length xs
    → separated sep (map f (take (i + 1) xs)) ≡ separated sep (map f (take i xs)) ++ (before sep i ++ f (get_or xs i d))
separated_more f sep xs i d within =
    let long : length (map f (take i xs)) ≡ i = length-map (take i xs) f ∙ length-take-le i xs (omega arith) in
    ap (λ ys. separated sep (map f ys)) (take_more xs i d within) ∙ ap (separated sep) (map-append f (take i xs) (get_or xs i d ∷ []))
    ∙ separated-push sep (map f (take i xs)) (f (get_or xs i d))
    ∙ ap (λ n. separated sep (map f (take i xs)) ++ (before sep n ++ f (get_or xs i d))) long

-- the same of the thing that a look-up at the place gives
pub separated_at : {X : Type 0} (f : X → List ℕ) (sep : List ℕ) (xs : List X) (i : ℕ) (x : X) → slice_get xs i ≡ Some x
    → separated sep (map f (take (i + 1) xs)) ≡ separated sep (map f (take i xs)) ++ (before sep i ++ f x)
separated_at f sep xs i x found =
    separated_more f sep xs i x (slice_get_within xs i x found)
    ∙ ap (λ y. separated sep (map f (take i xs)) ++ (before sep i ++ f y)) (get_or_from_slice_get xs i x x found)

-- a separator and then the text of the next thing, appended one after another
pub separated_step : {X : Type 0} (f : X → List ℕ) (sep : List ℕ) (xs : List X) (i : ℕ) (x : X) (start out parted next : List ℕ) → slice_get xs i ≡ Some x
    → out ≡ start ++ separated sep (map f (take i xs)) → parted ≡ out ++ before sep i → next ≡ parted ++ f x
    → next ≡ start ++ separated sep (map f (take (i + 1) xs))
separated_step f sep xs i x start out parted next found so-far separator last =
    last ∙ ap (λ t. t ++ f x) (separator ∙ ap (λ t. t ++ before sep i) so-far)
    ∙ append_assoc (start ++ separated sep (map f (take i xs))) (before sep i) (f x)
    ∙ append_assoc start (separated sep (map f (take i xs))) (before sep i ++ f x)
    ∙ ap (λ t. start ++ t) (sym (separated_at f sep xs i x found))
