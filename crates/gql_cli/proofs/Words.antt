-- One word, and two.
use Rattle.std.proofs.Common.{◌≡◌, List, [], ◌∷◌, length, get_or, map, sym, ap, arith}

pub map-one : {X Y : Type 0} (f : X → Y) (xs : List X) (x : X) → length xs ≡ 1 → x ≡ get_or xs 0 x → map f xs ≡ f x ∷ []
map-one f [] x size here = absurd (omega arith)
map-one f (y ∷ []) x size here = ap (λ z. f z ∷ []) (sym here)
map-one f (y ∷ z ∷ zs) x size here = absurd (omega arith)

pub map-two : {X Y : Type 0} (f : X → Y) (xs : List X) (x y : X) → length xs ≡ 2 → x ≡ get_or xs 0 x → y ≡ get_or xs 1 y → map f xs ≡ f x ∷ f y ∷ []
map-two f [] x y size here next = absurd (omega arith)
map-two f (a ∷ []) x y size here next = absurd (omega arith)
map-two f (a ∷ b ∷ []) x y size here next = λ i. f (sym here i) ∷ f (sym next i) ∷ []
map-two f (a ∷ b ∷ c ∷ cs) x y size here next = absurd (omega arith)
