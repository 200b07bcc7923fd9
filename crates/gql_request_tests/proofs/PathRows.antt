-- Which lists begin with others, on examples.
use Rattle.std.proofs.Common.{ℕ, [], ◌∷◌, refl}
use Rattle.std.specs.Prelude.{codes}
use Rattle.gql_request.specs.Path.{IsFront}

an_item_begins_with_its_list : IsFront (codes "rows") (codes "rows.0")
an_item_begins_with_its_list = refl

a_list_begins_with_itself : IsFront {A = ℕ} (1 ∷ 2 ∷ []) (1 ∷ 2 ∷ [])
a_list_begins_with_itself = refl

another_beginning_is_no_front : IsFront {A = ℕ} (2 ∷ []) (1 ∷ 2 ∷ []) → ⊥
another_beginning_is_no_front front = (let e = front in cc)

a_longer_list_is_no_front : IsFront {A = ℕ} (1 ∷ 2 ∷ []) (1 ∷ []) → ⊥
a_longer_list_is_no_front front = (let e = front in cc)
