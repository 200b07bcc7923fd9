-- Paths to the places of a response (GraphQL, October 2021, section 7.1.2).
use Rattle.std.specs.Prelude.{◌≡◌, ℕ, zero, suc, ◌-◌, List, [], ◌∷◌, Option, Some, None, fold, take}
use Rattle.std.specs.Prelude.{length}
use Rattle.gql_base.specs.declared.path_segment.PathSegment.{PathSegment}
use Rattle.gql_base.specs.declared.path_segment.PathSegment.TheVariants.{Field, Index}

-- the key of a segment that is a field's, else another
abbrev pub field_or : PathSegment → Option (List ℕ) → Option (List ℕ)
field_or (Field key) other = Some key
field_or (Index place) other = other

-- the key of the last segment that is a field's
abbrev pub last_field : List PathSegment → Option (List ℕ)
last_field segments = fold (λ last segment. field_or segment last) None segments

-- a list begins with another
abbrev pub IsFront : {A : Type 0} → List A → List A → Type 0
IsFront front whole = take (length front) whole ≡ front

-- the prefixes of the lengths from n down to 1
abbrev pub prefixes_from : {A : Type 0} → ℕ → List A → List (List A)
prefixes_from zero xs = []
prefixes_from (suc n) xs = take (suc n) xs ∷ prefixes_from n xs

-- the prefixes that are neither empty nor the whole, longest first
abbrev pub proper_prefixes : {A : Type 0} → List A → List (List A)
proper_prefixes xs = prefixes_from (length xs - 1) xs

-- what an iterator over paths gives: the first of those that are left, and leaves the others; at
-- the end none, and leaves none
abbrev pub YieldsPrefix : {A : Type 0} → List A → Option A → List A → Type 0
YieldsPrefix left (Some first) rest = left ≡ first ∷ rest
YieldsPrefix left None rest = (left ≡ []) × (rest ≡ [])
