-- The headers of some responses, computed.
use Rattle.std.proofs.Common.{◌≡◌, ℕ, List, [], ◌∷◌, ◌++◌, refl}
use Rattle.std.specs.Prelude.{codes}
use Rattle.http_header.specs.FieldValue.{FieldValue, plain_value}
use Rattle.http_header.specs.HeaderMap.{pairs}
use Rattle.gql_base.specs.declared.value.Value.TheVariants.{Null}
use Rattle.gql_request.specs.Headers.{all_headers, folded, replacing}
use Rattle.gql_request.specs.declared.header_op.HeaderOp.{HeaderOp}
use Rattle.gql_request.specs.declared.header_op.HeaderOp.TheVariants.{Insert, Append}
use Rattle.gql_request.specs.declared.response.Response.{Response}

abbrev a : List ℕ
a = codes "a"

abbrev b : List ℕ
b = codes "b"

abbrev v : ℕ → FieldValue
v n = plain_value (n ∷ [])

abbrev first : List HeaderOp
first = Insert a (v 1) ∷ Append a (v 2) ∷ Insert b (v 3) ∷ []

abbrev with_ops : List HeaderOp → Response
with_ops ops = record { result = Null; extensions = []; errors = []; headers = ops }

-- one value is set and one added, and another name comes after
added : folded [] first ≡ (a, v 1 ∷ v 2 ∷ []) ∷ (b, v 3 ∷ []) ∷ []
added = refl

-- a name that is set again keeps its place
set_again : folded [] (first ++ Insert a (v 4) ∷ []) ≡ (a, v 4 ∷ []) ∷ (b, v 3 ∷ []) ∷ []
set_again = refl

taken_over : replacing (folded [] first) ≡ Insert a (v 1) ∷ Append a (v 2) ∷ Insert b (v 3) ∷ []
taken_over = refl

-- what a later response adds to a name replaces all that an earlier one gave it
replaced : all_headers [] (with_ops first ∷ with_ops (Append a (v 4) ∷ Append a (v 5) ∷ []) ∷ []) ≡ (a, v 4 ∷ v 5 ∷ []) ∷ (b, v 3 ∷ []) ∷ []
replaced = refl

in_order : pairs (folded [] first) ≡ (a, v 1) ∷ (a, v 2) ∷ (b, v 3) ∷ []
in_order = refl

-- no response, and no headers
none_given : all_headers [] [] ≡ []
none_given = refl
