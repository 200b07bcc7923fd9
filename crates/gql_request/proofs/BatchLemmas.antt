-- A batch whose requests are changed one after another.
use Rattle.std.proofs.Common.{◌≡◌, ℕ, zero, suc, ◌+◌, ◌==◌, List, [], ◌∷◌, ◌++◌, length, take, drop, map, slice_get, slice_set, Some, cond, refl, ap, sym, ◌∙◌, add-one}
use Rattle.gql_request.specs.BatchRequest.{requests_of, each_request, with_request}
use Rattle.gql_request.specs.declared.batch_request.BatchRequest.{BatchRequest}
use Rattle.gql_request.specs.declared.batch_request.BatchRequest.TheVariants.{Single, Batch}
use Rattle.gql_request.specs.declared.request.Request.{Request}

-- the batch with its requests from this place on changed
abbrev pub each_from : (Request → Request) → ℕ → BatchRequest → BatchRequest
each_from change place (Single request) = Single (cond (place == 0) (change request) request)
each_from change place (Batch requests) = Batch (take place requests ++ map change (drop place requests))

pub each_start : (change : Request → Request) (batch : BatchRequest) → each_from change 0 batch ≡ each_request change batch
each_start change (Single request) = refl
each_start change (Batch requests) = refl

taken : (change : Request → Request) (requests : List Request) → take (length requests) requests ++ map change (drop (length requests) requests) ≡ requests
taken change [] = refl
taken change (request ∷ requests) = ap (λ rest. request ∷ rest) (taken change requests)

pub each_end : (change : Request → Request) (batch : BatchRequest) → each_from change (length (requests_of batch)) batch ≡ batch
each_end change (Single request) = refl
each_end change (Batch requests) = ap Batch (taken change requests)

changed : (change : Request → Request) (requests : List Request) (place : ℕ) (request : Request) → slice_get requests place ≡ Some request
    → take (suc place) (slice_set requests place (change request)) ++ map change (drop (suc place) (slice_set requests place (change request)))
    ≡ take place requests ++ map change (drop place requests)
changed change [] place request found = cc
changed change (one ∷ others) zero request found = let same : one ≡ request = cc in cc (same)
changed change (one ∷ others) (suc place) request found = ap (λ rest. one ∷ rest) (changed change others place request found)

here : (change : Request → Request) (batch : BatchRequest) (place : ℕ) (request : Request) → slice_get (requests_of batch) place ≡ Some request
    → each_from change (suc place) (with_request batch place (change request)) ≡ each_from change place batch
here change (Single one) zero request found = let same : one ≡ request = cc in ap (λ r. Single (change r)) (sym same)
here change (Single one) (suc place) request found = cc
here change (Batch requests) place request found = ap Batch (changed change requests place request found)

long : (batch : BatchRequest) (place : ℕ) (request : Request) → length (requests_of (with_request batch place request)) ≡ length (requests_of batch)
long (Single one) place request = refl
long (Batch requests) place request = set-long requests place request where
  set-long : (requests : List Request) (place : ℕ) (request : Request) → length (slice_set requests place request) ≡ length requests
  set-long [] place request = refl
  set-long (one ∷ others) zero request = refl
  set-long (one ∷ others) (suc place) request = ap suc (set-long others place request)

-- what holds of a batch whose requests before this place are changed, where the whole is to be as this one
pub record IsChanged (change : Request → Request) (place : ℕ) (whole batch : BatchRequest) : Type 0 where
  pub long : length (requests_of batch) ≡ length (requests_of whole)
  pub each : each_from change place batch ≡ each_request change whole

pub one_changed : (change : Request → Request) (place : ℕ) (whole batch : BatchRequest) (request other : Request) → IsChanged change place whole batch
    → slice_get (requests_of batch) place ≡ Some request → other ≡ change request → IsChanged change (place + 1) whole (with_request batch place other)
one_changed change place whole batch request other before found is = record {
  long = long batch place other ∙ before.long;
  each = ap (λ n. each_from change n (with_request batch place other)) (add-one place)
      ∙ ap (λ r. each_from change (suc place) (with_request batch place r)) is ∙ here change batch place request found ∙ before.each;
}

pub none_changed : (change : Request → Request) (batch : BatchRequest) → IsChanged change 0 batch batch
none_changed change batch = record { long = refl; each = each_start change batch }

pub all_changed : (change : Request → Request) (place : ℕ) (whole batch : BatchRequest) → IsChanged change place whole batch → place ≡ length (requests_of whole)
    → batch ≡ each_request change whole
all_changed change place whole batch done all =
    sym (each_end change batch) ∙ ap (λ n. each_from change n batch) (done.long ∙ sym all) ∙ done.each
