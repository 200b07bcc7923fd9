-- Batches: one request after another, and where memory ran out.
use Rattle.std.proofs.Common.{◌≡◌, ◌≤◌, ◌<◌, ◌+◌, ℕ, suc, true, List, [], ◌∷◌, ◌++◌, Option, Some, None, get_or, length, length-append, slice_get, take, inl, refl, ap, sym, ◌∙◌, subst, arith}
use Rattle.std.proofs.lemmas.List.{take_all, take_more}
use Rattle.std.proofs.lemmas.Option.{get_or_from_slice_get, slice_get_read, slice_get_within}
use Rattle.gql_tasks.proofs.KeepsLemmas.{set_none, set_trans}
use Rattle.gql_tasks.specs.Keeps.{KeepsSet}
use Rattle.gql_tasks.specs.Progress.{Seen}
use Rattle.gql_exec.specs.Batch.{ExecutesAll, ExecutesOne, StopsAfter, StopsAt, StopsOne}
use Rattle.gql_exec.specs.Admitted.{IsRefused}
use Rattle.gql_exec.specs.Execution.{asks, StopsAs, TellsAs}
use Rattle.gql_exec.specs.Response.{IsResponseTo, IsWorldAfter, IsWorldBehind, none_stands}
use Rattle.gql_exec.specs.SchemaOnly.{is_schema_only}
use Rattle.gql_exec.specs.declared.dynamic_request.DynamicRequest.{DynamicRequest}
use Rattle.gql_exec.specs.declared.schema.Schema.{Schema}
use Rattle.gql_collect.specs.declared.basis.Grouping.TheVariants as grouping
use Rattle.gql_meaning.specs.Served.{served_by}
use Rattle.gql_request.specs.declared.response.Response.{Response}
use Rattle.gql_resolve.specs.declared.resolver_set.ResolverSet.{Ghosts as Resolving}
use Rattle.gql_resolve.specs.declared.turns.Turns.{Ghosts as Choosing}

-- where set and turns are the same, one thing is seen
one_moment : {R P : Type 0} (old new : Seen R P) → (new.set ≡ old.set) × (new.turns ≡ old.turns) → new ≡ old
one_moment old new same = λ i. record { set = same.0 i; turns = same.1 i }

-- a request that was executed alone, by the facts that are told of it
module _ {R Own World Future P : Type 0} (set : Resolving R Own World Future) (turns : Choosing P) (schema : Schema) (request : DynamicRequest Own)
    (response : Response) (old new : Seen R P) where
  pub one_of : (set.is_lawful old.set → IsResponseTo schema request (served_by set old.set) response)
      → (set.is_lawful old.set → IsWorldAfter schema request (served_by set old.set) (set.world new.set))
      → ((refusal : Response) → IsRefused schema request.inner refusal → response ≡ refusal)
      → ((refusal : Response) → IsRefused schema request.inner refusal → (new.set ≡ old.set) × (new.turns ≡ old.turns))
      → (set.is_lawful old.set → TellsAs set turns old new (asks schema request) grouping.ByKey)
      → KeepsSet set old.set new.set
      → (is_schema_only schema request.inner ≡ true → (new.set ≡ old.set) × (new.turns ≡ old.turns))
      → ExecutesOne set turns schema request response old new
  one_of responds world refused untouched tells keeps idle = record {
    responds = responds;
    world = world;
    refused = λ refusal is. (refused refusal is, one_moment old new (untouched refusal is));
    tells = tells;
    keeps = keeps;
    idle = λ only. one_moment old new (idle only);
  }

-- the same where memory ran out
pub stops_of : {R Own World Future P : Type 0} (set : Resolving R Own World Future) (turns : Choosing P) (schema : Schema) (request : DynamicRequest Own)
    (old new : Seen R P) (roots : ℕ)
    → (set.is_lawful old.set → IsWorldBehind schema request (served_by set old.set) roots (set.world new.set))
    → StopsAs set turns old new (asks schema request) grouping.ByKey roots
    → (is_schema_only schema request.inner ≡ true → (new.set ≡ old.set) × (new.turns ≡ old.turns))
    → StopsOne set turns schema request roots old new
stops_of set turns schema request old new roots world stops idle =
    record { world = world; stops = stops; idle = λ only. one_moment old new (idle only) }

-- one item more of a list
taken-more : {X : Type 0} (xs : List X) (i : ℕ) (x : X) → slice_get xs i ≡ Some x → take (i + 1) xs ≡ take i xs ++ x ∷ []
taken-more xs i x at = take_more xs i x (slice_get_within xs i x at) ∙ ap (λ y. take i xs ++ y ∷ []) (get_or_from_slice_get xs i x x at)

module _ {R Own World Future P : Type 0} (set : Resolving R Own World Future) (turns : Choosing P) (schema : Schema) where
  -- there are as many responses as requests
  pub as_many : (requests : List (DynamicRequest Own)) (responses : List Response) (old new : Seen R P) → ExecutesAll set turns schema requests responses old new
      → length responses ≡ length requests
  as_many [] [] old new all = refl
  as_many [] (response ∷ responses) old new all = absurd all
  as_many (request ∷ requests) [] old new all = absurd all
  as_many (request ∷ requests) (response ∷ responses) old new (next, one, all) = ap suc (as_many requests responses next new all)

  executes-behind : (requests : List (DynamicRequest Own)) (responses : List Response) (request : DynamicRequest Own) (response : Response) (old now new : Seen R P)
      → ExecutesAll set turns schema requests responses old now → ExecutesOne set turns schema request response now new
      → ExecutesAll set turns schema (requests ++ request ∷ []) (responses ++ response ∷ []) old new
  executes-behind [] [] request response old now new all executes =
      (new, subst (λ m. ExecutesOne set turns schema request response m new) all executes, refl)
  executes-behind [] (first ∷ responses) request response old now new all executes = absurd all
  executes-behind (first ∷ requests) [] request response old now new all executes = absurd all
  executes-behind (first ∷ requests) (its ∷ responses) request response old now new (next, one, all) executes =
      (next, one, executes-behind requests responses request response next now new all executes)

  -- nothing more was done
  no-more : (next : Option (DynamicRequest Own)) (now : Seen R P) → StopsAt set turns schema next 0 now now
  no-more None now = (refl, refl)
  no-more (Some request) now = record { world = λ lawful. none_stands refl refl; stops = inl (refl, refl); idle = λ only. refl }

  -- memory ran out before all requests
  pub none_done : (requests : List (DynamicRequest Own)) (done roots : ℕ) (now : Seen R P) → done ≡ 0 → roots ≡ 0
      → StopsAfter set turns schema requests done roots now now
  none_done requests done roots now is none =
      subst (λ r. StopsAfter set turns schema requests done r now now) (sym none)
      (subst (λ n. StopsAfter set turns schema requests n 0 now now) (sym is) record {
        within = omega arith;
        responses = [];
        between = now;
        whole = refl;
        next = no-more (slice_get requests 0) now;
      })

  -- the first so many requests were executed between two moments, with these responses
  pub record IsSoFar (requests : List (DynamicRequest Own)) (i : ℕ) (responses : List Response) (old now : Seen R P) : Type 0 where
    pub executed : ExecutesAll set turns schema (take i requests) responses old now
    pub count : length responses ≡ i
    pub keeps : KeepsSet set old.set now.set

  -- before the first one
  pub begins : (requests : List (DynamicRequest Own)) (responses : List Response) (now : Seen R P) → responses ≡ [] → IsSoFar requests 0 responses now now
  begins requests responses now none =
      rw none record { executed = refl; count = refl; keeps = set_none now.set }

  -- all requests are done
  pub all_done : (requests : List (DynamicRequest Own)) (i : ℕ) (responses : List Response) (old new : Seen R P)
      → IsSoFar requests i responses old new → length requests ≤ i → ExecutesAll set turns schema requests responses old new
  all_done requests i responses old new far over =
      subst (λ front. ExecutesAll set turns schema front responses old new) (take_all i requests over) far.executed

  pub all_answered : (requests : List (DynamicRequest Own)) (i : ℕ) (responses : List Response) (old new : Seen R P)
      → IsSoFar requests i responses old new → length requests ≤ i → length responses ≡ length requests
  all_answered requests i responses old new far over = as_many requests responses old new (all_done requests i responses old new far over)

  module _ (requests : List (DynamicRequest Own)) (i : ℕ) (request : DynamicRequest Own) (responses : List Response) (old now new : Seen R P) where
    one-more : (response : Response) → IsSoFar requests i responses old now → i < length requests → request ≡ get_or requests i request
        → ExecutesOne set turns schema request response now new
        → ExecutesAll set turns schema (take (i + 1) requests) (responses ++ response ∷ []) old new
    one-more response far within is executes =
        let at = slice_get_read requests (length requests) i request refl within is in
        subst (λ front. ExecutesAll set turns schema front (responses ++ response ∷ []) old new) (sym (taken-more requests i request at))
        (executes-behind (take i requests) responses request response old now new far.executed executes)

    -- one request more is executed
    pub goes_on : (response : Response) (more : List Response) → IsSoFar requests i responses old now → i < length requests → request ≡ get_or requests i request
        → ExecutesOne set turns schema request response now new
        → more ≡ responses ++ response ∷ [] → IsSoFar requests (i + 1) more old new
    goes_on response more far within here executes is =
        rw is
        record {
          executed = one-more response far within here executes;
          count = length-append responses (response ∷ []) ∙ ap (λ n. n + 1) far.count;
          keeps = set_trans far.keeps executes.keeps;
        }

    -- the next request ended out of memory
    pub ends_next : (done roots : ℕ) → IsSoFar requests i responses old now → i < length requests
        → request ≡ get_or requests i request → done ≡ length responses
        → StopsOne set turns schema request roots now new → StopsAfter set turns schema requests done roots old new
    ends_next done roots far within here is stops =
        let at = slice_get_read requests (length requests) i request refl within here in
        subst (λ n. StopsAfter set turns schema requests n roots old new) (sym (is ∙ far.count)) record {
          within = omega (arith, within);
          responses = responses;
          between = now;
          whole = far.executed;
          next = subst (λ o. StopsAt set turns schema o roots now new) (sym at) stops;
        }

    -- it was executed, and memory ran out for its response
    pub ends_behind : (response : Response) (done : ℕ) → IsSoFar requests i responses old now → i < length requests → request ≡ get_or requests i request
        → ExecutesOne set turns schema request response now new
        → done ≡ length responses → StopsAfter set turns schema requests (done + 1) 0 old new
    ends_behind response done far within here executes is =
        subst (λ n. StopsAfter set turns schema requests (n + 1) 0 old new) (sym (is ∙ far.count)) record {
          within = omega (arith, within);
          responses = responses ++ response ∷ [];
          between = new;
          whole = one-more response far within here executes;
          next = no-more (slice_get requests (i + 1)) new;
        }

-- how a batch begins and ends
pub ruleset batch_steps = (none_done, begins, all_done, all_answered)
