-- Operations on headers, and responses that are taken over, one after another.
use Rattle.std.proofs.Common.{◌≡◌, ◌↔◌, inl, inr, List, [], ◌∷◌, ◌++◌, refl, ap, sym, subst, ◌∙◌}
use Rattle.gql_request.specs.Headers.{Headers, Overflows, RespondsTooMany, after, all_headers, folded}
use Rattle.gql_request.specs.declared.header_op.HeaderOp.{HeaderOp}
use Rattle.gql_request.specs.declared.response.Response.{Response}

-- what holds where some of all operations are done, and these are left
pub record IsDone (start : Headers) (all : List HeaderOp) (map : Headers) (left : List HeaderOp) : Type 0 where
  pub folds : folded map left ≡ folded start all
  pub overflows : Overflows map left ↔ Overflows start all

-- what holds where some of all responses are taken over, and these are left
pub record IsTaken (start : Headers) (all : List Response) (map : Headers) (left : List Response) : Type 0 where
  pub folds : all_headers map left ≡ all_headers start all
  pub overflows : RespondsTooMany map left ↔ RespondsTooMany start all

pub folded_append : (map : Headers) (ops left : List HeaderOp) → folded map (ops ++ left) ≡ folded (folded map ops) left
folded_append map [] left = refl
folded_append map (op ∷ ops) left = folded_append (after map op) ops left

-- an operation that meets a full map still does so where others come after it
pub overflows_more : (map : Headers) (ops left : List HeaderOp) → Overflows map ops → Overflows map (ops ++ left)
overflows_more map [] left over = absurd over
overflows_more map (op ∷ ops) left (inl full) = inl full
overflows_more map (op ∷ ops) left (inr over) = inr (overflows_more (after map op) ops left over)

-- where none of the first operations meets a full map, it is one of the others that does
pub overflows_later : (map : Headers) (ops left : List HeaderOp) → ¬ (Overflows map ops) → Overflows map (ops ++ left) → Overflows (folded map ops) left
overflows_later map [] left none over = over
overflows_later map (op ∷ ops) left none (inl full) = absurd (none (inl full))
overflows_later map (op ∷ ops) left none (inr over) = overflows_later (after map op) ops left (λ o. none (inr o)) over

pub overflows_then : (map : Headers) (ops left : List HeaderOp) → Overflows (folded map ops) left → Overflows map (ops ++ left)
overflows_then map [] left over = over
overflows_then map (op ∷ ops) left over = inr (overflows_then (after map op) ops left over)

-- some more operations are done
pub some_done : (start : Headers) (all : List HeaderOp) (map new : Headers) (ops left : List HeaderOp) → IsDone start all map (ops ++ left)
    → ¬ (Overflows map ops) → new ≡ folded map ops → IsDone start all new left
some_done start all map new ops left done none is = record {
  folds = ap (λ m. folded m left) is ∙ sym (folded_append map ops left) ∙ done.folds;
  overflows = (
    (λ over. done.overflows.0 (overflows_then map ops left (subst (λ m. Overflows m left) is over))),
    (λ over. subst (λ m. Overflows m left) (sym is) (overflows_later map ops left none (done.overflows.1 over))),
  );
}

-- one of the next operations meets a full map
pub some_overflow : (start : Headers) (all : List HeaderOp) (map : Headers) (ops left : List HeaderOp) → IsDone start all map (ops ++ left) → Overflows map ops
    → Overflows start all
some_overflow start all map ops left done over = done.overflows.0 (overflows_more map ops left over)
