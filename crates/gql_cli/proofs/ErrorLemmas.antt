-- The errors of responses, and what a run comes to by them.
use Rattle.std.proofs.Common.{◌≡◌, ◌↔◌, ℕ, zero, suc, ◌<◌, Bool, true, false, IsTrue, List, [], ◌∷◌, ◌++◌, All, length, slice_index_or, refl, ap, sym, ◌∙◌, arith}
use Rattle.gql_base.specs.declared.server_error.ServerError.{ServerError}
use Rattle.gql_cli.specs.Gives.{errors_in, outcome_for}
use Rattle.gql_cli.specs.declared.outcome.Outcome.TheVariants.{Answered, HasErrors}
use Rattle.gql_request.specs.declared.response.Response.{Response}

-- a response without errors
abbrev IsFree : Response → Type 0
IsFree response = response.errors ≡ []

none-in : (responses : List Response) → All IsFree responses → errors_in responses ≡ []
none-in [] all = refl
none-in (r ∷ rs) all =
    let first : r.errors ≡ [] = all 0 r (omega arith) in
    let rest : errors_in rs ≡ [] = none-in rs (λ k d within. all (suc k) d (omega arith)) in
    λ i. first i ++ rest i

first-none : (xs ys : List ServerError) → xs ++ ys ≡ [] → xs ≡ []
first-none [] ys none = refl
first-none (x ∷ xs) ys none = cc

rest-none : (xs ys : List ServerError) → xs ++ ys ≡ [] → ys ≡ []
rest-none [] ys none = none
rest-none (x ∷ xs) ys none = cc

each-free : (responses : List Response) → errors_in responses ≡ [] → (k : ℕ) (d : Response) → k < length responses → IsFree (slice_index_or responses k d)
each-free [] none k d within = absurd (omega arith)
each-free (r ∷ rs) none zero d within = first-none r.errors (errors_in rs) none
each-free (r ∷ rs) none (suc k) d within = each-free rs (rest-none r.errors (errors_in rs) none) k d (omega arith)

-- no response has an error
pub all_answered : (responses : List Response) (ok : Bool) (text due : List ℕ) → IsTrue ok ↔ All (λ (response : Response). response.errors ≡ []) responses
    → ok ≡ true → text ≡ due → Answered text ≡ outcome_for (errors_in responses) due
all_answered responses ok text due tells is same =
    ap Answered same ∙ ap (λ errors. outcome_for errors due) (sym (none-in responses (tells.0 is)))

failed-by : (errors : List ServerError) (due : List ℕ) → (errors ≡ [] → ⊥) → HasErrors due ≡ outcome_for errors due
failed-by [] due some = absurd (some refl)
failed-by (error ∷ errors) due some = refl

-- one has some
pub one_failed : (responses : List Response) (ok : Bool) (text due : List ℕ) → IsTrue ok ↔ All (λ (response : Response). response.errors ≡ []) responses
    → ok ≡ false → text ≡ due → HasErrors text ≡ outcome_for (errors_in responses) due
one_failed responses ok text due tells is same =
    ap HasErrors same ∙ failed-by (errors_in responses) due (λ none. let wrong : false ≡ true = sym is ∙ tells.1 (each-free responses none) in cc)
