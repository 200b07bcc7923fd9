-- Values of a document, with what their variables stand for, made one by one; and the refusal of a variable.
use Rattle.std.proofs.Common.{◌≡◌, ℕ, ◌+◌, Bool, true, false, ◌||◌, cond, List, [], ◌∷◌, ◌++◌, drop, take, Option, Some, None, Result, Ok, Err, IfOk, Bor, is_some, slice_get, refl, ap, sym, ◌∙◌}
use Rattle.std.proofs.lemmas.List.{drop_more, take_more}
use Rattle.std.proofs.lemmas.Option.{slice_get_within, get_or_from_slice_get}
use Rattle.std.specs.List.{list_any, zip}
use Rattle.std.specs.Prelude.{find}
use Rattle.std.specs.Option.{option_copied, option_or}
use Rattle.gql_base.specs.Pairs.{names_of, values_of}
use Rattle.gql_base.specs.declared.pos.Pos.{Pos}
use Rattle.gql_base.specs.declared.server_error.ServerError.{ServerError}
use Rattle.gql_base.specs.declared.value.Value.{Value}
use Rattle.std.specs.Str.{bytes_eq}
use Rattle.gql_doc.specs.declared.document.DocValue.{DocValue}
use Rattle.gql_doc.specs.declared.document.Positioned.{Positioned}
use Rattle.gql_doc.specs.declared.document.VariableDefinition.{VariableDefinition}
use Rattle.gql_request.specs.Defined.{first_definition}
use Rattle.gql_request.specs.declared.query_env.QueryEnv.{QueryEnv}
use Rattle.gql_select.specs.Constants.{resolved}
use Rattle.gql_resolve.specs.Variables.{is_defined, not_defined, not_defined_text, resolved_members, unknown_in, unknown_members}

-- an error is what is said of its fields
pub refusal_of : {E : Type 0} (r : Result ServerError E) (name : List ℕ) (pos : Pos) → IfOk r (λ error. error.message ≡ not_defined_text name)
    → IfOk r (λ error. error.locations ≡ pos ∷ []) → IfOk r (λ error. error.path ≡ []) → IfOk r (λ error. error.extensions ≡ None)
    → IfOk r (λ error. error ≡ not_defined name pos)
refusal_of (Ok error) name pos said at path extensions =
    λ i. record { message = said i; locations = at i; path = path i; extensions = extensions i }
refusal_of (Err e) name pos said at path extensions = tt

-- one more member has what its variables stand for
pub resolved_more : (known : List ℕ → Value) (ms : List (List ℕ × DocValue)) (i : ℕ) (n : List ℕ) (w : DocValue) (vs vs' : List Value) (v : Value)
    → slice_get ms i ≡ Some (n, w) → vs ≡ values_of (resolved_members known (take i ms)) → v ≡ resolved known w → vs' ≡ vs ++ v ∷ []
    → vs' ≡ values_of (resolved_members known (take (i + 1) ms))
resolved_more known ms i n w vs vs' v at before is added =
    let more : take (i + 1) ms ≡ take i ms ++ (n, w) ∷ []
    = take_more ms i (n, w) (slice_get_within ms i (n, w) at) ∙ ap (λ p. take i ms ++ p ∷ []) (get_or_from_slice_get ms i (n, w) (n, w) at) in
    added
    ∙ (λ j. before j ++ is j ∷ [])
    ∙ sym (last_value (take i ms))
    ∙ ap (λ xs. values_of (resolved_members known xs)) (sym more)
  where
    last_value : (xs : List (List ℕ × DocValue)) → values_of (resolved_members known (xs ++ (n, w) ∷ [])) ≡ values_of (resolved_members known xs) ++ resolved known w ∷ []
    last_value [] = refl
    last_value (x ∷ xs) = ap (λ ys. resolved known x.1 ∷ ys) (last_value xs)

pub resolved_whole : (known : List ℕ → Value) (ms : List (List ℕ × DocValue)) → zip (names_of ms) (values_of (resolved_members known ms)) ≡ resolved_members known ms
resolved_whole known [] = refl
resolved_whole known (m ∷ ms) = ap (λ ys. (m.0, resolved known m.1) ∷ ys) (resolved_whole known ms)

-- the next member of an object is looked at for a variable that isn't defined
module _ (env : QueryEnv) (ms : List (List ℕ × DocValue)) (i : ℕ) (n : List ℕ) (w : DocValue) (at : slice_get ms i ≡ Some (n, w))
    (before : unknown_members env (drop i ms) ≡ unknown_members env ms) where
  next_member : option_or (unknown_in env w) (unknown_members env (drop (i + 1) ms)) ≡ unknown_members env ms
  next_member =
      sym (ap (unknown_members env)
      (drop_more ms i (n, w) (slice_get_within ms i (n, w) at) ∙ ap (λ m. m ∷ drop (i + 1) ms) (get_or_from_slice_get ms i (n, w) (n, w) at))) ∙ before

  -- it has one
  pub unknown_here : (found : Option (Bor (List ℕ))) (there : Bool) → option_copied found ≡ unknown_in env w → there ≡ is_some found → there ≡ true
      → option_copied found ≡ unknown_members env ms
  unknown_here None there told test so = cc
  unknown_here (Some name) there told test so = ap (λ (o : Option (List ℕ)). option_or o (unknown_members env (drop (i + 1) ms))) told ∙ next_member

  -- it has none
  pub unknown_later : (found : Option (Bor (List ℕ))) (there : Bool) → option_copied found ≡ unknown_in env w → there ≡ is_some found → there ≡ false
      → unknown_members env (drop (i + 1) ms) ≡ unknown_members env ms
  unknown_later None there told test so = ap (λ (o : Option (List ℕ)). option_or o (unknown_members env (drop (i + 1) ms))) told ∙ next_member
  unknown_later (Some name) there told test so = cc

-- some item passes a test exactly where one is found
find-any : {A : Type 0} (test : A → Bool) (xs : List A) → is_some (find test xs) ≡ list_any test xs
find-any test [] = refl
find-any test (x ∷ xs) =
    let P : Bool → Type 0 = λ b. is_some (cond b (Some x) (find test xs)) ≡ (b || list_any test xs) in
    elim (test x) as P [ true ↦ refl | false ↦ find-any test xs ]

there-copied : {A : Type 0} (found : Option (Bor A)) → is_some found ≡ is_some (option_copied found)
there-copied None = refl
there-copied (Some x) = refl

-- a variable is defined where a definition is found
pub found_any : (env : QueryEnv) (name : List ℕ) (found : Option (Bor (Positioned VariableDefinition))) (there : Bool)
    → option_copied found ≡ first_definition name env.operation.node.variable_definitions → there ≡ is_some found → there ≡ is_defined env name
found_any env name found there told test =
    test ∙ there-copied found ∙ ap is_some told ∙ find-any (λ definition. bytes_eq definition.node.name.node name) env.operation.node.variable_definitions
