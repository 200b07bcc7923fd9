-- What one call adds to a journal.
use Rattle.std.specs.Prelude.{◌≡◌, ◌++◌, ◌⊎◌, ℕ, List, [], ◌∷◌, Some, slice_get}
use Rattle.gql_base.specs.declared.no_memory.NoMemory.{NoMemory}
use Rattle.gql_exec.specs.declared.dynamic_request.DynamicRequest.{DynamicRequest}
use Rattle.gql_exec.specs.declared.schema.Schema.{Schema}
use Rattle.gql_request.specs.declared.response.Response.{Response}
use Rattle.gql_serve.specs.Journal.{Journal}
use Rattle.gql_serve.specs.declared.entry.Entry.{Entry}
use Rattle.gql_serve.specs.declared.entry.Outcome.{Outcome}
use Rattle.gql_serve.specs.declared.entry.Outcome.TheVariants.{Done, Unkept, Cut}

-- an entry of this caller
abbrev pub entry_of : {V : Type 0} → ℕ → ℕ → DynamicRequest V → Outcome → Entry V
entry_of caller place request outcome =
    record { caller = caller; schema = place; request = request; outcome = outcome }

-- a list goes on from another
abbrev pub IsMore : {A : Type 0} → List A → List A → Type 0
IsMore {A} old new = (more : List A) × (new ≡ old ++ more)

-- the outcomes of a request that had this response: it was kept, or not
abbrev pub Keeping : Response → Outcome → Type 0
Keeping response outcome = (outcome ≡ Done response) ⊎ (outcome ≡ Unkept)

module _ {V : Type 0} (caller : ℕ) (schema : Schema) (request : DynamicRequest V)
    (old new : Journal V) where
  -- exactly one entry was added, with such an outcome; the schemas before it stay in their places
  pub record Adds (Is : Outcome → Type 0) : Type 0 where
    pub place : ℕ
    pub outcome : Outcome
    pub is : Is outcome
    pub entries : new.entries ≡ old.entries ++ entry_of caller place request outcome ∷ []
    pub schemas : IsMore old.schemas new.schemas
    pub there : slice_get new.schemas place ≡ Some schema

  -- what is added for a response
  abbrev pub AddsOk : Response → Type 0
  AddsOk response = Adds (Keeping response)

  -- what is added where memory ran out: an entry that tells how far the request came, or none, and
  -- then nothing else was changed either
  abbrev pub AddsErr : {A : Type 0} → A → A → NoMemory → Type 0
  AddsErr before behind want = Adds (λ outcome. outcome ≡ Cut want.roots)
      ⊎ ((new ≡ old) × (behind ≡ before) × (want.roots ≡ 0))
