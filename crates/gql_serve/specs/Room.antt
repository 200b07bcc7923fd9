-- Room for an entry of a journal.
use Rattle.std.specs.Prelude.{◌≡◌, ◌<◌, ℕ, Option, Some, None, slice_get, length, Vec, vec_len}
use Rattle.std.specs.Prelude.{vec_capacity}
use Rattle.gql_exec.specs.declared.dynamic_request.DynamicRequest.{DynamicRequest}
use Rattle.gql_exec.specs.declared.schema.Schema.{Schema}
use Rattle.gql_serve.specs.declared.entry.Entry.{Entry}
use Rattle.gql_serve.specs.declared.room.Room.{Room}

-- the place of a schema: where it is kept, or behind the others, where it is new and has room
abbrev pub StandsAt : {B : Type 0} → Vec Schema B → Schema → ℕ → Option Schema → Type 0
StandsAt schemas schema place None = slice_get schemas.items place ≡ Some schema
StandsAt schemas schema place (Some kept) =
    (kept ≡ schema) × (place ≡ length schemas.items) × (vec_len schemas < vec_capacity schemas)

module _ {V B C : Type 0} where
  -- there is room for an entry of a request under a schema
  pub record HasRoom (schemas : Vec Schema B) (entries : Vec (Entry V) C) (schema : Schema)
      (request : DynamicRequest V) (room : Room V) : Type 0 where
    pub request_is : room.request ≡ request
    pub entry_fits : vec_len entries < vec_capacity entries
    pub stands : StandsAt schemas schema room.place room.kept
