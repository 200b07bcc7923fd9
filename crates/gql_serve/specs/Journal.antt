-- Journals of requests that were executed one after another over one set, and the world to which
-- they lead (GraphQL, October 2021, section 6).
use Rattle.std.specs.Prelude.{◌≡◌, List, [], ◌∷◌, Some, slice_get}
use Rattle.gql_exec.specs.Response.{IsResponseTo, IsWorldAfter, IsWorldBehind}
use Rattle.gql_exec.specs.declared.dynamic_request.DynamicRequest.{DynamicRequest}
use Rattle.gql_exec.specs.declared.schema.Schema.{Schema}
use Rattle.gql_meaning.specs.Served.{Served}
use Rattle.gql_resolve.specs.declared.resolver_set.ResolverSet.{Ghosts as Resolving}
use Rattle.gql_serve.specs.declared.entry.Entry.{Entry}
use Rattle.gql_serve.specs.declared.entry.Outcome.{Outcome}
use Rattle.gql_serve.specs.declared.entry.Outcome.TheVariants.{Done, Unkept, Cut}

-- a journal: its entries, and the schemas in whose places they stand
pub record Journal (V : Type 0) : Type 0 where
  pub schemas : List Schema
  pub entries : List (Entry V)

-- the same, as a contract names it
abbrev pub journal_with : {V : Type 0} → List Schema → List (Entry V) → Journal V
journal_with schemas entries = record { schemas = schemas; entries = entries }

-- what a set with these rules serves in a world
abbrev pub serving : {R V W F : Type 0} (set : Resolving R V W F) → set.Rules → W → Served V W
serving set rules world =
    record { answer = set.answer rules; effect = set.effect rules; world = world }

-- what became of a request, over what is served: its outcome tells its response, if that was kept,
-- and it leaves this world
abbrev pub Leads : {V W : Type 0} → Schema → DynamicRequest V → Served V W → Outcome → W → Type 0
Leads schema request served (Done response) world =
    IsResponseTo schema request served response × IsWorldAfter schema request served world
Leads schema request served Unkept world = IsWorldAfter schema request served world
Leads schema request served (Cut roots) world = IsWorldBehind schema request served roots world

module _ {R V W F : Type 0} (set : Resolving R V W F) (rules : set.Rules) where
  module _ (schemas : List Schema) where
    -- an entry leads from a world to the next, under the schema in its place
    abbrev pub Applies : Entry V → W → W → Type 0
    Applies entry world next =
        (schema : Schema) × (slice_get schemas entry.schema ≡ Some schema)
        × Leads schema entry.request (serving set rules world) entry.outcome next

    -- entries lead from a world to another, one after the other
    abbrev pub Replays : List (Entry V) → W → W → Type 0
    Replays [] world last = last ≡ world
    Replays (entry ∷ entries) world last =
        (next : W) × Applies entry world next × Replays entries next last

  -- a legal journal leads from its origin to a world
  abbrev pub LeadsTo : Journal V → W → W → Type 0
  LeadsTo journal origin last = Replays journal.schemas journal.entries origin last

module _ {R V W F : Type 0} (set : Resolving R V W F) where
  -- over a set that was lawful at first: it still is, and its journal, from the world in which it
  -- was, leads to the world in which it is
  pub record IsLegal (first now : R) (origin : W) (journal : Journal V) : Type 0 where
    pub lawful : set.is_lawful now
    pub origin_is : origin ≡ set.world first
    pub leads : LeadsTo set (set.rules first) journal origin (set.world now)

  -- what is kept of a set, of the world in which it was at first and of its journal
  pub record KeepsJournal (first now : R) (origin : W) (journal : Journal V) : Type 0 where
    pub rules : set.rules now ≡ set.rules first
    pub legal : set.is_lawful first → IsLegal first now origin journal
