-- One more entry of a journal.
use Rattle.std.proofs.Common.{◌≡◌, ◌++◌, ℕ, zero, suc, List, [], ◌∷◌, Some, Result, Ok, Err, slice_get, MatchResult, refl, sym, subst, ap}
use Rattle.std.proofs.Common.{inl, inr, ◌∙◌, arith}
use Rattle.std.proofs.lemmas.Option.{slice_get_within}
use Rattle.gql_base.specs.declared.no_memory.NoMemory.{NoMemory}
use Rattle.gql_exec.specs.declared.dynamic_request.DynamicRequest.{DynamicRequest}
use Rattle.gql_exec.specs.declared.schema.Schema.{Schema}
use Rattle.gql_meaning.specs.Served.{served_by}
use Rattle.gql_request.specs.declared.response.Response.{Response}
use Rattle.gql_resolve.specs.declared.resolver_set.ResolverSet.{Ghosts as Resolving}
use Rattle.gql_resolve.specs.declared.turns.Turns.{Ghosts as Choosing}
use Rattle.gql_tasks.specs.Keeps.{KeepsSet}
use Rattle.gql_tasks.specs.Progress.{Seen}
use Rattle.gql_serve.proofs.ExecutingLemmas.{executes_keeps}
use Rattle.gql_serve.specs.Adding.{IsMore, Keeping}
use Rattle.gql_serve.specs.Executing.{Executes}
use Rattle.gql_serve.specs.Journal.{Applies, Journal, journal_with, KeepsJournal, Leads, Replays, serving}
use Rattle.gql_serve.specs.declared.entry.Entry.{Entry}
use Rattle.gql_serve.specs.declared.entry.Outcome.{Outcome}
use Rattle.gql_serve.specs.declared.entry.Outcome.TheVariants.{Cut}

-- a place is the same place in a longer list
pub get_longer : {A : Type 0} (xs more : List A) (k : ℕ) (x : A) → slice_get xs k ≡ Some x → slice_get (xs ++ more) k ≡ Some x
get_longer [] more k x e = let b = slice_get_within [] k x e in absurd (omega arith)
get_longer (y ∷ ys) more zero x e = e
get_longer (y ∷ ys) more (suc k) x e = get_longer ys more k x e

module _ {R V W F : Type 0} (set : Resolving R V W F) (rules : set.Rules) where
  -- a journal says the same where more schemas are kept
  pub replays-longer : (schemas more : List Schema) (entries : List (Entry V)) (world last : W)
      → Replays set rules schemas entries world last → Replays set rules (schemas ++ more) entries world last
  replays-longer schemas more [] world last r = r
  replays-longer schemas more (e ∷ es) world last (next, (schema, at, leads), r) =
      (next, (schema, get_longer schemas more e.schema schema at, leads), replays-longer schemas more es next last r)

  -- and it goes on with one more entry
  pub replays-snoc : (schemas : List Schema) (entries : List (Entry V)) (entry : Entry V) (world mid last : W)
      → Replays set rules schemas entries world mid → Applies set rules schemas entry mid last
      → Replays set rules schemas (entries ++ entry ∷ []) world last
  replays-snoc schemas [] entry world mid last r a = (last, subst (λ w. Applies set rules schemas entry w last) r a, refl)
  replays-snoc schemas (e ∷ es) entry world mid last (next, first, r) a =
      (next, first, replays-snoc schemas es entry next mid last r a)

-- what an execution over a lawful set says of its outcome
pub leads_answer : {R V W F P : Type 0} (set : Resolving R V W F) (turns : Choosing P) (schema : Schema) (request : DynamicRequest V)
    (old new : Seen R P) (answer : Result Response NoMemory) (outcome : Outcome)
    → MatchResult answer (λ response. Keeping response outcome) (λ want. outcome ≡ Cut want.roots)
    → Executes set turns schema request old new answer → set.is_lawful old.set
    → Leads schema request (serving set (set.rules old.set) (set.world old.set)) outcome (set.world new.set)
leads_answer set turns schema request old new (Ok response) outcome (inl is) executed lawful =
    subst (λ o. Leads schema request (served_by set old.set) o (set.world new.set)) (sym is)
    (executed.responds lawful, executed.world lawful)
leads_answer set turns schema request old new (Ok response) outcome (inr is) executed lawful =
    subst (λ o. Leads schema request (served_by set old.set) o (set.world new.set)) (sym is) (executed.world lawful)
leads_answer set turns schema request old new (Err want) outcome is executed lawful =
    subst (λ o. Leads schema request (served_by set old.set) o (set.world new.set)) (sym is) (executed.0.world lawful)

-- where a request was executed and written down, the journal is kept
pub keeps_more : {R V W F P : Type 0} (set : Resolving R V W F) (turns : Choosing P) (first : R) (old new : Seen R P) (origin : W)
    (schemas schemas' : List Schema) (entries entries' : List (Entry V)) (entry : Entry V) (schema : Schema)
    (answer : Result Response NoMemory)
    → Executes set turns schema entry.request old new answer
    → MatchResult answer (λ response. Keeping response entry.outcome) (λ want. entry.outcome ≡ Cut want.roots)
    → (made : List Schema) → made ≡ schemas → IsMore made schemas' → slice_get schemas' entry.schema ≡ Some schema
    → (room : List (Entry V)) → room ≡ entries → entries' ≡ room ++ entry ∷ []
    → KeepsJournal set first old.set origin (journal_with schemas entries)
    → KeepsJournal set first new.set origin (journal_with schemas' entries')
keeps_more set turns first old new origin schemas schemas' entries entries' entry schema answer executed tells
    made same_schemas (more, longer') there room same_entries added' kept =
    let keeps : KeepsSet set old.set new.set = executes_keeps set turns schema entry.request old new answer executed in
    let longer : schemas' ≡ schemas ++ more = longer' ∙ ap (λ xs. xs ++ more) same_schemas in
    let added : entries' ≡ entries ++ entry ∷ [] = added' ∙ ap (λ xs. xs ++ entry ∷ []) same_entries in record {
      rules = keeps.rules_is ∙ kept.rules;
      legal = λ was.
          let legal = kept.legal was in
          let before : Replays set (set.rules first) schemas' entries origin (set.world old.set) =
          subst (λ s. Replays set (set.rules first) s entries origin (set.world old.set)) (sym longer)
          (replays-longer set (set.rules first) schemas more entries origin (set.world old.set) legal.leads) in
          let leads : Leads schema entry.request (serving set (set.rules old.set) (set.world old.set)) entry.outcome (set.world new.set) =
          leads_answer set turns schema entry.request old new answer entry.outcome tells executed legal.lawful in
          let applies : Applies set (set.rules first) schemas' entry (set.world old.set) (set.world new.set) = (
            schema,
            there,
            subst (λ r. Leads schema entry.request (serving set r (set.world old.set)) entry.outcome (set.world new.set))
                kept.rules leads,
          ) in
          record {
            lawful = keeps.lawful_is legal.lawful;
            origin_is = legal.origin_is;
            leads = subst (λ es. Replays set (set.rules first) schemas' es origin (set.world new.set)) (sym added)
                (replays-snoc set (set.rules first) schemas' entries entry origin (set.world old.set) (set.world new.set) before applies);
          };
    }
