-- A journal leads to one world.
use Rattle.std.proofs.Common.{◌≡◌, ℕ, zero, Bool, true, false, List, [], ◌∷◌, Option, Some, refl, ap, sym, subst, ◌∙◌, take}
use Rattle.gql_doc.specs.declared.document.Field.{Field}
use Rattle.gql_doc.specs.declared.document.Positioned.{Positioned}
use Rattle.gql_exec.proofs.AdmittedLemmas.{one_world, one_written}
use Rattle.gql_exec.specs.Response.{IsWorldAfter, IsWorldBehind, none_stands, roots_stand}
use Rattle.gql_exec.specs.Written.{written_of}
use Rattle.gql_exec.specs.declared.dynamic_request.DynamicRequest.{DynamicRequest}
use Rattle.gql_exec.specs.declared.schema.Schema.{Schema}
use Rattle.gql_meaning.specs.Responses.{asking_keys, world_by, world_left_by, Written}
use Rattle.gql_meaning.specs.Served.{Served}
use Rattle.gql_resolve.specs.declared.resolver_set.ResolverSet.{Ghosts as Resolving}
use Rattle.gql_serve.specs.Journal.{Applies, Leads, Replays, serving}
use Rattle.gql_serve.specs.Laws.{LeadsToOne}
use Rattle.gql_serve.specs.declared.entry.Entry.{Entry}
use Rattle.gql_serve.specs.declared.entry.Outcome.{Outcome}
use Rattle.gql_serve.specs.declared.entry.Outcome.TheVariants.{Done, Unkept, Cut}

module _ {V W : Type 0} (served : Served V W) (written : Written V) where
  no-keys : (mutates : Bool) (keys : List (List ℕ × Positioned Field)) → world_by served written mutates (take 0 keys) ≡ served.world
  no-keys true [] = refl
  no-keys true (key ∷ keys) = refl
  no-keys false keys = refl

  -- before any root key the world is as it was
  pub none_left : world_left_by served written 0 ≡ served.world
  none_left = no-keys written.mutates (asking_keys written.execution written.asked)

module _ {V W : Type 0} (schema : Schema) (request : DynamicRequest V) (served : Served V W) where
  -- where memory ran out after so many root keys, there is one world
  pub one_behind : (roots : ℕ) (one other : W) → IsWorldBehind schema request served roots one
      → IsWorldBehind schema request served roots other → one ≡ other
  one_behind roots one other (none_stands none is) (none_stands none' is') = is ∙ sym is'
  one_behind roots one other (none_stands none is) (roots_stand admitted within is') =
      is ∙ sym (is' ∙ ap (world_left_by served (written_of schema request admitted)) none
      ∙ none_left served (written_of schema request admitted))
  one_behind roots one other (roots_stand admitted within is) (none_stands none is') =
      is ∙ ap (world_left_by served (written_of schema request admitted)) none
      ∙ none_left served (written_of schema request admitted) ∙ sym is'
  one_behind roots one other (roots_stand admitted within is) (roots_stand admitted' within' is') =
      is ∙ ap (λ (written : Written V). world_left_by served written roots) (one_written schema request admitted admitted') ∙ sym is'

  one-led : (outcome : Outcome) (one other : W) → Leads schema request served outcome one
      → Leads schema request served outcome other → one ≡ other
  one-led (Done response) one other a b = one_world schema request served one other a.1 b.1
  one-led Unkept one other a b = one_world schema request served one other a b
  one-led (Cut roots) one other a b = one_behind roots one other a b

module _ {R V W F : Type 0} (set : Resolving R V W F) (rules : set.Rules) (schemas : List Schema) where
  one-applied : (entry : Entry V) (world one other : W) → Applies set rules schemas entry world one
      → Applies set rules schemas entry world other → one ≡ other
  one-applied entry world one other (schema, at, led) (schema', at', led') =
      let both : Some schema ≡ Some schema' = sym at ∙ at' in
      let same : schema ≡ schema' = cc in
      one-led schema' entry.request (serving set rules world) entry.outcome one other
      (subst (λ (s : Schema). Leads s entry.request (serving set rules world) entry.outcome one) same led) led'

  one-replayed : (entries : List (Entry V)) (world one other : W) → Replays set rules schemas entries world one
      → Replays set rules schemas entries world other → one ≡ other
  one-replayed [] world one other a b = a ∙ sym b
  one-replayed (entry ∷ entries) world one other (next, first, a) (next', first', b) =
      let same : next ≡ next' = one-applied entry world next next' first first' in
      one-replayed entries next' one other (subst (λ (w : W). Replays set rules schemas entries w one) same a) b

pub leads_to_one : {R V W F : Type 0} (set : Resolving R V W F) → LeadsToOne set
leads_to_one set = λ rules journal origin one other a b. one-replayed set rules journal.schemas journal.entries origin one other a b
