-- Journals of a few entries, and where they lead.
use Rattle.std.proofs.Common.{◌≡◌, ◌<◌, List, [], ◌∷◌, refl, slice_get, arith}
use Rattle.std.proofs.lemmas.Option.{slice_get_within}
use Rattle.gql_exec.specs.Admitted.{IsAdmitted, IsRefused}
use Rattle.gql_exec.specs.Response.{by_refusal, is_left, none_stands, stays}
use Rattle.gql_exec.specs.Written.{written_of}
use Rattle.gql_exec.specs.declared.dynamic_request.DynamicRequest.{DynamicRequest}
use Rattle.gql_exec.specs.declared.schema.Schema.{Schema}
use Rattle.gql_meaning.specs.Responses.{world_left}
use Rattle.gql_request.specs.declared.response.Response.{Response}
use Rattle.gql_resolve.specs.declared.resolver_set.ResolverSet.{Ghosts as Resolving}
use Rattle.gql_serve.proofs.WorldLemmas.{leads_to_one}
use Rattle.gql_serve.specs.Adding.{entry_of}
use Rattle.gql_serve.specs.Journal.{Applies, Journal, journal_with, LeadsTo, serving}
use Rattle.gql_serve.specs.Seats.{counted, entries_of}
use Rattle.gql_serve.specs.declared.entry.Outcome.TheVariants.{Cut, Done, Unkept}
use Rattle.gql_serve.specs.declared.seat.Seat.{Seat}

-- one that was refused, one for which memory ran out before all, and the first once more
abbrev without_effect : {V : Type 0} → Schema → Schema → DynamicRequest V → DynamicRequest V → Response → Journal V
without_effect one two request other refusal = journal_with (one ∷ two ∷ [])
    (entry_of 4 0 request (Done refusal) ∷ entry_of 5 1 other (Cut 0) ∷ entry_of 4 0 request Unkept ∷ [])

module _ {R V W F : Type 0} (set : Resolving R V W F) (rules : set.Rules) (one two : Schema) (world : W) where
  -- one without entries leads from each world to itself
  leads_to_itself : LeadsTo set rules (journal_with (one ∷ []) []) world world
  leads_to_itself = refl

  -- an entry whose schema stands nowhere leads nowhere
  leads_nowhere : (request : DynamicRequest V) (next : W)
      → Applies set rules (one ∷ two ∷ []) (entry_of 4 2 request Unkept) world next → ⊥
  leads_nowhere request next (schema, at, leads) =
      let within : 2 < 2 = slice_get_within (one ∷ two ∷ []) 2 schema at in absurd (omega arith)

  module _ (request other : DynamicRequest V) (refusal : Response) (refused : IsRefused one request.inner refusal) where
    -- such a journal leads back
    leads_back : LeadsTo set rules (without_effect one two request other refusal) world world
    leads_back = (
      world,
      (one, refl, (by_refusal refused, stays refusal refused refl)),
      (world, (two, refl, none_stands refl refl), (world, (one, refl, stays refusal refused refl), refl)),
    )

    -- and it leads to no other world
    leads_back_alone : (last : W) → LeadsTo set rules (without_effect one two request other refusal) world last → last ≡ world
    leads_back_alone last leads = leads_to_one set rules (without_effect one two request other refusal) world last world leads leads_back

  module _ (request : DynamicRequest V) (admitted : IsAdmitted one request.inner) where
    -- the world that an admitted request leaves
    abbrev left_of : W → W
    left_of world = world_left (serving set rules world) (written_of one request admitted)

    -- twice the same one: the second finds what the first left
    leads_on : LeadsTo set rules (journal_with (one ∷ []) (entry_of 4 0 request Unkept ∷ entry_of 5 0 request Unkept ∷ [])) world (left_of (left_of world))
    leads_on = (
      left_of world,
      (one, refl, is_left admitted refl),
      (left_of (left_of world), (one, refl, is_left admitted refl), refl),
    )

-- what seats counted is added up
counted_so : {L : Type 0} (one two : Seat L) → entries_of one ≡ 2 → entries_of two ≡ 1 → counted (one ∷ two ∷ []) ≡ 3
counted_so one two first second = omega (arith, first, second)
