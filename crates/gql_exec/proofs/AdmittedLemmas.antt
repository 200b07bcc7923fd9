-- A request is refused or admitted in one way, and so has one response.
use Rattle.std.proofs.Common.{◌≡◌, ℕ, List, Result, Ok, Err, refl, ap, sym, subst, ◌∙◌}
use Rattle.gql_base.specs.declared.server_error.ServerError.{ServerError}
use Rattle.gql_admit.proofs.PreparedLemmas.{one_staged}
use Rattle.gql_admit.specs.Stages.{Staged}
use Rattle.gql_admit.specs.declared.chosen.Chosen.{Chosen}
use Rattle.gql_conflicts.specs.DocumentConflicts.{told}
use Rattle.gql_conflicts.specs.declared.conflict.Conflict.{Conflict}
use Rattle.gql_engine.specs.declared.scene.Scene.{Scene}
use Rattle.gql_exec.proofs.ConflictLemmas.{no_conflicts_written}
use Rattle.gql_exec.proofs.ReadyLemmas.{one_ready}
use Rattle.gql_exec.specs.Admission.{terms_for}
use Rattle.gql_exec.specs.Admitted.{by_root, by_stage, error_response, fault_response, Gives, IsAdmitted, IsRefused}
use Rattle.gql_exec.specs.Laws.{AdmittedApartIsMerged, AlikeSets}
use Rattle.gql_exec.specs.Response.{asks_all, asks_none, by_execution, by_refusal, is_left, IsAskedCount, IsResponseTo, IsWorldAfter, stays}
use Rattle.gql_exec.specs.Root.{root_for}
use Rattle.gql_exec.specs.Scene.{IsSceneOf, scene_for}
use Rattle.gql_exec.specs.Written.{written_for, written_of}
use Rattle.gql_exec.specs.declared.dynamic_request.DynamicRequest.{DynamicRequest}
use Rattle.gql_exec.specs.declared.schema.Schema.{Schema}
use Rattle.gql_meaning.proofs.LawProofs.{apart_is_merged}
use Rattle.gql_meaning.specs.Counted.{answers_asked}
use Rattle.gql_meaning.specs.PlaceResponse.{response_at}
use Rattle.gql_meaning.specs.Responses.{response_merged, world_left, Written}
use Rattle.gql_meaning.specs.Served.{Served, served_by}
use Rattle.gql_request.specs.declared.query_env.QueryEnv.{QueryEnv}
use Rattle.gql_request.specs.declared.request.Request.{Request}
use Rattle.gql_request.specs.declared.response.Response.{Response}
use Rattle.gql_resolve.specs.declared.resolver_set.ResolverSet.{Ghosts as Resolving}
use Rattle.gql_schema.specs.declared.object.Object.{Object}

module _ (schema : Schema) (request : Request) where
  one_given : (one other : Staged) → Gives schema request one → Gives schema request other → one ≡ other
  one_given one other a b = one_staged (terms_for schema request.introspection_mode) request one other a b

  one_errors : (one other : List ServerError) → Gives schema request (Err one) → Gives schema request (Err other) → one ≡ other
  one_errors one other a b = let both = one_given (Err one) (Err other) a b in cc

  one_chosen : (one other : Chosen) → Gives schema request (Ok one) → Gives schema request (Ok other) → one ≡ other
  one_chosen one other a b = let both = one_given (Ok one) (Ok other) a b in cc

  never_given : (errors : List ServerError) (chosen : Chosen) → Gives schema request (Err errors) → Gives schema request (Ok chosen) → ⊥
  never_given errors chosen a b = let both = one_given (Err errors) (Ok chosen) a b in cc

  -- the roots of one operation
  one_root : (one other : Chosen) (root also : Result Object (List ℕ)) → Gives schema request (Ok one) → Gives schema request (Ok other)
      → root_for schema one.operation.node.ty ≡ root → root_for schema other.operation.node.ty ≡ also → root ≡ also
  one_root one other root also a b is is' = sym is ∙ ap (λ (c : Chosen). root_for schema c.operation.node.ty) (one_chosen one other a b) ∙ is'

  -- a request is refused with one response
  pub one_refusal : (one other : Response) → IsRefused schema request one → IsRefused schema request other → one ≡ other
  one_refusal one other (by_stage errors a is) (by_stage errors' b is') = is ∙ ap error_response (one_errors errors errors' a b) ∙ sym is'
  one_refusal one other (by_stage errors a is) (by_root chosen text b root is') = absurd (never_given errors chosen a b)
  one_refusal one other (by_root chosen text a root is) (by_stage errors b is') = absurd (never_given errors chosen b a)
  one_refusal one other (by_root chosen text a root is) (by_root chosen' text' b root' is') =
      let both : Err text ≡ Err text' = one_root chosen chosen' (Err text) (Err text') a b root root' in
      let same : text ≡ text' = cc in
      is ∙ ap fault_response same ∙ sym is'

  -- and one that is refused isn't admitted
  pub never_both : (response : Response) → IsRefused schema request response → IsAdmitted schema request → ⊥
  never_both response (by_stage errors a is) admitted = never_given errors admitted.chosen a admitted.stages
  never_both response (by_root chosen text a root is) admitted =
      let both : Err text ≡ Ok admitted.object = one_root chosen admitted.chosen (Err text) (Ok admitted.object) a admitted.stages root admitted.root in
      cc

  -- a request is admitted with one operation and one object
  pub one_object : (one other : IsAdmitted schema request) → one.object ≡ other.object
  one_object one other =
      let both : Ok one.object ≡ Ok other.object
      = one_root one.chosen other.chosen (Ok one.object) (Ok other.object) one.stages other.stages one.root other.root in
      cc

  pub one_operation : (one other : IsAdmitted schema request) → one.chosen ≡ other.chosen
  one_operation one other = one_chosen one.chosen other.chosen one.stages other.stages

module _ {V : Type 0} (schema : Schema) (request : DynamicRequest V) where
  -- so it is written in one way
  pub one_written : (one other : IsAdmitted schema request.inner) → written_of schema request one ≡ written_of schema request other
  one_written one other =
      λ i. written_for schema request (one_operation schema request.inner one other i) (one_object schema request.inner one other i)

  -- and has one scene
  pub one_scene : (one other : Scene V) → IsSceneOf schema request one → IsSceneOf schema request other → one ≡ other
  one_scene one other a b =
      let ready : Ok a.env ≡ Ok b.env = one_ready schema request.inner (Ok a.env) (Ok b.env) a.ready b.ready in
      let envs : a.env ≡ b.env = cc in
      let roots : Ok a.object ≡ Ok b.object = sym a.root ∙ ap (λ (e : QueryEnv). root_for schema e.operation.node.ty) envs ∙ b.root in
      let objects : a.object ≡ b.object = cc in
      a.is ∙ (λ i. scene_for schema request (envs i) (objects i)) ∙ sym b.is

  module _ {W : Type 0} (served : Served V W) where
    pub one_response : (one other : Response) → IsResponseTo schema request served one → IsResponseTo schema request served other → one ≡ other
    one_response one other (by_refusal a) (by_refusal b) = one_refusal schema request.inner one other a b
    one_response one other (by_refusal a) (by_execution admitted is) = absurd (never_both schema request.inner one a admitted)
    one_response one other (by_execution admitted is) (by_refusal b) = absurd (never_both schema request.inner other b admitted)
    one_response one other (by_execution admitted is) (by_execution admitted' is') = is ∙ ap (response_merged served) (one_written admitted admitted') ∙ sym is'

    pub one_world : (one other : W) → IsWorldAfter schema request served one → IsWorldAfter schema request served other → one ≡ other
    one_world one other (stays response a is) (stays response' b is') = is ∙ sym is'
    one_world one other (stays response a is) (is_left admitted is') = absurd (never_both schema request.inner response a admitted)
    one_world one other (is_left admitted is) (stays response b is') = absurd (never_both schema request.inner response b admitted)
    one_world one other (is_left admitted is) (is_left admitted' is') = is ∙ ap (world_left served) (one_written admitted admitted') ∙ sym is'

    pub one_count : (one other : ℕ) → IsAskedCount schema request served one → IsAskedCount schema request served other → one ≡ other
    one_count one other (asks_none response a is) (asks_none response' b is') = is ∙ sym is'
    one_count one other (asks_none response a is) (asks_all admitted is') = absurd (never_both schema request.inner response a admitted)
    one_count one other (asks_all admitted is) (asks_none response b is') = absurd (never_both schema request.inner response b admitted)
    one_count one other (asks_all admitted is) (asks_all admitted' is') = is ∙ ap (answers_asked served) (one_written admitted admitted') ∙ sym is'

pub admitted_apart_is_merged : (V W : Type 0) → AdmittedApartIsMerged V W
admitted_apart_is_merged V W = λ schema request served admitted.
    ap response_at (apart_is_merged V W Conflict served (written_of schema request admitted) told (no_conflicts_written schema request admitted))

module _ {R Own World Future : Type 0} (set : Resolving R Own World Future) where
  pub alike_sets : AlikeSets set
  alike_sets = λ one other schema request rules world.
      let same : served_by set one ≡ served_by set other
      = λ i. record { answer = set.answer (rules i); effect = set.effect (rules i); world = world i } in
      record {
        responses = λ r s a b. one_response schema request (served_by set other) r s
            (subst (λ (served : Served Own World). IsResponseTo schema request served r) same a) b;
        worlds = λ r s a b. one_world schema request (served_by set other) r s
            (subst (λ (served : Served Own World). IsWorldAfter schema request served r) same a) b;
      }
