use denote.Exit.{no, yes}
use denote.Param.{param}
use denote.Param.Send.{arg_send, arg_sync, param_send, param_sync}
use Rattle.std.proofs.Common.{◌≡◌, List, Result, Some, slice_get, subst, sym, ◌∙◌}
use Rattle.std.proofs.lemmas.Option.{get_or_from_slice_get, slice_get_within}
use Rattle.gql_serve.proofs.SendLemmas.{answer_send, borrowed_sync, work_send}
use Rattle.gql_serve.specs.Threads.{IsAnswer}
use Rattle.gql_serve.proofs.threads.execute_batch_threads.Goals as goal

pub returns-clause-each : goal.returns-clause-each
returns-clause-each g c = λ i work answer at there.
    let job = (c.in_ok-answers.ensures.each i answer (slice_get_within c.args.work.items i work at)).1 in
    let is : job.job ≡ work = sym (job.job_is work) ∙ get_or_from_slice_get c.args.work.items i work work at in
    let found : slice_get c.in_ok-answers.answers.items i ≡ Some answer
    = subst (λ (answers : List (Result _ _)). slice_get answers i ≡ Some answer) c.from_vec.ensures there in
    subst (λ w. IsAnswer g.R.ResolverSet g.P.Turns c.args.schema.now w answer) is
    (subst (λ a. IsAnswer g.R.ResolverSet g.P.Turns c.args.schema.now job.job a)
    (get_or_from_slice_get c.in_ok-answers.answers.items i answer answer found) job.call.met)

pub map_vec-requires-send-J : goal.map_vec-requires-send-J
map_vec-requires-send-J g c κs within = param_send _ _ (arg_send _ no _
    (work_send (param 0 g.row.R) (param 1 g.row.P) (param 3 g.row.R-Own) (param 4 g.row.R-World) (param 5 g.row.R-Future)
    c.type_bounds.send-R c.type_bounds.send-P c.type_bounds.send-R-Own c.type_bounds.send-R-World c.type_bounds.send-R-Future))

pub map_vec-requires-send-X : goal.map_vec-requires-send-X
map_vec-requires-send-X g c κs within = param_send _ _ (arg_send _ yes _ answer_send)

pub map_vec-requires-sync-F : goal.map_vec-requires-sync-F
map_vec-requires-sync-F g c κs within = param_sync _ _ (arg_sync _ no _ (borrowed_sync _ _ _))
