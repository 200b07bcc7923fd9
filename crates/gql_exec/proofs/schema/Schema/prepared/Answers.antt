use Rattle.std.proofs.Common.{Ok, ap, subst}
use Rattle.gql_admit.specs.Prepared.{IsPrepared}
use Rattle.gql_exec.proofs.ReadyLemmas.{one_mode}
use Rattle.gql_exec.proofs.schema.Schema.prepared.Goals as goal

pub returns-in-Ok : goal.returns-in-Ok
returns-in-Ok c = record {
  prepared = Ok c.in-Ok.env;
  stages = subst (λ terms. IsPrepared terms c.args.request.now (Ok c.in-Ok.env)) c.site-site.ensures.terms (rw c.in-Ok.is at c.in_ok-env.ensures);
  is = ap Ok (one_mode c.in-Ok.env _ _ c.mode-env.ensures _ _ _ _);
}
