use Rattle.std.proofs.Common.{subst}
use Rattle.gql_bench.specs.Bench.{IsBenchOf}
use Rattle.gql_cli.proofs.LoadLemmas.{load_gives}
use Rattle.gql_cli.proofs.LoadTable.{never_refused, rules_below}
use Rattle.gql_cli.specs.Answer.{IsAnswerTo}
use Rattle.gql_form.specs.declared.bench_form.BenchForm.{BenchForm}
use Rattle.gql_cli.proofs.load.load_outcome.Goals as goal

pub bench_over-requires : goal.bench_over-requires
bench_over-requires g c = rules_below c.args.rows c.in_ok-form.form c.in_ok-form.ensures

pub unreachable-requires : goal.unreachable-requires
unreachable-requires g c =
    let (set, held, answers) = c.in_ok-response.ensures in
    let bench = c.in_ok-bench.bench in
    never_refused c.args.rows bench (subst (λ (form : BenchForm). IsBenchOf form bench) c.in_ok-form.ensures c.in_ok-bench.ensures) c.in-BadSchema.field-0
    (subst (IsAnswerTo bench (g.M.Set.ResolverSet.told set)) c.in-BadSchema.is answers)

pub returns : goal.returns
returns g c =
    let (set, held, answers) = c.in_ok-response.ensures in
    let bench = c.in_ok-bench.bench in
    load_gives c.args.rows bench (subst (λ (form : BenchForm). IsBenchOf form bench) c.in_ok-form.ensures c.in_ok-bench.ensures) g.M.Set.ResolverSet.told
    (g.M.Tables.held c.answer_by.new.tables) set held c.told.result.now c.told.ensures c.in-Response.response
    (subst (IsAnswerTo bench (g.M.Set.ResolverSet.told set)) c.in-Response.is answers) _ c.in_ok-line-in-Response.ensures
