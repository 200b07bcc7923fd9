use Rattle.std.proofs.Common.{[], ap, subst, sym, ◌∙◌}
use Rattle.gql_cli.proofs.GivesLemmas.{response_gives}
use Rattle.gql_cli.specs.Answer.{IsAnswerTo}
use Rattle.gql_cli.specs.Gives.{schema_line}
use Rattle.gql_cli.proofs.bench_outcome.bench_outcome.Goals as goal

pub returns-in-Response : goal.returns-in-Response
returns-in-Response g c =
    let (set, held, answers) = c.in_ok-response.ensures in
    response_gives c.args.command c.args.bench g.M.Set.ResolverSet.told (g.M.Tables.held c.answer_by.new.tables) set held c.told.result.now c.told.ensures
    (sym c.if-not-is_built.ensures) c.in-Response.response
    (subst (IsAnswerTo c.args.bench (g.M.Set.ResolverSet.told set)) c.in-Response.is answers) c.response_outcome.result c.response_outcome.ensures

pub returns-in_ok-line-in-BadSchema : goal.returns-in_ok-line-in-BadSchema
returns-in_ok-line-in-BadSchema g c =
    let line = c.in_ok-line-in-BadSchema.ensures ∙ ap schema_line c.as_str.ensures in
    let (set, held, answers) = c.in_ok-response.ensures in (
      [],
      record {
        built = sym c.if-not-is_built.ensures;
        why = c.in-BadSchema.text;
        refused = subst (IsAnswerTo c.args.bench (g.M.Set.ResolverSet.told set)) c.in-BadSchema.is answers;
        is = line;
      },
      tt,
    )
