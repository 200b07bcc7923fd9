-- Which benches are built. Each of the forms below isn't yet; a bench without them is.
use Rattle.std.specs.Prelude.{Bool, true, false, ◌&&◌, ◌||◌, not, is_some}
use Rattle.std.specs.List.{list_any}
use Rattle.gql_form.specs.declared.bench_form.BenchForm.{BenchForm}
use Rattle.gql_form.specs.declared.schema_form.SchemaForm.{SchemaForm}
use Rattle.gql_form.specs.declared.setup_form.HooksForm.{HooksForm}
use Rattle.gql_form.specs.declared.setup_form.HooksForm.TheVariants as hooks
use Rattle.gql_form.specs.declared.type_form.TypeForm.{TypeForm}
use Rattle.gql_form.specs.declared.type_form.TypeForm.TheVariants as types
use Rattle.gql_form.specs.declared.work_form.WorkForm.{WorkForm}
use Rattle.gql_form.specs.declared.work_form.WorkForm.TheVariants as work
use Rattle.gql_bench.specs.declared.bench.Bench.{Bench}
use Rattle.gql_bench.specs.declared.rule.Rule.{Rule}
use Rattle.gql_bench.specs.declared.rule.RuleKind.{RuleKind}
use Rattle.gql_bench.specs.declared.rule.RuleKind.TheVariants as kinds

-- hooks that log each stage
abbrev pub is_logged : HooksForm → Bool
is_logged hooks.None = false
is_logged hooks.Log = true

-- a type of the kind `subscription`
abbrev pub is_subscription : TypeForm → Bool
is_subscription (types.Subscription form) = true
is_subscription _ = false

-- a subscription root's name, or a type of the kind `subscription`
abbrev pub has_subscription : SchemaForm → Bool
has_subscription schema = is_some schema.subscription || list_any is_subscription schema.types

-- the rule `bump`, by which a resolver may change a cell
abbrev pub is_bump : RuleKind → Bool
is_bump (kinds.Bump place) = true
is_bump _ = false

-- the same of a resolver's rule
abbrev pub bumps : Rule → Bool
bumps rule = is_bump rule.kind

-- a request or a batch of them, and no session
abbrev pub has_requests : WorkForm → Bool
has_requests (work.One request) = true
has_requests (work.Batch requests) = true
has_requests (work.Session session) = false

-- a bench with none of these forms
abbrev pub is_built_form : BenchForm → Bool
is_built_form form =
    (not (is_logged form.setup.hooks) && has_requests form.work)
    && not (has_subscription form.setup.schema)

-- whether a bench was made of such a form
abbrev pub is_built : Bench → Bool
is_built bench = bench.built
