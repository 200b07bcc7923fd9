use Rattle.std.proofs.Common.{◌≡◌, ℕ, List, IfOk, subst}
use Rattle.gql_doc.specs.declared.document.Argument.{Argument}
use Rattle.gql_collect.specs.TableSetting.{field_in}
use Rattle.gql_resolve.specs.Variables.{known_in}
use Rattle.gql_select.specs.Alike.{name_of}
use Rattle.gql_collect.specs.Asks.{asks_of_declared}
use Rattle.gql_collect.specs.Basis.{schema_of}
use Rattle.gql_collect.proofs.asks_for.ask_resolved.Goals as goal

pub returns : goal.returns
returns c =
    let asks_by : List ℕ → List Argument → Type 0 = λ name written. IfOk c.ask_named.result
    (λ asks. asks ≡ asks_of_declared (known_in c.args.basis.now.env.now) (field_in (schema_of c.args.basis.now) c.args.object.now name) written) in
    subst (λ written. asks_by (name_of c.args.field.now) written) c.as_slice-written.ensures
    (subst (λ name. asks_by name c.as_slice-written.result.now) c.as_str-name.ensures c.ask_named.ensures)
