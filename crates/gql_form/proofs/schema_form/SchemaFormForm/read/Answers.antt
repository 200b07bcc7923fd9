use Rattle.std.proofs.Common.{rules, ap, ◌∙◌, ◌≡◌, codes, Ok, subst}
use Rattle.serde_json.specs.View.{view}
use Rattle.gql_form.specs.Asked.{asked_after}
use Rattle.gql_form.specs.Faults.{IsRead}
use Rattle.gql_form.specs.Plain.{text_of}
use Rattle.gql_form.specs.Read.{each, member, only_then, optional}
use Rattle.gql_form.specs.SchemaForm.{schema_words, settings_of, settings_words}
use Rattle.gql_form.specs.TypeForm.{type_of}
use Rattle.gql_form.specs.declared.schema_form.SchemaForm.{SchemaForm}
use Rattle.gql_form.proofs.AskedLemmas.{also_asked}
use Rattle.gql_form.proofs.SchemaFormLemmas.{schema_read}
use Rattle.gql_form.proofs.schema_form.SchemaFormForm.read.Goals as goal

pub returns : goal.returns
returns c =
    let json = view c.args.json.now in
    let form : SchemaForm = record {
      query = c.in_ok-query.query;
      mutation = c.in_ok-mutation.mutation;
      subscription = c.in_ok-subscription.subscription;
      types = c.in_ok-types.types;
      settings = c.in_ok-settings.settings;
    } in
    let query : member (codes "query") text_of json ≡ Ok form.query = search rules in
    let mutation : optional (codes "mutation") text_of json ≡ Ok form.mutation = search rules in
    let subscription : optional (codes "subscription") text_of json ≡ Ok form.subscription = search rules in
    let types : member (codes "types") (each (type_of c.args.reader.cells)) json ≡ Ok form.types = search rules in
    let settings : settings_of json ≡ Ok form.settings = search rules in
    let asked : c.read_settings.new.members.asked ≡ schema_words = c.in_ok-settings.ensures.asked
    ∙ ap (λ names. asked_after names settings_words)
    (also_asked _ c.in_ok-types.ensures.asked
    (also_asked _ c.in_ok-subscription.ensures.asked
    (also_asked _ c.in_ok-mutation.ensures.asked
    (also_asked _ c.in_ok-query.ensures.asked c.of-members.ensures.asked)))) in
    let object : view c.read_settings.new.members.json.now ≡ json = search rules in
    schema_read c.args.reader.cells json form c.no_others.result query mutation subscription types settings
    (subst (λ names. IsRead c.no_others.result (only_then names json form)) asked
    (subst (λ read. IsRead c.no_others.result (only_then c.read_settings.new.members.asked read form)) object c.no_others.ensures))
