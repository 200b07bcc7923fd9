-- A schema is read by its members, one after another, and then by the names of them all.
use Rattle.std.proofs.Common.{◌≡◌, ℕ, List, Option, codes, Ok, Result, refl, subst, sym}
use Rattle.serde_json.specs.Data.{Data}
use Rattle.gql_form.specs.Faults.{IsRead}
use Rattle.gql_form.specs.Plain.{text_of}
use Rattle.gql_form.specs.Read.{each, member, only_then, optional}
use Rattle.gql_form.specs.SchemaForm.{schema_of, schema_words, settings_of}
use Rattle.gql_form.specs.TypeForm.{type_of}
use Rattle.gql_form.specs.declared.fault.Fault.{Fault}
use Rattle.gql_form.specs.declared.schema_form.SchemaForm.{SchemaForm}
use Rattle.gql_form.specs.declared.schema_form.Settings.{Settings}
use Rattle.gql_form.specs.declared.type_form.TypeForm.{TypeForm}

module _ (cells : ℕ) (json : Data) (form : SchemaForm) where
  schema_is : member (codes "query") text_of json ≡ Ok form.query → optional (codes "mutation") text_of json ≡ Ok form.mutation
      → optional (codes "subscription") text_of json ≡ Ok form.subscription → member (codes "types") (each (type_of cells)) json ≡ Ok form.types
      → settings_of json ≡ Ok form.settings → schema_of cells json ≡ only_then schema_words json form
  schema_is query mutation subscription types settings = rw (query, mutation, subscription, types, settings) refl

  -- a schema is read where its members are, and no other is there
  pub schema_read : (result : Result SchemaForm Fault) → member (codes "query") text_of json ≡ Ok form.query
      → optional (codes "mutation") text_of json ≡ Ok form.mutation → optional (codes "subscription") text_of json ≡ Ok form.subscription
      → member (codes "types") (each (type_of cells)) json ≡ Ok form.types → settings_of json ≡ Ok form.settings
      → IsRead result (only_then schema_words json form) → IsRead result (schema_of cells json)
  schema_read result query mutation subscription types settings =
      subst (λ reading. IsRead result reading) (sym (schema_is query mutation subscription types settings))
