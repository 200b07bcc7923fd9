-- Which values of a document come to true.
use Rattle.std.proofs.Common.{rules, ◌≡◌, ℕ, ℤ, Bool, false, List}
use Rattle.gql_base.specs.declared.value.Value.{Value, the_lemmas as value_lemmas}
use Rattle.gql_doc.specs.declared.document.DocValue.{DocValue, the_lemmas as doc_lemmas}
use Rattle.gql_doc.specs.declared.document.DocValue.TheVariants as doc
use Rattle.gql_select.specs.Constants.{resolved}
use Rattle.gql_select.specs.Kept.{is_truth}

module _ (known : List ℕ → Value) where
  pub boolean_truth : (truth : Bool) → truth ≡ is_truth (resolved known (doc.Boolean truth))
  boolean_truth truth = search (rules, doc_lemmas, value_lemmas)

  pub null_truth : false ≡ is_truth (resolved known doc.Null)
  null_truth = search (rules, doc_lemmas, value_lemmas)

  pub number_truth : (number : ℤ) → false ≡ is_truth (resolved known (doc.Number number))
  number_truth number = search (rules, doc_lemmas, value_lemmas)

  pub string_truth : (text : List ℕ) → false ≡ is_truth (resolved known (doc.String text))
  string_truth text = search (rules, doc_lemmas, value_lemmas)

  pub enum_truth : (name : List ℕ) → false ≡ is_truth (resolved known (doc.Enum name))
  enum_truth name = search (rules, doc_lemmas, value_lemmas)

  pub list_truth : (values : List DocValue) → false ≡ is_truth (resolved known (doc.List values))
  list_truth values = search (rules, doc_lemmas, value_lemmas)

  pub object_truth : (members : List (List ℕ × DocValue)) → false ≡ is_truth (resolved known (doc.Object members))
  object_truth members = search (rules, doc_lemmas, value_lemmas)
