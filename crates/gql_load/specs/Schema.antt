-- The schema of the bench: `Query { rows: [Row!]! }` and `Row { id: Int!, tag: String }`.
use Rattle.std.specs.Prelude.{ℕ, false, List, [], ◌∷◌, codes, None}
use Rattle.gql_base.specs.declared.type_ref.TypeRef.{TypeRef}
use Rattle.gql_base.specs.declared.type_ref.TypeRef.TheVariants.{List as ListOf, Named, NonNull}
use Rattle.gql_base.specs.declared.value.Value.TheVariants as value
use Rattle.gql_form.specs.declared.answered.Answered as answered
use Rattle.gql_form.specs.declared.fields.FieldForm.{FieldForm}
use Rattle.gql_form.specs.declared.rule_form.RuleForm.{RuleForm}
use Rattle.gql_form.specs.declared.rule_form.RuleForm.TheVariants as rule
use Rattle.gql_form.specs.declared.schema_form.SchemaForm.{SchemaForm}
use Rattle.gql_form.specs.declared.schema_form.Settings.{Settings}
use Rattle.gql_form.specs.declared.type_form.TypeForm.{TypeForm}
use Rattle.gql_form.specs.declared.type_form.TypeForm.TheVariants as types
use Rattle.gql_request.specs.declared.query_env.IntrospectionMode.TheVariants.{Enabled}
use Rattle.gql_load.specs.Rows.{load_rows}

-- a field that a rule answers at once, with nothing beside the answer
abbrev pub field_by : TypeRef → RuleForm → FieldForm
field_by ty rule =
    record {
      ty = ty;
      args = [];
      answer = record { delay = record { polls = 0 }; added = []; headers = []; rule = rule };
    }

-- an object type of these fields, with nothing beside them
abbrev pub object_of : List ℕ → List (List ℕ × FieldForm) → TypeForm
object_of name fields =
    types.Object (record { name = name; interfaces = []; key = None; fields = fields })

-- `Query { rows: [Row!]! }`, whose field answers the constant list of so many rows
abbrev pub query_type : ℕ → TypeForm
query_type rows =
    object_of (codes "Query")
    ((
      codes "rows",
      field_by (NonNull (ListOf (NonNull (Named (codes "Row")))))
          (rule.Const (answered.Value (value.List (load_rows rows)))),
    ) ∷ [])

-- `Row { id: Int!, tag: String }`, whose fields answer their members
abbrev pub row_type : TypeForm
row_type =
    object_of (codes "Row")
    ((codes "id", field_by (NonNull (Named (codes "Int"))) (rule.Member (codes "id")))
    ∷ (codes "tag", field_by (Named (codes "String")) (rule.Member (codes "tag"))) ∷ [])

-- no limit is set, and nothing is added
abbrev pub load_settings : Settings
load_settings =
    record {
      depth = None;
      directives = None;
      introspection = Enabled;
      federation = false;
      entities = false;
    }

-- the schema with so many rows
abbrev pub load_schema : ℕ → SchemaForm
load_schema rows =
    record {
      query = codes "Query";
      mutation = None;
      subscription = None;
      types = query_type rows ∷ row_type ∷ [];
      settings = load_settings;
    }
