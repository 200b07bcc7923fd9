-- What hooks see, as plain data: two contexts, or two infos, that show the same are equal here,
-- wherever they point.
use Rattle.std.specs.Prelude.{ℕ, List, Option}
use Rattle.std.specs.Option.{option_copied}
use Rattle.gql_base.specs.declared.path_segment.PathSegment.{PathSegment}
use Rattle.gql_base.specs.declared.type_ref.TypeRef.{TypeRef}
use Rattle.gql_base.specs.declared.value.Value.{Value}
use Rattle.gql_doc.specs.declared.document.Field.{Field}
use Rattle.gql_request.specs.declared.extension_context.ExtensionContext.{ExtensionContext}
use Rattle.gql_request.specs.declared.resolve_info.ResolveInfo.{ResolveInfo}

-- what hooks are told of a field's resolver: the path to the field, the object type that has it, its
-- type, its name, its alias, if any, and the field as it stands in the document
pub record Info : Type 0 where
  pub segments : List PathSegment
  pub parent : List ℕ
  pub ty : TypeRef
  pub name : List ℕ
  pub alias : Option (List ℕ)
  pub field : Field

abbrev pub info_in : ResolveInfo → Info
info_in info = record {
  segments = info.path_node.segments.now;
  parent = info.parent_type.now;
  ty = info.return_type.now;
  name = info.name.now;
  alias = option_copied info.alias;
  field = info.field.now;
}

-- the data of the layers that hooks see: the schema's, the session's, and the request's, once it is
-- known
pub record SeenData : Type 0 where
  pub schema : List (ℕ × Value)
  pub session : List (ℕ × Value)
  pub query : Option (List (ℕ × Value))

abbrev pub data_in : ExtensionContext → SeenData
data_in context = record {
  schema = context.schema_data.now;
  session = context.session_data.now;
  query = option_copied context.query_data;
}
