-- What a plan tells of its tasks.
use Rattle.std.specs.Prelude.{ℕ, ◌≡◌, ◌++◌, List, Option, length, option_map}
use Rattle.std.specs.Option.{option_copied}
use Rattle.gql_base.specs.declared.path_segment.PathSegment.{PathSegment}
use Rattle.gql_base.specs.declared.type_ref.TypeRef.{TypeRef}
use Rattle.gql_doc.specs.declared.document.Field.{Field, out-Field}
use Rattle.gql_request.specs.declared.query_env.QueryEnv.{QueryEnv}
use Rattle.gql_request.specs.declared.resolve_info.ResolveInfo.{ResolveInfo}
use Rattle.gql_resolve.specs.Call.{Call, call_of}
use Rattle.gql_resolve.specs.declared.resolver_context.ResolverContext.{ResolverContext}

-- what a task asks: its call, the path to its field, the field as it stands in the document, the
-- environment of the query, the name of the object type that has the field, and the field's type
pub record Asking (V : Type 0) : Type 0 where
  pub call : Call V
  pub segments : List PathSegment
  pub item : Field
  pub env : QueryEnv
  pub parent : List ℕ
  pub ty : TypeRef

-- more tasks stand after those that were made, and their number is told
abbrev pub HasMade : {Task : Type 0} → List Task → List Task → List Task → ℕ → Type 0
HasMade old new more count = (new ≡ old ++ more) × (count ≡ length more)

-- a context is that of a task by its number and what it asks
pub record IsContextOf {V : Type 0} (number : ℕ) (asks : Asking V)
    (context : ResolverContext V) : Type 0 where
  pub call_is : call_of context ≡ asks.call
  pub task_is : context.task ≡ number
  pub segments_is : context.path_node.segments.now ≡ asks.segments
  pub item_is : context.item.now ≡ asks.item
  pub env_is : context.env.now ≡ asks.env

-- the name of a field
abbrev pub name_in : Field → List ℕ
name_in field = (out-Field field).name.node

-- its alias, where it has one
abbrev pub alias_in : Field → Option (List ℕ)
alias_in field = option_map (λ alias. alias.node) (out-Field field).alias

-- what the hooks of a task are told of it is what it asks
pub record IsInfoOf {V : Type 0} (asks : Asking V) (info : ResolveInfo) : Type 0 where
  pub segments_is : info.path_node.segments.now ≡ asks.segments
  pub parent_is : info.parent_type.now ≡ asks.parent
  pub type_is : info.return_type.now ≡ asks.ty
  pub name_is : info.name.now ≡ name_in asks.item
  pub alias_is : option_copied info.alias ≡ alias_in asks.item
  pub field_is : info.field.now ≡ asks.item
