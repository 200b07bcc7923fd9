-- What a resolver's answer may depend on. A task's number, the path, the alias and what is selected
-- under are no part of it.
use Rattle.std.specs.Prelude.{ℕ, Bool, true, false, ◌&&◌, List, [], ◌∷◌}
use Rattle.gql_base.specs.declared.value.Value.{Value}
use Rattle.gql_doc.specs.declared.document.OperationType.{OperationType}
use Rattle.gql_doc.specs.declared.document.OperationType.TheVariants.{Query, Mutation, Subscription}
use Rattle.gql_input.specs.Accessor.{members_behind}
use Rattle.gql_resolve.specs.declared.field_value.FieldValue.{FieldValue}
use Rattle.gql_resolve.specs.declared.resolver_context.ResolverContext.{ResolverContext}
use Rattle.gql_resolve.specs.Layers.{layers_of}

pub record Call (V : Type 0) : Type 0 where
  -- whether it is for a root key of a mutation
  pub is_root : Bool
  -- the number of the resolver
  pub resolver : ℕ
  -- what the resolver above gave, or the root value
  pub parent : FieldValue V
  -- the arguments under their names
  pub arguments : List (List ℕ × Value)
  -- the data of each layer, in the order of search
  pub layers : List (List (ℕ × Value))

abbrev pub is_mutation : OperationType → Bool
is_mutation Query = false
is_mutation Mutation = true
is_mutation Subscription = false

abbrev pub is_single : {A : Type 0} → List A → Bool
is_single [] = false
is_single (x ∷ []) = true
is_single (x ∷ y ∷ ys) = false

-- the call that a context makes: it is for a root key of a mutation where the operation is a
-- mutation and the path has one segment
abbrev pub call_of : {V : Type 0} → ResolverContext V → Call V
call_of context =
    record {
      is_root =
          is_mutation context.env.now.operation.node.ty && is_single context.path_node.segments.now;
      resolver = context.resolver;
      parent = context.parent_value.now;
      arguments = members_behind context.args;
      layers = layers_of context.layers;
    }
