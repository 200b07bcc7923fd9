-- What a value of a document comes to in a query (GraphQL, October 2021, section 6.4.1), where its
-- operation defines the variables in it.
use Rattle.std.specs.Prelude.{ℕ, Bool, List, [], ◌∷◌, ◌++◌, map, Option, Some, None, Result, Ok, Err}
use Rattle.std.specs.Prelude.{codes, if◌then◌else◌}
use Rattle.std.specs.List.{list_any}
use Rattle.std.specs.Option.{option_or}
use Rattle.std.specs.Str.{bytes_eq}
use Rattle.gql_base.specs.Pairs.{values_of}
use Rattle.gql_base.specs.declared.pos.Pos.{Pos}
use Rattle.gql_base.specs.declared.server_error.ServerError.{ServerError}
use Rattle.gql_base.specs.declared.value.Value.{Value}
use Rattle.gql_doc.specs.declared.document.DocValue.{DocValue}
use Rattle.gql_doc.specs.declared.document.DocValue.TheOpen.{DocValue-F}
use Rattle.gql_doc.specs.declared.document.DocValue.TheFolds.{fold-DocValue}
use Rattle.gql_request.specs.declared.query_env.QueryEnv.{QueryEnv}
use Rattle.gql_select.specs.Constants.{resolved, variable_value}

-- whether the operation defines a variable
abbrev pub is_defined : QueryEnv → List ℕ → Bool
is_defined env name = list_any (λ definition. bytes_eq definition.node.name.node name)
    env.operation.node.variable_definitions

-- what the variables stand for: the request's value, else the default, else null
abbrev pub known_in : QueryEnv → List ℕ → Value
known_in env = variable_value env.variables env.operation.node.variable_definitions

-- the first that is there
abbrev pub first_some : {A : Type 0} → List (Option A) → Option A
first_some [] = None
first_some (found ∷ others) = option_or found (first_some others)

-- a variable that isn't defined
abbrev pub unless_defined : QueryEnv → List ℕ → Option (List ℕ)
unless_defined env name = if is_defined env name then None else Some name

-- the first variable of a value that isn't defined, in the order of the document
abbrev pub unknown_step : QueryEnv → DocValue-F (Option (List ℕ)) → Option (List ℕ)
unknown_step env (DocValue-F.Variable name) = unless_defined env name
unknown_step env DocValue-F.Null = None
unknown_step env (DocValue-F.Boolean truth) = None
unknown_step env (DocValue-F.Number number) = None
unknown_step env (DocValue-F.String text) = None
unknown_step env (DocValue-F.Enum name) = None
unknown_step env (DocValue-F.List items) = first_some items
unknown_step env (DocValue-F.Object members) = first_some (values_of members)

abbrev pub unknown_in : QueryEnv → DocValue → Option (List ℕ)
unknown_in env = fold-DocValue (Option (List ℕ)) (unknown_step env)

-- that of some values, and of the members of an object
abbrev pub unknown_items : QueryEnv → List DocValue → Option (List ℕ)
unknown_items env items = first_some (map (unknown_in env) items)

abbrev pub unknown_members : QueryEnv → List (List ℕ × DocValue) → Option (List ℕ)
unknown_members env members =
    first_some (values_of (map (λ member. (member.0, unknown_in env member.1)) members))

-- members, with what their variables stand for
abbrev pub resolved_members : (List ℕ → Value) → List (List ℕ × DocValue) → List (List ℕ × Value)
resolved_members known members = map (λ member. (member.0, resolved known member.1)) members

unfoldable pub not_defined_text : List ℕ → List ℕ
not_defined_text name = codes "Variable " ++ (name ++ codes " is not defined.")

-- the refusal of a variable that isn't defined, at a place and without path
abbrev pub not_defined : List ℕ → Pos → ServerError
not_defined name pos =
    record { message = not_defined_text name; locations = pos ∷ []; path = []; extensions = None }

abbrev pub value_or : Option (List ℕ) → Pos → Value → Result Value ServerError
value_or None pos value = Ok value
value_or (Some name) pos value = Err (not_defined name pos)

-- the value with what its variables stand for, or the refusal of its first variable that isn't
-- defined, at a place
abbrev pub value_at : QueryEnv → Pos → DocValue → Result Value ServerError
value_at env pos written =
    value_or (unknown_in env written) pos (resolved (known_in env) written)
