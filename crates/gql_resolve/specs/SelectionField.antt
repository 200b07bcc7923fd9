-- What a field of a query shows.
use Rattle.std.specs.Prelude.{ℕ, List, [], ◌∷◌, map, Option, option_map, Result, Ok, Err}
use Rattle.gql_base.specs.declared.server_error.ServerError.{ServerError}
use Rattle.gql_base.specs.declared.value.Value.{Value}
use Rattle.gql_doc.specs.declared.document.Argument.{Argument}
use Rattle.gql_doc.specs.declared.document.Directive.{Directive}
use Rattle.gql_doc.specs.declared.document.Field.{Field, out-Field}
use Rattle.gql_doc.specs.declared.document.Positioned.{Positioned}
use Rattle.gql_request.specs.declared.query_env.QueryEnv.{QueryEnv}
use Rattle.gql_resolve.specs.Beneath.{Seen}
use Rattle.gql_resolve.specs.Variables.{value_at}
use Rattle.gql_resolve.specs.declared.const_directive.ConstDirective.{ConstDirective}
use Rattle.gql_resolve.specs.declared.selection_field.SelectionField.{SelectionField}

-- the field that it is, in its query
abbrev pub seen_of : SelectionField → Seen
seen_of field = record { field = field.field.now; env = field.env.now }

abbrev pub all_seen : List SelectionField → List Seen
all_seen fields = map seen_of fields

abbrev pub alias_of : Field → Option (List ℕ)
alias_of field = option_map (λ alias. alias.node) (out-Field field).alias

abbrev pub ok_map : {A B E : Type 0} → (A → B) → Result A E → Result B E
ok_map f (Ok x) = Ok (f x)
ok_map f (Err e) = Err e

-- this, in front of what comes of others
abbrev pub ok_in_front : {A E : Type 0} → Result A E → Result (List A) E → Result (List A) E
ok_in_front (Ok x) others = ok_map (λ xs. x ∷ xs) others
ok_in_front (Err e) others = Err e

-- what comes of each, or the first refusal
abbrev pub all_ok : {A B E : Type 0} → (A → Result B E) → List A → Result (List B) E
all_ok f [] = Ok []
all_ok f (x ∷ xs) = ok_in_front (f x) (all_ok f xs)

-- an argument with its value; a refusal has the place of its name
abbrev pub argument_in : QueryEnv → Argument → Result (List ℕ × Value) ServerError
argument_in env argument =
    ok_map (λ value. (argument.name.node, value))
    (value_at env argument.name.pos argument.value.node)

-- the arguments as they are written, or the first refusal
abbrev pub arguments_in : QueryEnv → List Argument → Result (List (List ℕ × Value)) ServerError
arguments_in env arguments = all_ok (argument_in env) arguments

-- an argument with its value, each at its place
abbrev pub placed_argument : QueryEnv → Argument
    → Result (Positioned (List ℕ) × Positioned Value) ServerError
placed_argument env argument =
    ok_map (λ value. (argument.name, record { pos = argument.value.pos; node = value }))
    (value_at env argument.name.pos argument.value.node)

abbrev pub placed_arguments : QueryEnv → List Argument
    → Result (List (Positioned (List ℕ) × Positioned Value)) ServerError
placed_arguments env arguments = all_ok (placed_argument env) arguments

-- a directive with the values of its arguments
abbrev pub directive_in : QueryEnv → Positioned Directive → Result ConstDirective ServerError
directive_in env directive =
    ok_map (λ arguments. record { name = directive.node.name; arguments = arguments })
    (placed_arguments env directive.node.arguments)

-- directives as they are written, or the first refusal
abbrev pub directives_in : QueryEnv → List (Positioned Directive)
    → Result (List ConstDirective) ServerError
directives_in env directives = all_ok (directive_in env) directives
