-- What a parameter of a field gives at an input type.
use Rattle.std.specs.Prelude.{◌≡◌, ℕ, List, [], ◌∷◌, Option, Some, None, Result, Ok, Err}
use Rattle.gql_base.specs.declared.pos.Pos.{Pos}
use Rattle.gql_base.specs.declared.server_error.ServerError.{ServerError}
use Rattle.gql_base.specs.declared.value.Value.{Value}
use Rattle.gql_doc.specs.Document.{argument_named}
use Rattle.gql_doc.specs.declared.document.Argument.{Argument}
use Rattle.gql_doc.specs.declared.document.Field.{Field, out-Field}
use Rattle.gql_input.specs.InputValueError.{Refusal}
use Rattle.gql_request.specs.declared.query_env.QueryEnv.{QueryEnv}
use Rattle.gql_resolve.specs.Variables.{value_at}

-- the place of what stands nowhere in the document
abbrev pub nowhere : Pos
nowhere = record { line = 0; column = 0 }

-- that a reading gave what is due: the value with its place, or an error of one place that tells the
-- refusal, with its extensions
abbrev pub IsReadAt : {T : Type 0} → Pos → Result T Refusal → Result (Pos × T) ServerError → Type 0
IsReadAt pos (Ok due) (Ok given) = given ≡ (pos, due)
IsReadAt pos (Ok due) (Err error) = ⊥
IsReadAt pos (Err refusal) (Ok given) = ⊥
IsReadAt pos (Err refusal) (Err error) =
    (error.message ≡ refusal.message)
    × (error.locations ≡ pos ∷ [])
    × (error.path ≡ [])
    × (error.extensions ≡ refusal.extensions)

module _ {T : Type 0} (read : Option Value → Result T Refusal) where
  -- what comes of an argument's value, if its variables are defined
  abbrev pub IsReadOf : Pos → Result Value ServerError → Result (Pos × T) ServerError → Type 0
  IsReadOf pos (Ok value) given = IsReadAt pos (read (Some value)) given
  IsReadOf pos (Err error) given = given ≡ Err error

  -- what comes of a written argument, or of none: a default is given as it is
  abbrev pub IsParameterOf : QueryEnv → Option Argument → Option T
      → Result (Pos × T) ServerError → Type 0
  IsParameterOf env (Some argument) default given =
      IsReadOf argument.value.pos (value_at env argument.value.pos argument.value.node) given
  IsParameterOf env None (Some default) given = given ≡ Ok (nowhere, default)
  IsParameterOf env None None given = IsReadAt nowhere (read None) given

  -- what comes of the parameter of a name: the first argument of that name counts
  abbrev pub IsParameter : QueryEnv → Field → List ℕ → Option T → Result (Pos × T) ServerError
      → Type 0
  IsParameter env field name default given =
      IsParameterOf env (argument_named name (out-Field field).arguments) default given
