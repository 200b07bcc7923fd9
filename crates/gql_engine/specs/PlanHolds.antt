-- What a plan holds of its tasks: the places of those with none under them, and what is kept of
-- the others.
use Rattle.std.specs.Prelude.{◌≡◌, ◌<◌, ◌⊎◌, ℕ, false, List, [], None, Ok}
use Rattle.gql_tasks.specs.declared.given.Given.{Given}
use Rattle.gql_tasks.specs.declared.given.Given.TheVariants.{Put}
use Rattle.gql_place.specs.declared.piece.Piece.{Piece}
use Rattle.gql_meaning.specs.Completion.{shape_of}
use Rattle.gql_resolve.specs.declared.answer.Answer.{Answer}
use Rattle.gql_schema.specs.Table.{types_of}
use Rattle.gql_collect.specs.Asks.{type_in}
use Rattle.gql_objects.specs.Assembly.{IsMadeAlone}
use Rattle.gql_complete.specs.CompleteValue.{data_in}
use Rattle.gql_complete.specs.Data.{IsData}
use Rattle.gql_engine.specs.GivenTasks.{IsFilledWith, made_beneath}
use Rattle.gql_collect.specs.GroupFields.{keeps_whole}
use Rattle.gql_objects.specs.Jobs.{Job}
use Rattle.gql_objects.specs.PlaceStore.{IsStored, Store}
use Rattle.gql_objects.specs.declared.assembly.kept.Filled.{Filled}
use Rattle.gql_collect.specs.declared.level.Node.{Node}

module _ {V : Type 0} where
  -- what a task was given last is stored
  abbrev pub HoldsGiven : List (Job V) → Store (Filled V) Piece → ℕ → Given V → Type 0
  HoldsGiven jobs store number given =
      IsStored (IsFilledWith given) (made_beneath given) IsMadeAlone jobs store number

  -- or it was given away: then it is of an earlier phase
  abbrev pub HoldsSince : ℕ → List (Job V) → Store (Filled V) Piece → ℕ → Given V → Type 0
  HoldsSince base jobs store number given =
      ((number < base) × (given ≡ Put (Ok None))) ⊎ HoldsGiven jobs store number given

  -- with what a task was given it came to no object, and this is kept of its place
  pub record ComesAlone (given : Given V) (job : Job V) (piece : Piece) : Type 0 where
    pub filled : Filled V
    pub fits : IsFilledWith given job filled
    pub none : filled.parents.items ≡ []
    pub made : IsMadeAlone filled piece

  -- an answer to a field is data as it stands, with nothing beside it, and its value is all that is
  -- kept of its place
  pub record IsDataAlone (node : Node) (answer : Answer V) : Type 0 where
    pub part : keeps_whole node.basis.grouping ≡ false
    pub added : answer.added ≡ []
    pub headers : answer.headers ≡ []
    pub comes : IsData (shape_of (types_of node.basis.types.now) (type_in node.asks) answer.result)
        (data_in answer.result)
