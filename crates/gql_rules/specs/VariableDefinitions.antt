-- What is told of the definitions of variables (GraphQL, October 2021, sections 5.6.1, 5.8.1, 5.8.2
-- and 6.1.2).
use Rattle.std.specs.Prelude.{ℕ, Bool, true, ◌||◌, List, [], ◌∷◌, ◌++◌, Option, Some, None}
use Rattle.std.specs.Prelude.{is_some, if◌then◌else◌}
use Rattle.std.specs.List.{flat_map}
use Rattle.gql_base.specs.Pairs.{under}
use Rattle.gql_base.specs.TypeRef.{is_nullable}
use Rattle.gql_base.specs.declared.type_ref.TypeRef.{TypeRef}
use Rattle.gql_base.specs.declared.value.Value.{Value}
use Rattle.gql_doc.specs.Depth.{operations_in}
use Rattle.gql_doc.specs.declared.document.DocumentOperations.{DocumentOperations}
use Rattle.gql_doc.specs.declared.document.OperationDefinition.{OperationDefinition}
use Rattle.gql_doc.specs.declared.document.Positioned.{Positioned}
use Rattle.gql_doc.specs.declared.document.VariableDefinition.{VariableDefinition}
use Rattle.gql_schema.specs.Fits.{fits, is_input_type}
use Rattle.gql_schema.specs.NameSet.{is_among}
use Rattle.gql_schema.specs.TableReading.{TypeTable}
use Rattle.gql_schema.specs.declared.schema_type.SchemaType.{SchemaType}
use Rattle.gql_fields.specs.Breach.{breach}
use Rattle.gql_fields.specs.GivenNames.{told_along}
use Rattle.gql_fields.specs.Places.{root_of}
use Rattle.gql_fields.specs.Terms.{Terms}
use Rattle.gql_fields.specs.declared.breach.Breach.{Breach}
use Rattle.gql_fields.specs.declared.breach.BreachKind.TheVariants as kinds
use Rattle.gql_rules.specs.Asked.{Asked}
use Rattle.gql_rules.specs.BreachTexts.{default_text, no_input_text, no_value_text, twice_text}
use Rattle.gql_rules.specs.ChosenOperation.{Operation, chosen}
use Rattle.gql_rules.specs.declared.definition_fault.DefinitionFault.{DefinitionFault}
use Rattle.gql_rules.specs.declared.definition_fault.DefinitionFault.TheVariants as faults

-- the values that a request gives, for an operation that it runs, and else none
abbrev pub Given : Type 0
Given = Option (List (List ℕ × Value))

abbrev pub fault_text : DefinitionFault → List ℕ → List ℕ
fault_text faults.Twice name = twice_text name
fault_text faults.NoInput name = no_input_text name
fault_text faults.Default name = default_text name
fault_text faults.NoValue name = no_value_text name

-- whether a value fits a type, and whether a default does, if there is one
abbrev pub default_fits : TypeTable → TypeRef → Option (Positioned Value) → Bool
default_fits table ty None = true
default_fits table ty (Some default) = fits table default.node ty

-- whether a variable may be left out
abbrev pub may_be_absent : VariableDefinition → Bool
may_be_absent definition = is_nullable definition.var_type.node || is_some definition.default

-- whether the value that is given for a variable fits, and whether the variable may be without one
abbrev pub value_fits : TypeTable → VariableDefinition → Option Value → Bool
value_fits table definition None = may_be_absent definition
value_fits table definition (Some value) = fits table value definition.var_type.node

-- whether a variable has a fitting value, where values are given
abbrev pub has_value : TypeTable → VariableDefinition → Given → Bool
has_value table definition None = true
has_value table definition (Some variables) =
    value_fits table definition (under definition.name.node variables)

-- what is wrong in a definition, where its name stands before or not
abbrev pub fault_of : TypeTable → Given → Bool → VariableDefinition → Option DefinitionFault
fault_of table given seen definition =
    if seen then Some faults.Twice else
    (if is_input_type table definition.var_type.node
    then (if default_fits table definition.var_type.node definition.default
    then (if has_value table definition given then None else Some faults.NoValue)
    else Some faults.Default)
    else Some faults.NoInput)

abbrev pub definition_name : Positioned VariableDefinition → List ℕ
definition_name definition = definition.node.name.node

abbrev pub told_of_fault : Positioned VariableDefinition → Option DefinitionFault → List Breach
told_of_fault definition None = []
told_of_fault definition (Some fault) =
    breach definition.pos kinds.Definition (definition_name definition)
    (fault_text fault (definition_name definition))
    ∷ []

-- what is told of an operation, where its kind has a root
abbrev pub where_rooted : Option SchemaType → List Breach → List Breach
where_rooted None told = []
where_rooted (Some root) told = told

module _ (table : TypeTable) (given : Given) where
  -- what is told of a definition after those of these names
  abbrev pub told_of_definition : (before : List (List ℕ)) → Positioned VariableDefinition
      → List Breach
  told_of_definition before definition =
      told_of_fault definition
      (fault_of table given (is_among (definition_name definition) before) definition.node)

  -- and of all of a list
  abbrev pub told_of_definitions : List (Positioned VariableDefinition) → List Breach
  told_of_definitions definitions =
      told_along definition_name told_of_definition [] definitions

module _ (terms : Terms) where
  abbrev pub told_of_operation : Given → Positioned OperationDefinition → List Breach
  told_of_operation given operation =
      where_rooted (root_of terms operation.node.ty)
      (told_of_definitions terms.table given operation.node.variable_definitions)

  -- of the operation that a request runs, if it can be chosen
  abbrev pub told_of_chosen : Given → Option Operation → List Breach
  told_of_chosen given None = []
  told_of_chosen given (Some operation) = told_of_operation given operation.1

  -- of all operations, and of the chosen one with the request's values
  abbrev pub told_of_variables : Asked → DocumentOperations → List Breach
  told_of_variables asked operations =
      flat_map (told_of_operation None) (operations_in operations)
      ++ told_of_chosen (Some asked.variables) (chosen operations asked.name)
