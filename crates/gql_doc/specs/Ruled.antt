-- What the reading of a text's tokens gives, once its tree is looked at by the rules on operations
-- and names.
use Rattle.std.specs.Prelude.{List, Option, Some, None, Result, Ok, Err}
use Rattle.gql_doc.specs.declared.document.ExecutableDocument.{ExecutableDocument}
use Rattle.gql_doc.specs.declared.fault.ParseFault.{ParseFault}
use Rattle.gql_doc.specs.declared.tree.DefinitionTree.{DefinitionTree}
use Rattle.gql_doc.specs.Words.{Tokens}
use Rattle.gql_doc.specs.Reading.{parsed_by, document}
use Rattle.gql_doc.specs.Building.{document_of}
use Rattle.gql_doc.specs.Spelled.{rule_fault}

-- what a tree gives: its fault against the rules, or its document
abbrev pub ruled_by : Option ParseFault → ExecutableDocument → Result ExecutableDocument ParseFault
ruled_by (Some fault) made = Err fault
ruled_by None made = Ok made

abbrev pub ruled : List DefinitionTree → Result ExecutableDocument ParseFault
ruled tree = ruled_by (rule_fault tree) (document_of tree)

-- what the reading of tokens gives
abbrev pub then_ruled : Result (List DefinitionTree) ParseFault
    → Result ExecutableDocument ParseFault
then_ruled (Ok tree) = ruled tree
then_ruled (Err fault) = Err fault

abbrev pub query_of : Tokens → Result ExecutableDocument ParseFault
query_of tokens = then_ruled (parsed_by document tokens)
