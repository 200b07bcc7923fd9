-- Which document a text spells, and which fault is the first one of a text that spells none.
use Rattle.std.specs.Prelude.{◌≡◌, ℕ, ◌⊎◌, List, Option, Some, None, Result, Ok, Err}
use Rattle.gql_base.specs.declared.pos.Pos.{Pos}
use Rattle.gql_base.specs.declared.type_ref.TypeRef.{TypeRef}
use Rattle.gql_tokens.specs.Place.{text_start}
use Rattle.gql_tokens.specs.Lexer.{Lexes}
use Rattle.gql_doc.specs.declared.document.ExecutableDocument.{ExecutableDocument}
use Rattle.gql_doc.specs.declared.fault.ParseFault.{ParseFault}
use Rattle.gql_doc.specs.declared.fault.ParseKind.TheVariants.{Operations, Doubled}
use Rattle.gql_doc.specs.declared.tree.DefinitionTree.{DefinitionTree}
use Rattle.gql_doc.specs.Words.{Tokens}
use Rattle.gql_doc.specs.Grammar.{IsDocument, IsTypeText}
use Rattle.gql_doc.specs.Spelling.{Spells, IsFault}
use Rattle.gql_doc.specs.NameRules.{wrong_operations, doubled_name}
use Rattle.gql_doc.specs.Building.{document_of}

-- the tokens of a text
abbrev pub AreTokensOf : List ℕ → Tokens → Type 0
AreTokensOf text tokens = Lexes text_start text tokens

-- A fault against the rules on operations and names: an operation that stands wrongly, or else a
-- doubled name.
abbrev pub rule_fault_by : Option Pos → Option Pos → Option ParseFault
rule_fault_by (Some pos) doubled = Some (record { kind = Operations; pos = pos })
rule_fault_by None (Some pos) = Some (record { kind = Doubled; pos = pos })
rule_fault_by None None = None

abbrev pub rule_fault : List DefinitionTree → Option ParseFault
rule_fault tree = rule_fault_by (wrong_operations tree) (doubled_name tree)

-- The text spells the document: its tokens spell a tree that breaks no rule and gives the document.
pub record SpellsDocument (text : List ℕ) (document : ExecutableDocument) : Type 0 where
  pub tokens : Tokens
  pub lexed : AreTokensOf text tokens
  pub tree : List DefinitionTree
  pub derived : Spells IsDocument tokens tree
  pub lawful : rule_fault tree ≡ None
  pub built : document ≡ document_of tree

-- the fault of a tree that the tokens spell
pub record BreaksRule (tokens : Tokens) (fault : ParseFault) : Type 0 where
  pub tree : List DefinitionTree
  pub derived : Spells IsDocument tokens tree
  pub broken : rule_fault tree ≡ Some fault

-- The first fault of a text: that of its tokens, or else that of its tree.
pub record IsDocumentFault (text : List ℕ) (fault : ParseFault) : Type 0 where
  pub tokens : Tokens
  pub lexed : AreTokensOf text tokens
  pub first : IsFault IsDocument tokens fault ⊎ BreaksRule tokens fault

-- the text spells the type, and nothing after it
pub record SpellsType (text : List ℕ) (type : TypeRef) : Type 0 where
  pub tokens : Tokens
  pub lexed : AreTokensOf text tokens
  pub derived : Spells IsTypeText tokens type

-- the first fault of a text that spells no type
pub record IsTypeFault (text : List ℕ) (fault : ParseFault) : Type 0 where
  pub tokens : Tokens
  pub lexed : AreTokensOf text tokens
  pub first : IsFault IsTypeText tokens fault

-- what reading a text as a document gives
abbrev pub GivesDocument : List ℕ → Result ExecutableDocument ParseFault → Type 0
GivesDocument text (Ok document) = SpellsDocument text document
GivesDocument text (Err fault) = IsDocumentFault text fault

-- what reading a text as a type gives
abbrev pub GivesType : List ℕ → Result TypeRef ParseFault → Type 0
GivesType text (Ok type) = SpellsType text type
GivesType text (Err fault) = IsTypeFault text fault
