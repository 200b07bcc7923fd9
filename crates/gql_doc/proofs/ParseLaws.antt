-- One reading of a text.
use Rattle.std.proofs.Common.{◌≡◌, ℕ, List, Option, Some, None, Result, Ok, Err, inl, inr, refl, sym, ap, ◌∙◌}
use Rattle.gql_base.specs.declared.type_ref.TypeRef.{TypeRef}
use Rattle.gql_tokens.specs.Lexer.{EndFinally}
use Rattle.gql_tokens.specs.Place.{text_start}
use Rattle.gql_tokens.proofs.LexerLaws.{lexes_unique}
use Rattle.gql_tokens.proofs.StepLaws.{lexes_end}
use Rattle.gql_doc.specs.declared.document.ExecutableDocument.{ExecutableDocument}
use Rattle.gql_doc.specs.declared.fault.ParseFault.{ParseFault}
use Rattle.gql_doc.specs.declared.tree.DefinitionTree.{DefinitionTree}
use Rattle.gql_doc.specs.Words.{Tokens}
use Rattle.gql_doc.specs.Grammar.{IsDocument, IsTypeText}
use Rattle.gql_doc.specs.Spelling.{Spells, Settles}
use Rattle.gql_doc.specs.Reading.{parsed_by, document, type_text}
use Rattle.gql_doc.specs.Building.{document_of}
use Rattle.gql_doc.specs.Spelled.{AreTokensOf, SpellsDocument, IsDocumentFault, SpellsType, IsTypeFault, GivesDocument, GivesType, rule_fault}
use Rattle.gql_doc.specs.Ruled.{ruled_by, then_ruled, query_of}
use Rattle.gql_doc.proofs.TextLaws.{document_reads, type_text_reads}
use Rattle.gql_doc.proofs.Classify.{settled, spelled, first_fault}

one_list : (text : List ℕ) (ts us : Tokens) → AreTokensOf text ts → AreTokensOf text us → us ≡ ts
one_list text ts us h k = lexes_unique text_start text us ts k h

lexed_are : (text : List ℕ) (tokens : Tokens) → AreTokensOf text tokens → EndFinally tokens
lexed_are text tokens lexed = lexes_end text_start text tokens lexed

module _ (text : List ℕ) (tokens : Tokens) (lexed : AreTokensOf text tokens) where
  -- Documents.

  ruled_gives : (tree : List DefinitionTree) → Spells IsDocument tokens tree → (fault : Option ParseFault) → rule_fault tree ≡ fault → GivesDocument text (ruled_by fault (document_of tree))
  ruled_gives tree derived None lawful =
      record { tokens = tokens; lexed = lexed; tree = tree; derived = derived; lawful = lawful; built = refl }
  ruled_gives tree derived (Some fault) broken =
      record { tokens = tokens; lexed = lexed; first = inr (record { tree = tree; derived = derived; broken = broken }) }

  settled_gives : (outcome : Result (List DefinitionTree) ParseFault) → Settles IsDocument tokens outcome → GivesDocument text (then_ruled outcome)
  settled_gives (Ok tree) derived = ruled_gives tree derived (rule_fault tree) refl
  settled_gives (Err fault) faulty = record { tokens = tokens; lexed = lexed; first = inl faulty }

  pub query_gives : GivesDocument text (query_of tokens)
  query_gives = settled_gives (parsed_by document tokens) (settled document IsDocument document_reads tokens (lexed_are text tokens lexed))

  pub query_spelled : (d : ExecutableDocument) → SpellsDocument text d → query_of tokens ≡ Ok d
  query_spelled d s =
      ap query_of (sym (one_list text tokens s.tokens lexed s.lexed)) ∙ ap then_ruled (spelled document IsDocument document_reads s.tokens s.tree s.derived)
      ∙ ap (λ fault. ruled_by fault (document_of s.tree)) s.lawful ∙ ap Ok (sym s.built)

  pub query_faulty : (fault : ParseFault) → IsDocumentFault text fault → query_of tokens ≡ Err fault
  query_faulty fault f =
      elim f.first as (λ first. query_of tokens ≡ Err fault) [
        | inl faulty ↦
            ap query_of (sym (one_list text tokens f.tokens lexed f.lexed)) ∙ ap then_ruled (first_fault document IsDocument document_reads f.tokens fault (lexed_are text f.tokens f.lexed) faulty)
        | inr rule ↦
            ap query_of (sym (one_list text tokens f.tokens lexed f.lexed)) ∙ ap then_ruled (spelled document IsDocument document_reads f.tokens rule.tree rule.derived)
            ∙ ap (λ found. ruled_by found (document_of rule.tree)) rule.broken
      ]

  -- Types.

  type_settled : (outcome : Result TypeRef ParseFault) → Settles IsTypeText tokens outcome → GivesType text outcome
  type_settled (Ok type) derived = record { tokens = tokens; lexed = lexed; derived = derived }
  type_settled (Err fault) faulty = record { tokens = tokens; lexed = lexed; first = faulty }

  pub type_gives : GivesType text (parsed_by type_text tokens)
  type_gives = type_settled (parsed_by type_text tokens) (settled type_text IsTypeText type_text_reads tokens (lexed_are text tokens lexed))

  pub type_spelled : (t : TypeRef) → SpellsType text t → parsed_by type_text tokens ≡ Ok t
  type_spelled t s =
      ap (parsed_by type_text) (sym (one_list text tokens s.tokens lexed s.lexed)) ∙ spelled type_text IsTypeText type_text_reads s.tokens t s.derived

  pub type_faulty : (fault : ParseFault) → IsTypeFault text fault → parsed_by type_text tokens ≡ Err fault
  type_faulty fault f =
      ap (parsed_by type_text) (sym (one_list text tokens f.tokens lexed f.lexed)) ∙ first_fault type_text IsTypeText type_text_reads f.tokens fault (lexed_are text f.tokens f.lexed) f.first

-- Laws of a text.

pub one_document : (text : List ℕ) (d e : ExecutableDocument) → SpellsDocument text d → SpellsDocument text e → d ≡ e
one_document text d e s t = let o = query_spelled text s.tokens s.lexed d s in let p = query_spelled text s.tokens s.lexed e t in cc (o, p)

pub one_document_fault : (text : List ℕ) (a b : ParseFault) → IsDocumentFault text a → IsDocumentFault text b → a ≡ b
one_document_fault text a b f g = let o = query_faulty text f.tokens f.lexed a f in let p = query_faulty text f.tokens f.lexed b g in cc (o, p)

pub never_both : (text : List ℕ) (d : ExecutableDocument) (fault : ParseFault) → SpellsDocument text d → IsDocumentFault text fault → ⊥
never_both text d fault s f =
    let o = query_spelled text s.tokens s.lexed d s in let p = query_faulty text s.tokens s.lexed fault f in cc (o, p)

pub one_type : (text : List ℕ) (d e : TypeRef) → SpellsType text d → SpellsType text e → d ≡ e
one_type text d e s t = let o = type_spelled text s.tokens s.lexed d s in let p = type_spelled text s.tokens s.lexed e t in cc (o, p)

pub one_type_fault : (text : List ℕ) (a b : ParseFault) → IsTypeFault text a → IsTypeFault text b → a ≡ b
one_type_fault text a b f g = let o = type_faulty text f.tokens f.lexed a f in let p = type_faulty text f.tokens f.lexed b g in cc (o, p)

pub never_both_of_a_type : (text : List ℕ) (d : TypeRef) (fault : ParseFault) → SpellsType text d → IsTypeFault text fault → ⊥
never_both_of_a_type text d fault s f =
    let o = type_spelled text s.tokens s.lexed d s in let p = type_faulty text s.tokens s.lexed fault f in cc (o, p)
