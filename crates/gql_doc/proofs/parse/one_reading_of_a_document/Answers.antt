use Rattle.gql_doc.proofs.ParseLaws.{one_document, one_document_fault, never_both}
use Rattle.gql_doc.proofs.parse.one_reading_of_a_document.Goals as goal

pub returns-clause-document : goal.returns-clause-document
returns-clause-document c = λ text one other s t. one_document text one other s t

pub returns-clause-fault : goal.returns-clause-fault
returns-clause-fault c = λ text one other f g. one_document_fault text one other f g

pub returns-clause-not_both : goal.returns-clause-not_both
returns-clause-not_both c = λ text document fault s f. never_both text document fault s f
