use Rattle.gql_doc.proofs.ParseLaws.{one_type, one_type_fault, never_both_of_a_type}
use Rattle.gql_doc.proofs.parse.one_reading_of_a_type.Goals as goal

pub returns-clause-ty : goal.returns-clause-ty
returns-clause-ty c = λ text one other s t. one_type text one other s t

pub returns-clause-fault : goal.returns-clause-fault
returns-clause-fault c = λ text one other f g. one_type_fault text one other f g

pub returns-clause-not_both : goal.returns-clause-not_both
returns-clause-not_both c = λ text ty fault s f. never_both_of_a_type text ty fault s f
