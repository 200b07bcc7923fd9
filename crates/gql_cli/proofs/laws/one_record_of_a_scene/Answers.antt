use Rattle.gql_cli.proofs.LawLemmas.{record-by}
use Rattle.gql_cli.proofs.laws.one_record_of_a_scene.Goals as goal

pub returns-clause-entries : goal.returns-clause-entries
returns-clause-entries c = λ bench before mutation scene one other after later a b. (record-by bench before scene mutation one other after later a b).0

pub returns-clause-leaves : goal.returns-clause-leaves
returns-clause-leaves c = λ bench before mutation scene one other after later a b. (record-by bench before scene mutation one other after later a b).1
