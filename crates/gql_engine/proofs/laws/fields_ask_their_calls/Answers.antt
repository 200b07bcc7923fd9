use Rattle.gql_collect.proofs.AsksLemmas.{asking_is}
use Rattle.gql_engine.proofs.laws.fields_ask_their_calls.Goals as goal

pub returns : goal.returns
returns g c = λ is_root execution parent object field. asking_is is_root execution parent object field
