use denote.Exit.{no}
use denote.Param.{param}
use denote.Param.Send.{param_send, arg_send}
use Rattle.gql_serve.proofs.SendLemmas.{book_send}
use Rattle.gql_serve.proofs.shared.of_book.Goals as goal

pub moved-requires-send-T : goal.moved-requires-send-T
moved-requires-send-T g c κs within = param_send _ _ (arg_send _ no _
    (book_send (param 0 g.row.R) (param 1 g.row.R-Own) (param 2 g.row.R-World) (param 3 g.row.R-Future) g.R.ResolverSet
    c.type_bounds.send-R c.type_bounds.send-R-Own c.type_bounds.send-R-World c.type_bounds.send-R-Future))
