use Rattle.std.proofs.Common.{sym, subst}
use Rattle.gql_ws.specs.Found.{has_id}
use Rattle.gql_ws.specs.Lives.{IsSingle}
use Rattle.gql_ws.proofs.lives.LivesCopied.try_clone.Goals as goal

pub copy_lives-requires : goal.copy_lives-requires
copy_lives-requires c = λ id. subst (IsSingle (has_id id)) (sym c.as_slice.ensures.value) (c.self.invariant.1 id)
