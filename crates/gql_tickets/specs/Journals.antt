-- Things with a journal.
use Rattle.std.specs.Prelude.{◌≡◌, List}
use Rattle.gql_tickets.specs.declared.journaled.Journaled.{Ghosts as Journaling}

-- the thing now came of the thing at first, and has this journal
pub record IsAt {A E : Type 0} (journals : Journaling A E) (first : A) (log : List E)
    (now : A) : Type 0 where
  pub from : journals.is_from first now
  pub log_is : journals.journal now ≡ log
