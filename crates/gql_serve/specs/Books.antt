-- What a book shows: its set, and its journal.
use Rattle.gql_resolve.specs.declared.resolver_set.ResolverSet.{Ghosts as Resolving}
use Rattle.gql_serve.specs.Journal.{Journal, journal_with}
use Rattle.gql_serve.specs.declared.book.Book.{Book}

module _ {R Own World Future : Type 0} {set : Resolving R Own World Future} where
  -- its set as it stands
  abbrev pub set_of : Book R Own World Future set → R
  set_of book = book.resolvers

  -- its set as it was at first
  abbrev pub first_set : Book R Own World Future set → R
  first_set book = book.first.value

  -- the world in which its journal begins
  abbrev pub origin_of : Book R Own World Future set → World
  origin_of book = book.origin

  -- its journal
  abbrev pub journal_of : Book R Own World Future set → Journal Own
  journal_of book = journal_with book.schemas.items book.entries.items
