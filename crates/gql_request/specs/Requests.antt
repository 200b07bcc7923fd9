-- The requests that an iterator has left to give.
use Rattle.std.specs.Prelude.{List}
use Rattle.gql_request.specs.declared.batch_request.Requests.{Requests}
use Rattle.gql_request.specs.declared.request.Request.{Request}

abbrev pub requests_left : Requests → List Request
requests_left requests = requests.left.now
