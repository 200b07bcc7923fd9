-- The response of a place (GraphQL, October 2021, sections 6.4.4 and 7.1).
use Rattle.std.specs.Prelude.{[]}
use Rattle.gql_place.specs.Faults.{faults_of}
use Rattle.gql_place.specs.HeaderOps.{ops_of}
use Rattle.gql_place.specs.Raised.{raised}
use Rattle.gql_place.specs.declared.place.Place.{Place}
use Rattle.gql_request.specs.declared.response.Response.{Response}

-- the data that is raised from the place, its errors, and its operations on headers
abbrev pub response_at : Place → Response
response_at place =
    record {
      result = raised place;
      extensions = [];
      errors = faults_of place;
      headers = ops_of place;
    }
