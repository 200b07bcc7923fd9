-- What the parameters of a media range say of it.
use Rattle.std.specs.Prelude.{Bool, false, ◌&&◌, List, codes}
use Rattle.std.specs.Option.{option_or, unwrap_or}
use Rattle.gql_multipart.specs.Parameter.{Given, is_said, quality_said}
use Rattle.gql_multipart.specs.declared.told.Told.{Told}

-- what parameters say of the boundary, of the specification of subscriptions, and of the quality
abbrev pub told_of : List Given → Told
told_of parameters = record {
  boundary = is_said (codes "boundary") (codes "graphql") parameters;
  specification = is_said (codes "subscriptionSpec") (codes "1.0") parameters;
  q = quality_said parameters;
}

-- whether both are those of GraphQL
abbrev pub is_graphql : Told → Bool
is_graphql told = unwrap_or told.boundary false && unwrap_or told.specification false

-- what was told, with what further parameters say of what wasn't
abbrev pub told_and : Told → List Given → Told
told_and told parameters = record {
  boundary = option_or told.boundary (told_of parameters).boundary;
  specification = option_or told.specification (told_of parameters).specification;
  q = option_or told.q (told_of parameters).q;
}
