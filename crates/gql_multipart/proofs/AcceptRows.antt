-- Headers, by the definition.
use Rattle.std.proofs.Common.{◌≡◌, true, false, codes, refl}
use Rattle.gql_multipart.specs.Accept.{prefers_multipart}
use Rattle.gql_multipart.specs.MediaRange.{range_of}
use Rattle.gql_multipart.specs.Parameter.{parameter_at}
use Rattle.gql_multipart.specs.Quality.{thousandths}
use Rattle.gql_multipart.specs.Token.{is_token_character}

multipart_alone :
    prefers_multipart (codes "multipart/mixed; boundary=\"graphql\"; subscriptionSpec=\"1.0\"") ≡ true
unfolding is_token_character parameter_at range_of
multipart_alone = refl

json_first :
    prefers_multipart (codes "application/json,multipart/mixed;boundary=graphql;subscriptionSpec=1.0") ≡ false
unfolding is_token_character parameter_at range_of
json_first = refl

json_wanted_less :
    prefers_multipart
    (codes "application/json;q=0.5,multipart/mixed;boundary=graphql;subscriptionSpec=1.0") ≡ true
unfolding is_token_character parameter_at range_of thousandths
json_wanted_less = refl

quality_past_one :
    prefers_multipart
    (codes "application/json,multipart/mixed;boundary=graphql;subscriptionSpec=1.0;q=1.001") ≡ false
unfolding is_token_character parameter_at range_of thousandths
quality_past_one = refl
