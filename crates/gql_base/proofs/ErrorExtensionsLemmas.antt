-- What a callback that succeeded leaves.
use Rattle.std.proofs.Common.{◌≡◌, [], Result, Ok, subst, Bor, MutBor}
use Rattle.std.specs.Fn.{Once}
use Rattle.gql_base.specs.ErrorExtensions.{Values, Leaves}

pub leaves-from : {C S E : Type 0} (g : Once C (Bor S × (MutBor Values × Unit {0})) (Result (Unit {0}) E × (MutBor Values × Unit {0}))) (callback : C)
    (seen : Bor S) (given left : MutBor Values) (result : Result (Unit {0}) E) (value : S) (values : Values) (ok : Unit {0})
    → g.post callback (seen, (given, tt)) (result, (left, tt)) → result ≡ Ok ok → seen.now ≡ value → given.now ≡ [] → left.now ≡ values
    → Leaves g callback value values
leaves-from g callback seen given left result value values ok called is shows empty leaves =
    record {
      seen = seen;
      given = given;
      left = left;
      shows = shows;
      empty = empty;
      met = subst (λ r. g.post callback (seen, (given, tt)) (r, (left, tt))) is called;
      leaves = leaves;
    }
