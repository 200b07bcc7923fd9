use Rattle.std.proofs.Common.{ap, subst, ◌∙◌}
use Rattle.gql_objects.specs.Assembly.{IsMade}
use Rattle.gql_objects.specs.PlaceStore.{present, put_open}
use Rattle.gql_objects.proofs.assembly.assemble.put_place.Goals as goal

pub returns : goal.returns
returns g c =
    let place = c.in_ok-place.place in record {
      piece = place;
      made = subst (λ os. IsMade c.args.kept.filled (present os) place) c.in_ok-own.ensures.behind c.in_ok-place.ensures;
      puts = c.put_if_open.ensures ∙ ap (λ ps. put_open place ps c.args.kept.number) c.in_ok-own.ensures.left;
    }
