use Rattle.std.proofs.Common.{inl, refl}
use Rattle.gql_base.proofs.PairLemmas.{put_in_place, under_in_place, under_no_place}
use Rattle.gql_base.proofs.pairs.Pairs.get_mut.Goals as goal

pub returns-in-Some : goal.returns-in-Some
returns-in-Some g c = (
  (λ k. inl (c.at_mut.result.ghost_name, λ value. put_in_place c.args.name.now c.args.self.now c.in-Some.place value c.in-Some.ensures.place k)),
  under_in_place c.args.name.now c.args.self.now c.in-Some.place c.at_mut.result.now c.in-Some.ensures.place c.at_mut.ensures.value,
)

pub returns-in-None : goal.returns-in-None
returns-in-None g c = (refl, under_no_place c.args.name.now c.args.self.now c.in-None.ensures.place)
