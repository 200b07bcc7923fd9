use Rattle.std.proofs.Common.{length, slice_get, slice_set, refl, ap, sym, ◌∙◌, arith}
use Rattle.std.proofs.lemmas.Option.{slice_get_read}
use Rattle.std.specs.List.{zip}
use Rattle.gql_base.proofs.PairLemmas.{pairs_long, pairs_names, pairs_values}
use Rattle.gql_base.proofs.pairs.Pairs.at_mut.Goals as goal

pub index_mut-requires : goal.index_mut-requires
index_mut-requires g c =
    let long = pairs_long c.self.inside.names c.self.inside.values.items c.args.self.now c.self.invariant c.self.view_is in
    let whole = c.self.inside.values.ok.0 in
    omega arith

pub returns : goal.returns
returns g c =
    let names = pairs_names c.self.inside.names c.self.inside.values.items c.args.self.now c.self.invariant c.self.view_is in
    let values = pairs_values c.self.inside.names c.self.inside.values.items c.args.self.now c.self.invariant c.self.view_is in
    let long = pairs_long c.self.inside.names c.self.inside.values.items c.args.self.now c.self.invariant c.self.view_is in (
      (refl, λ w k. zip (sym names k) (slice_set (sym values k) c.args.place w)),
      record {
        writes_back = tt;
        value =
            ap (λ vs. slice_get vs c.args.place) values
            ∙ slice_get_read c.self.inside.values.items (length c.self.inside.names) c.args.place c.index_mut.result.now (sym c.self.invariant)
            (omega (arith, long, c.requires)) c.index_mut.ensures.value;
      },
    )
