use Rattle.std.proofs.Common.{ap, sym, ◌∙◌}
use Rattle.std.proofs.lemmas.Option.{get_or_from_slice_get}
use Rattle.std.specs.List.{zip}
use Rattle.gql_base.specs.Names.{place_of}
use Rattle.gql_base.proofs.PairLemmas.{under_found, under_missing, put_found, put-fresh}
use Rattle.gql_base.proofs.pairs.Pairs.insert.Goals as goal

pub add_fresh-requires : goal.add_fresh-requires
add_fresh-requires g c =
    let missing = c.in-None.ensures.place ∙ ap (λ m. place_of m c.self.inside.names) c.as_str.ensures in
    sym (under_missing c.args.name c.self.inside.names c.self.inside.values.items c.args.self.now c.self.invariant c.self.view_is missing)

pub returns-in-Some-clause-put : goal.returns-in-Some-clause-put
returns-in-Some-clause-put g c =
    let found = c.in-Some.ensures.place ∙ ap (λ m. place_of m c.self.inside.names) c.as_str.ensures in
    ap (λ values. zip c.self.inside.names values) c.replaced.ensures.set
    ∙ put_found c.args.name c.self.inside.names c.self.inside.values.items c.args.self.now c.self.invariant c.self.view_is c.in-Some.place
    c.args.value found

pub returns-in-Some-clause-replaced : goal.returns-in-Some-clause-replaced
returns-in-Some-clause-replaced g c =
    let found = c.in-Some.ensures.place ∙ ap (λ m. place_of m c.self.inside.names) c.as_str.ensures in
    under_found c.args.name c.self.inside.names c.self.inside.values.items c.args.self.now c.self.invariant c.self.view_is c.in-Some.place
    c.replaced.result found (sym (get_or_from_slice_get c.self.inside.values.items c.in-Some.place c.replaced.result c.replaced.result c.replaced.ensures.old))

pub returns-in_ok-add_fresh-in-None-clause-put : goal.returns-in_ok-add_fresh-in-None-clause-put
returns-in_ok-add_fresh-in-None-clause-put g c =
    let missing = c.in-None.ensures.place ∙ ap (λ m. place_of m c.self.inside.names) c.as_str.ensures in
    let none = under_missing c.args.name c.self.inside.names c.self.inside.values.items c.args.self.now c.self.invariant c.self.view_is missing in
    c.in_ok-add_fresh-in-None.ensures.added ∙ sym (put-fresh c.args.self.now c.args.name c.args.value (sym none))

pub returns-in_ok-add_fresh-in-None-clause-replaced : goal.returns-in_ok-add_fresh-in-None-clause-replaced
returns-in_ok-add_fresh-in-None-clause-replaced g c =
    let missing = c.in-None.ensures.place ∙ ap (λ m. place_of m c.self.inside.names) c.as_str.ensures in
    under_missing c.args.name c.self.inside.names c.self.inside.values.items c.args.self.now c.self.invariant c.self.view_is missing
