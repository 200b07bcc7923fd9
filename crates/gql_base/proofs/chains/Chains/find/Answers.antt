use Rattle.std.proofs.Common.{◌≡◌, ◌<◌, Some, None, length, true, false, refl, sym, subst, slice_get, slice_index_or, arith, rules}
use Rattle.std.proofs.lemmas.Option.{slice_get_read}
use Rattle.std.specs.Str.{bytes_eq}
use Rattle.std.specs.Cmp.Lexicographic.{bytes_decides}
use Rattle.gql_base.proofs.ChainLemmas.{SeeksFrom, found_there, lighter, seeks_next, sought, weight}
use Rattle.gql_base.proofs.chains.Chains.find.Goals as goal

pub returns-then-eq : goal.returns-then-eq
returns-then-eq c =
    let told : bytes_eq c.index-names-place.result c.args.name.now ≡ true = search rules in
    let same = (bytes_decides c.index-names-place.result c.args.name.now).0 told in
    let at = slice_get_read c.args.names.now (length c.args.names.now) c.in-Some.place c.index-names-place.result refl
    (c.chain.invariant.within c.in-Some.place c.in-Some.is) c.index-names-place.is in
    sym (found_there c.args.names.now c.args.name.now c.in-Some.place c.requires.distinct
    (subst (λ n. slice_get c.args.names.now c.in-Some.place ≡ Some n) same at))

pub chain-smaller : goal.chain-smaller
chain-smaller c =
    let within : c.in-Some.place < length c.args.self.now.before.items =
    omega (arith, c.chain.invariant.within c.in-Some.place c.in-Some.is, c.requires.chained.paired) in
    let read : c.index-at-in-Some.result.now ≡ slice_index_or c.args.self.now.before.items c.in-Some.place c.index-at-in-Some.result.now = search rules in
    let before =
    slice_get_read c.args.self.now.before.items (length c.args.self.now.before.items) c.in-Some.place c.index-at-in-Some.result.now refl within read in
    subst (λ o. weight c.index-at-in-Some.result.now < weight o) (sym c.in-Some.is)
    (lighter c.args.self.now.heads.items c.args.self.now.before.items c.args.names.now c.in-Some.place c.index-at-in-Some.result.now
    c.requires.chained before)

pub chain-preserved : goal.chain-preserved
chain-preserved c =
    let told : bytes_eq c.index-names-place.result c.args.name.now ≡ false = search rules in
    let at = slice_get_read c.args.names.now (length c.args.names.now) c.in-Some.place c.index-names-place.result refl
    (c.chain.invariant.within c.in-Some.place c.in-Some.is) c.index-names-place.is in
    let within : c.in-Some.place < length c.args.self.now.before.items =
    omega (arith, c.chain.invariant.within c.in-Some.place c.in-Some.is, c.requires.chained.paired) in
    let read : c.index-at-in-Some.result.now ≡ slice_index_or c.args.self.now.before.items c.in-Some.place c.index-at-in-Some.result.now = search rules in
    let before =
    slice_get_read c.args.self.now.before.items (length c.args.self.now.before.items) c.in-Some.place c.index-at-in-Some.result.now refl within read in
    seeks_next c.args.self.now.heads.items c.args.self.now.before.items c.args.names.now c.args.name.now c.index-names-place.result c.in-Some.place
    c.index-at-in-Some.result.now c.requires.chained
    (subst (λ o. SeeksFrom c.args.self.now.before.items c.args.names.now c.args.name.now o) c.in-Some.is c.chain.invariant) at told before

pub returns : goal.returns
returns c =
    let gone : c.chain.at ≡ None = search rules in
    sym (sought c.args.self.now.before.items c.args.names.now c.args.name.now
    (subst (λ o. SeeksFrom c.args.self.now.before.items c.args.names.now c.args.name.now o) gone c.chain.invariant))
