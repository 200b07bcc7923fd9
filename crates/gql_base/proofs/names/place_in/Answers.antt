use Rattle.std.proofs.Common.{◌≡◌, true, false, length, sym, refl, rules}
use Rattle.std.proofs.lemmas.Option.{slice_get_read}
use Rattle.std.specs.Str.{bytes_eq}
use Rattle.std.specs.Cmp.Lexicographic.{bytes_decides}
use Rattle.gql_base.proofs.NamesLemmas.{place_here, place_not_here}
use Rattle.gql_base.proofs.names.place_in.Goals as goal

pub returns-then-eq : goal.returns-then-eq
returns-then-eq c =
    let told : bytes_eq c.args.name.now c.index-names-place.result ≡ true = search rules in
    let same = (bytes_decides c.args.name.now c.index-names-place.result).0 told in
    let at = slice_get_read c.args.names.now (length c.args.names.now) c.loop-place.place c.index-names-place.result refl (search rules) c.index-names-place.is in
    sym (place_here c.args.name.now c.args.names.now c.loop-place.place c.loop-place.invariant (rw same at))

pub loop-place-preserved : goal.loop-place-preserved
loop-place-preserved c =
    let told : bytes_eq c.args.name.now c.index-names-place.result ≡ false = search rules in
    place_not_here c.args.name.now c.args.names.now c.loop-place.place c.index-names-place.result c.loop-place.invariant (search rules)
    c.index-names-place.is told
