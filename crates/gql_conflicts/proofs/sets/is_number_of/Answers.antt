use Rattle.std.proofs.Common.{◌<◌, length, refl, rules, sym, subst}
use Rattle.std.proofs.lemmas.Option.{slice_get_read}
use Rattle.gql_select.specs.Collected.{own_selections}
use Rattle.gql_conflicts.specs.Sets.{HaveSame}
use Rattle.gql_conflicts.specs.declared.known.Known.{Known}
use Rattle.gql_conflicts.proofs.MergedLemmas.{number_at}
use Rattle.gql_conflicts.proofs.sets.is_number_of.Goals as goal

pub returns : goal.returns
returns c =
    let within : c.args.number < length c.args.known.now = search rules in
    let read = slice_get_read c.args.known.now (length c.args.known.now) c.args.number c.index-known-number.result refl within c.index-known-number.is in
    λ so.
    number_at c.args.known.now c.args.number c.index-known-number.result c.args.field.now read
    (subst (λ (item : Known). HaveSame (own_selections item.field.now) (own_selections c.args.field.now)) (sym c.index-known-number.is) (c.have_same.ensures so))
