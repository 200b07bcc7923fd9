use Rattle.std.proofs.Common.{◌≡◌, ◌∙◌, arith, length, refl, sym}
use Rattle.std.proofs.lemmas.Option.{slice_get_read}
use Rattle.gql_collect.specs.Basis.{execution_of}
use Rattle.gql_collect.proofs.DeclaredFieldLemmas.{declared_more}
use Rattle.gql_collect.proofs.declared_fields.is_declared_at.Goals as goal

pub returns : goal.returns
returns c = λ so.
    declared_more (execution_of c.args.basis.now) c.args.object.now c.args.fields.now c.args.place c.index-fields-place.result c.requires.before
    (slice_get_read c.args.fields.now (length c.args.fields.now) c.args.place c.index-fields-place.result refl c.requires.inside c.index-fields-place.is)
    (sym c.declares.ensures ∙ so)
