use Rattle.std.proofs.Common.{arith, ap, ◌∙◌, subst}
use Rattle.gql_base.specs.ErrorExtensionValues.{StandsAt, BelongsAt}
use Rattle.gql_base.specs.Pairs.{under}
use Rattle.gql_base.proofs.InOrderLemmas.{stands-within, under-standing, under-belonging}
use Rattle.gql_base.proofs.error_extension_values.ErrorExtensionValues.get.Goals as goal

pub index-requires : goal.index-requires
index-requires c =
    let whole = c.self.inside.pairs.ok.0 in
    omega (arith, stands-within c.args.name.now c.self.inside.pairs.items c.in-Ok.place (subst (λ ps. StandsAt c.args.name.now ps c.in-Ok.place) c.deref.ensures.value c.in-Ok.ensures))

pub returns-in-Ok : goal.returns-in-Ok
returns-in-Ok c =
    under-standing c.args.name.now c.self.inside.pairs.items c.in-Ok.place c.index.result.now
    (subst (λ ps. StandsAt c.args.name.now ps c.in-Ok.place) c.deref.ensures.value c.in-Ok.ensures) c.index.ensures
    ∙ ap (under c.args.name.now) c.self.view_is

pub returns-in-Err : goal.returns-in-Err
returns-in-Err c =
    under-belonging c.args.name.now c.self.inside.pairs.items c.in-Err.field-0
    (subst (λ ps. BelongsAt c.args.name.now ps c.in-Err.field-0) c.deref.ensures.value c.in-Err.ensures)
    ∙ ap (under c.args.name.now) c.self.view_is
