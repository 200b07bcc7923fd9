use Rattle.std.proofs.Common.{arith, ap, sym, ◌∙◌, subst}
use Rattle.gql_base.specs.ErrorExtensionValues.{IsInOrder, unset_in, StandsAt, BelongsAt}
use Rattle.gql_base.proofs.InOrderLemmas.{stands-within, unset-standing, unset-belonging, unset-in-order}
use Rattle.gql_base.proofs.error_extension_values.ErrorExtensionValues.unset.Goals as goal

pub remove-requires : goal.remove-requires
remove-requires c =
    let whole = c.self.inside.pairs.ok.0 in
    omega (arith, stands-within c.args.name.now c.self.inside.pairs.items c.in-Ok.place (subst (λ ps. StandsAt c.args.name.now ps c.in-Ok.place) c.deref.ensures.value c.in-Ok.ensures))

pub invariant_of-self : goal.invariant_of-self
invariant_of-self c =
    let removed = unset-standing c.args.name.now c.self.inside.pairs.items c.in-Ok.place (subst (λ ps. StandsAt c.args.name.now ps c.in-Ok.place) c.deref.ensures.value c.in-Ok.ensures) in
    subst IsInOrder (removed ∙ sym c.remove.ensures.items) (unset-in-order c.self.inside.pairs.items c.args.name.now c.self.invariant)

pub returns-in-Ok : goal.returns-in-Ok
returns-in-Ok c =
    let removed = unset-standing c.args.name.now c.self.inside.pairs.items c.in-Ok.place (subst (λ ps. StandsAt c.args.name.now ps c.in-Ok.place) c.deref.ensures.value c.in-Ok.ensures) in
    c.remove.ensures.items ∙ sym removed ∙ ap (λ ps. unset_in ps c.args.name.now) c.self.view_is

pub returns-in-Err : goal.returns-in-Err
returns-in-Err c =
    let kept = unset-belonging c.args.name.now c.self.inside.pairs.items c.in-Err.field-0 (subst (λ ps. BelongsAt c.args.name.now ps c.in-Err.field-0) c.deref.ensures.value c.in-Err.ensures) in
    sym c.self.view_is ∙ sym kept ∙ ap (λ ps. unset_in ps c.args.name.now) c.self.view_is
