use Rattle.std.proofs.Common.{arith, slice_set, ap, sym, ◌∙◌, subst}
use Rattle.std.specs.List.{insert}
use Rattle.gql_base.specs.ErrorExtensionValues.{IsInOrder, set_in_order, StandsAt, BelongsAt}
use Rattle.gql_base.proofs.InOrderLemmas.{stands-within, named-standing, set-standing, belongs-within, set-belonging, set-in-order}
use Rattle.gql_base.proofs.error_extension_values.ErrorExtensionValues.set.Goals as goal

pub index_mut-requires : goal.index_mut-requires
index_mut-requires c =
    let whole = c.self.inside.pairs.ok.0 in
    omega (arith, stands-within c.args.name.now c.self.inside.pairs.items c.in-Ok.place (subst (λ ps. StandsAt c.args.name.now ps c.in-Ok.place) c.deref.ensures.value c.in-Ok.ensures))

pub invariant_of-self : goal.invariant_of-self
invariant_of-self c =
    let at = subst (λ ps. StandsAt c.args.name.now ps c.in-Ok.place) c.deref.ensures.value c.in-Ok.ensures in
    let named = named-standing c.args.name.now c.self.inside.pairs.items c.in-Ok.place c.index_mut.result.now at c.index_mut.ensures.value in
    let written = set-standing c.args.name.now c.self.inside.pairs.items c.in-Ok.place c.args.value at in
    subst IsInOrder (written ∙ ap (λ n. slice_set c.self.inside.pairs.items c.in-Ok.place (n, c.args.value)) (sym named))
    (set-in-order c.self.inside.pairs.items c.args.name.now c.args.value c.self.invariant)

pub insert-requires : goal.insert-requires
insert-requires c =
    let whole = c.self.inside.pairs.ok.0 in
    omega (arith, belongs-within c.args.name.now c.self.inside.pairs.items c.in-Err.place (subst (λ ps. BelongsAt c.args.name.now ps c.in-Err.place) c.deref.ensures.value c.in-Err.ensures))

pub invariant_of-self-in-Err : goal.invariant_of-self-in-Err
invariant_of-self-in-Err c =
    let at = subst (λ ps. BelongsAt c.args.name.now ps c.in-Err.place) c.deref.ensures.value c.in-Err.ensures in
    let inserted = set-belonging c.args.name.now c.self.inside.pairs.items c.in-Err.place c.args.value at in
    subst IsInOrder
    (inserted ∙ ap (λ n. insert c.self.inside.pairs.items c.in-Err.place (n, c.args.value)) (sym c.in_ok-name-in-Err.ensures) ∙ sym c.in_ok-insert-in-Err.ensures.items)
    (set-in-order c.self.inside.pairs.items c.args.name.now c.args.value c.self.invariant)

pub returns-in-Ok-clause-ok : goal.returns-in-Ok-clause-ok
returns-in-Ok-clause-ok c =
    let at = subst (λ ps. StandsAt c.args.name.now ps c.in-Ok.place) c.deref.ensures.value c.in-Ok.ensures in
    let named = named-standing c.args.name.now c.self.inside.pairs.items c.in-Ok.place c.index_mut.result.now at c.index_mut.ensures.value in
    let written = set-standing c.args.name.now c.self.inside.pairs.items c.in-Ok.place c.args.value at in
    ap (λ n. slice_set c.self.inside.pairs.items c.in-Ok.place (n, c.args.value)) named ∙ sym written
    ∙ ap (λ ps. set_in_order ps c.args.name.now c.args.value) c.self.view_is

pub returns-in_ok-insert-in-Err-clause-ok : goal.returns-in_ok-insert-in-Err-clause-ok
returns-in_ok-insert-in-Err-clause-ok c =
    let at = subst (λ ps. BelongsAt c.args.name.now ps c.in-Err.place) c.deref.ensures.value c.in-Err.ensures in
    let inserted = set-belonging c.args.name.now c.self.inside.pairs.items c.in-Err.place c.args.value at in
    c.in_ok-insert-in-Err.ensures.items
    ∙ ap (λ n. insert c.self.inside.pairs.items c.in-Err.place (n, c.args.value)) c.in_ok-name-in-Err.ensures
    ∙ sym inserted ∙ ap (λ ps. set_in_order ps c.args.name.now c.args.value) c.self.view_is
