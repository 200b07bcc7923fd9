use Rattle.std.proofs.Common.{◌≡◌, ◌<◌, [], ◌∷◌, ◌++◌, length, Some, None, refl, sym, ap, subst, ◌∙◌, arith}
use Rattle.std.proofs.lemmas.Option.{slice_get_read}
use Rattle.gql_base.specs.Names.{place_of}
use Rattle.gql_base.specs.Pairs.{names_of, under}
use Rattle.gql_base.proofs.PairLemmas.{under_no_place}
use Rattle.gql_conflicts.specs.Classes.{key_at}
use Rattle.gql_conflicts.specs.declared.group.Group.{Group}
use Rattle.gql_conflicts.proofs.GroupLemmas.{groups_fresh}
use Rattle.gql_conflicts.proofs.WalkLemmas.{grown_found}
use Rattle.gql_conflicts.proofs.grouping.add_occurrence.Goals as goal

pub returns-in-Some : goal.returns-in-Some
returns-in-Some c =
    let keys = c.args.keys.now in
    let groups = c.args.groups.now.items in
    let key : c.as_str-key.result.now ≡ key_at c.args.field.now = c.as_str-key.ensures ∙ ap (λ k. k.node) c.response_key.ensures in
    let found : place_of (key_at c.args.field.now) (names_of keys) ≡ Some c.in-Some.place
    = sym (c.in-Some.ensures.place ∙ ap (λ k. place_of k (names_of keys)) key) in
    let within : c.in-Some.place < length groups = omega (arith, c.in-Some.ensures.within, c.requires) in
    let read = slice_get_read groups (length groups) c.in-Some.place c.index_mut.result.now refl within c.index_mut.ensures.value in
    grown_found c.add_to.result keys groups c.args.field c.in-Some.place c.index_mut.result.now c.add_to.new.group found read c.add_to.ensures

pub add_fresh-requires : goal.add_fresh-requires
add_fresh-requires c =
    subst (λ k. under k c.args.keys.now ≡ None) (c.as_str-key.ensures ∙ sym c.in_ok-try_clone-in-None.ensures)
    (sym (under_no_place c.as_str-key.result.now c.args.keys.now c.in-None.ensures.place))

pub returns-in_ok-push-in-None : goal.returns-in_ok-push-in-None
returns-in_ok-push-in-None c =
    let keys = c.args.keys.now in
    let groups = c.args.groups.now.items in
    let field = c.args.field in
    let key : c.as_str-key.result.now ≡ key_at field.now = c.as_str-key.ensures ∙ ap (λ k. k.node) c.response_key.ensures in
    let none = sym (c.in-None.ensures.place ∙ ap (λ k. place_of k (names_of keys)) key) in
    let keys_are = c.in_ok-add_fresh-in-None.ensures.added ∙ ap (λ k. keys ++ (k, tt) ∷ []) (c.in_ok-try_clone-in-None.ensures ∙ ap (λ k. k.node) c.response_key.ensures) in
    let group : Group = record { first = c.in_ok-first-in-None.first; more = c.new-in-None.result; unlike = None } in
    λ setting before are.
    rw (keys_are, c.in_ok-push-in-None.ensures.items) (groups_fresh setting keys groups before are field group none c.in_ok-first-in-None.ensures c.new-in-None.ensures.items refl)
