use Rattle.std.proofs.Common.{◌≡◌, ◌<◌, [], ◌∷◌, ◌++◌, length, Some, None, refl, sym, ap, subst, ◌∙◌, arith}
use Rattle.std.proofs.lemmas.Option.{slice_get_read}
use Rattle.gql_base.specs.Names.{place_of}
use Rattle.gql_base.specs.Pairs.{names_of, under}
use Rattle.gql_base.proofs.PairLemmas.{under_no_place}
use Rattle.gql_select.specs.Behind.{all_behind}
use Rattle.gql_collect.specs.Groups.{under_keys, united}
use Rattle.gql_select.specs.Documents.{with_others}
use Rattle.gql_collect.specs.KeyNames.{key_text}
use Rattle.gql_collect.specs.declared.group.Group.{Group}
use Rattle.gql_collect.proofs.GroupLemmas.{occurrence_found, occurrence_fresh, united_more}
use Rattle.gql_collect.proofs.group_fields.add_occurrence.Goals as goal

pub returns-in_ok-push-in-Some-clause-united : goal.returns-in_ok-push-in-Some-clause-united
returns-in_ok-push-in-Some-clause-united c =
    let keys = c.args.keys.now in
    let groups = c.args.groups.now.items in
    let key : c.as_str-key.result.now ≡ key_text c.args.field.now = c.as_str-key.ensures ∙ ap (λ k. k.node) c.response_key.ensures in
    let found : place_of (key_text c.args.field.now) (names_of keys) ≡ Some c.in-Some.place
    = sym (c.in-Some.ensures.place ∙ ap (λ k. place_of k (names_of keys)) key) in
    let within : c.in-Some.place < length groups = omega (arith, c.in-Some.ensures.within, c.requires) in
    let new : Group = record { first = c.index_mut.result.now.first; more = c.push.new.self } in
    let read = slice_get_read groups (length groups) c.in-Some.place c.index_mut.result.now refl within c.index_mut.ensures.value in
    occurrence_found keys groups (key_text c.args.field.now) c.in-Some.place c.index_mut.result.now new c.args.field.now c.requires found read
    (united_more c.index_mut.result.now c.args.field new refl c.in_ok-push-in-Some.ensures.items)

pub add_fresh-requires : goal.add_fresh-requires
add_fresh-requires c =
    subst (λ k. under k c.args.keys.now ≡ None) (c.as_str-key.ensures ∙ sym c.in_ok-try_clone-in-None.ensures)
    (sym (under_no_place c.as_str-key.result.now c.args.keys.now c.in-None.ensures.place))

pub returns-in_ok-push-in-None-clause-united : goal.returns-in_ok-push-in-None-clause-united
returns-in_ok-push-in-None-clause-united c =
    let keys = c.args.keys.now in
    let groups = c.args.groups.now.items in
    let field = c.args.field.now in
    let key : c.as_str-key.result.now ≡ key_text field = c.as_str-key.ensures ∙ ap (λ k. k.node) c.response_key.ensures in
    let none = sym (c.in-None.ensures.place ∙ ap (λ k. place_of k (names_of keys)) key) in
    let keys_are = c.in_ok-add_fresh-in-None.ensures.added ∙ ap (λ k. keys ++ (k, tt) ∷ []) (c.in_ok-try_clone-in-None.ensures ∙ ap (λ k. k.node) c.response_key.ensures) in
    let group : Group = record { first = c.args.field; more = c.new.result } in
    let alone : united group ≡ field = ap (λ others. with_others field (all_behind others)) c.new.ensures.items in
    (λ i. under_keys (keys_are i) (c.in_ok-push-in-None.ensures.items i))
    ∙ occurrence_fresh keys groups (key_text field) group field c.requires none alone
