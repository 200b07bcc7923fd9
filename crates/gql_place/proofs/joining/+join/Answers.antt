use Rattle.std.proofs.Common.{◌≡◌, ◌≤◌, ◌++◌, [], ◌∷◌, Some, length, slice_get, refl, ap, sym, ◌∙◌, arith}
use Rattle.std.specs.Vec.Iter.{into_iter_items}
use Rattle.std.proofs.Math.ListN.{length-set}
use Rattle.gql_base.specs.Pairs.{names_of, unite, unite_all, values_of}
use Rattle.gql_place.specs.Join.{join, join_items}
use Rattle.gql_place.proofs.JoinStepLemmas.{joining_ended, joining_step, joined_alone, joined_there, next_left, no_length, nothing_left, uniting_begun, uniting_ended, uniting_over, uniting_step}
use Rattle.gql_place.proofs.WeightLemmas.{items_weight, next_weighs, object_weighs, tree_weight, weight}
use Rattle.gql_place.proofs.joining.+join.Goals as goal
use Rattle.gql_place.proofs.joining.+join.Goals.{join_members-in-Some-get_mut+in_ok-join_onto-in-Some-get_mut, join_members-in-None+in_ok-try_clone-in-None+in_ok-add_fresh-in-None}

pub join_each-join_onto-requires : goal.join_each-join_onto-requires
join_each-join_onto-requires t c =
    let less : weight c.in-Some.other ≤ items_weight c.args.others
    = next_weighs c.args.others (into_iter_items c.loop-index.others) (into_iter_items c.next.new.self) c.loop-index.index c.in-Some.other
    c.loop-index.invariant.left c.in-Some.ensures.items in
    (omega (arith, less, c.decreases), tt)

pub join_tree-join_object-requires : goal.join_tree-join_object-requires
join_tree-join_object-requires t c =
    (omega (arith, object_weighs c.in-Object.others, ap tree_weight c.in-Object.is, c.decreases), tt)

pub join_each-loop-index-preserved : goal.join_each-loop-index-preserved
join_each-loop-index-preserved t c = record {
  joining =
      joining_step (join_items c.args.items.now c.args.others) (into_iter_items c.loop-index.others) (into_iter_items c.next.new.self) c.loop-index.items _
      c.loop-index.index c.at_mut.result.now c.join_onto.new.first c.in-Some.other c.loop-index.invariant.joining c.in-Some.ensures.items
      c.at_mut.ensures.value c.in_ok-join_onto.ensures refl;
  long = length-set c.loop-index.items c.loop-index.index c.join_onto.new.first ∙ c.loop-index.invariant.long;
  left =
      next_left c.args.others (into_iter_items c.loop-index.others) (into_iter_items c.next.new.self) c.loop-index.index c.in-Some.other
      c.loop-index.invariant.left c.in-Some.ensures.items;
}

-- the second list has no item at this index
pub join_each-returns-in_default : goal.join_each-returns-in_default
join_each-returns-in_default t c =
    joining_ended (join_items c.args.items.now c.args.others) c.loop-index.items c.loop-index.index (into_iter_items c.loop-index.others)
    c.loop-index.invariant.joining (no_length (into_iter_items c.loop-index.others) (sym c.loop-index.others.rest.ok.0 ∙ c.in_default.ensures.cases.0))

pub join_members-loop-index-init : goal.join_members-loop-index-init
join_members-loop-index-init t c = record {
  uniting = uniting_begun c.args.members.now c.args.others (names_of c.args.others) _ refl (c.into_iter-places.ensures.rest ∙ c.into_parts-names.ensures.values);
  left = c.into_iter-places.ensures.rest ∙ c.into_parts-names.ensures.values;
}

-- no member is left
pub join_members-returns-in_default : goal.join_members-returns-in_default
join_members-returns-in_default t c =
    uniting_ended (unite_all join c.args.members.now c.args.others) c.loop-index.members (names_of c.args.others) c.loop-index.index
    (into_iter_items c.loop-index.places) c.loop-index.invariant.uniting (no_length (into_iter_items c.loop-index.places) (sym c.loop-index.places.rest.ok.0 ∙ c.in_default.ensures.cases.0))

pub join_members-join_onto-requires : goal.join_members-join_onto-requires
join_members-join_onto-requires t c =
    let less : weight c.in-Some.other ≤ items_weight (values_of c.args.others)
    = next_weighs (values_of c.args.others) (into_iter_items c.loop-index.places) (into_iter_items c.next.new.self) c.loop-index.index c.in-Some.other
    c.loop-index.invariant.left c.in-Some.ensures.items in
    (omega (arith, less, c.decreases), tt)

pub join_members-loop-index-preserved : goal.join_members-loop-index-preserved
join_members-loop-index-preserved t c =
    let named : slice_get (names_of c.args.others) c.loop-index.index ≡ Some c.as_str-key.result.now
    = ap (λ names. slice_get names c.loop-index.index) (sym c.into_parts-names.ensures.names) ∙ c.name_at-name.ensures ∙ ap Some (sym c.as_str-key.ensures) in
    let united : c.match-get_mut.members ≡ unite join c.loop-index.members c.as_str-key.result.now c.in-Some.other
    = elim c.match-get_mut.branch [
      | join_members-in-Some-get_mut+in_ok-join_onto-in-Some-get_mut w ↦
          joined_there c.loop-index.members c.match-get_mut.members c.as_str-key.result.now w.in-Some-get_mut.member.now w.join_onto.new.first c.in-Some.other
          (sym w.in-Some-get_mut.ensures.value) w.in_ok-join_onto-in-Some-get_mut.ensures w.members-is
      | join_members-in-None+in_ok-try_clone-in-None+in_ok-add_fresh-in-None w ↦
          joined_alone c.loop-index.members c.match-get_mut.members c.as_str-key.result.now c.in-Some.other (sym w.in-None.ensures.value)
          (w.members-is ∙ w.in_ok-add_fresh-in-None.ensures.added
          ∙ ap (λ key. c.loop-index.members ++ (key, c.in-Some.other) ∷ []) (w.in_ok-try_clone-in-None.ensures ∙ sym c.as_str-key.ensures))
    ] in record {
      uniting =
          uniting_step (unite_all join c.args.members.now c.args.others) c.loop-index.members c.match-get_mut.members (names_of c.args.others) c.loop-index.index (into_iter_items c.loop-index.places)
          (into_iter_items c.next.new.self) c.as_str-key.result.now c.in-Some.other c.loop-index.invariant.uniting named c.in-Some.ensures.items united;
      left =
          next_left (values_of c.args.others) (into_iter_items c.loop-index.places) (into_iter_items c.next.new.self) c.loop-index.index c.in-Some.other
          c.loop-index.invariant.left c.in-Some.ensures.items;
    }

-- no key is left
pub join_members-returns : goal.join_members-returns
join_members-returns t c =
    uniting_over (unite_all join c.args.members.now c.args.others) c.loop-index.members (names_of c.args.others) c.loop-index.index
    (into_iter_items c.loop-index.places) c.loop-index.invariant.uniting
    (nothing_left (names_of c.args.others) c.loop-index.index (omega (arith, c.loop-index-test.false, c.len-index-end.ensures.length, ap length c.into_parts-names.ensures.names)))
