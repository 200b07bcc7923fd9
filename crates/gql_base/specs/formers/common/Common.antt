-- `Common` leads back to a type that holds it: as a shape it is the one value, and its layout is that of the `Arc` inside.
use mathlib.Core.Path.{refl}
use mathlib.Core.Former.{Former, this, const, pair, via}
use base.Stored.{gnil}
use base.Fml.{ftrue}
use denote.RattleType.{RattleType}
use denote.Memory.{part_of}
use denote.RawPtr.{Ptr}
use denote.Sharing.{nothing}
use denote.HoleLaws.{Alike}
use denote.HolePlaces.{Recodes, struct_places, laid, one_value}
use denote.Hole.Fix.{over}
use denote.Param.Weighed.{Weighed}
use denote.Model.Placed.{view_places}
use Rattle.std.specs.declared.sync.Arc.{Arc}
use Rattle.std.specs.contracts.sync.Arc as arcs
use Rattle.std.specs.declared.alloc.Global.{Global}
use Rattle.std.specs.contracts.alloc.Global as heap
use Rattle.std.specs.contracts.impls.GlobalAllocator.TheImpl.{ghosts}
use Rattle.gql_base.specs.declared.common.Common.TheInside.{Inside}
use Rattle.gql_base.specs.declared.common.Common.TheView.{view, invariant}
use Rattle.gql_base.specs.contracts.common.Common as contract
use Rattle.gql_base.specs.contracts.common.Common.TheInside as inside

abbrev pub the_former : Former {0} → Former {0}
the_former held = held

abbrev pub the_weighed : {held : Former {0}} → Weighed held → Weighed (the_former held)
the_weighed weight = weight

-- a shared value of one type with a value of another in it
abbrev refilled : {X Y : Type 0} → Arc X Global → Y → Arc Y Global
refilled arc value = record { ptr = arc.ptr; value = value }

-- the one field: its pointer, and the value
abbrev the_fields : Former {0}
the_fields =
    via (pair (const Ptr) this) Inside (λ X fields. (fields.held.ptr, fields.held.value))
    (λ X parts. record { held = record { ptr = parts.0; value = parts.1 } }) (λ X fields. refl)
    (λ X parts. refl)

abbrev arc_row : RattleType → RattleType
arc_row R = arcs.the_row R heap.the_row ghosts

module _ (R S : RattleType) (h : R.Denot → S.Denot) where
  arc_places : Alike R S h → Alike (arc_row R) (arc_row S) (λ arc. refilled arc (h arc.value))
  unfolding part_of
  arc_places alike = record {
    mir_same = λ i. (arc_row (one_value R (alike.mir_same i) (λ _. ftrue) (λ _ _. nothing) gnil)).mir;
    own_same = λ arc i. (arc_row (one_value R (alike.mir_same i) (alike.own_same arc.value i) (alike.shr_same arc.value i) gnil)).own_val
        (refilled arc tt);
    shr_same = λ arc i. (arc_row (one_value R (alike.mir_same i) (alike.own_same arc.value i) (alike.shr_same arc.value i) gnil)).shr_at
        (refilled arc tt);
  }

  pub the_places : Alike R S h → Alike (contract.the_row R) (contract.the_row S) ((the_former this).map R.Denot S.Denot h)
  the_places alike =
      view_places the_fields this view (λ X Y k fields. refl) (λ X fields. refl) R.Denot S.Denot h
      (contract.the_row R).coded (contract.the_row S).coded (invariant R.Denot) (invariant S.Denot) (λ fields p q. refl)
      (λ fields p q. refl) (λ fields kept. tt) (λ fields kept. tt) (over (inside.the_row R)) (over (inside.the_row S))
      (struct_places (inside.the_type R) (inside.the_type S) ((λ arc. refilled arc (h arc.value)), tt) _ (λ d. refl) refl
      (laid _ _ _ (arc_places alike), tt))

  pub the_codes_placed : Recodes R S h → Recodes (contract.the_row R) (contract.the_row S) ((the_former this).map R.Denot S.Denot h)
  the_codes_placed recodes value = recodes value
