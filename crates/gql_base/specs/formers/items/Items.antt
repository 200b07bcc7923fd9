-- `Items` leads back to a type that holds it: as a shape it is the list of what it holds, and its layout is that of the
-- vector inside.
use mathlib.Core.Path.{◌≡◌, refl, sym}
use mathlib.Core.List.{List, []}
use mathlib.Core.Former.{Former, this, list, via, children}
use base.Stored.{code_map}
use denote.RattleType.{RattleType}
use denote.HoleLaws.{Alike}
use denote.HolePlaces.{Recodes, struct_places, laid}
use denote.Hole.Carrier.{listed, list-listed}
use denote.Hole.Fix.{over}
use denote.Param.Weighed.{Weighed, w_list}
use denote.Model.Placed.{view_places}
use Rattle.std.specs.formers.vec.Vec as vec
use Rattle.std.specs.declared.alloc.Global.{Global}
use Rattle.std.specs.contracts.alloc.Global as heap
use Rattle.std.specs.contracts.impls.GlobalAllocator.TheImpl.{ghosts}
use Rattle.gql_base.specs.declared.items.Items.TheInside.{Inside}
use Rattle.gql_base.specs.declared.items.Items.TheView.{view, invariant}
use Rattle.gql_base.specs.contracts.items.Items as contract
use Rattle.gql_base.specs.contracts.items.Items.TheInside as inside

abbrev pub the_former : Former {0} → Former {0}
the_former held = list held

abbrev pub the_weighed : {held : Former {0}} → Weighed held → Weighed (the_former held)
the_weighed weight = w_list weight

pub the_empty : List ⊥
the_empty = []

abbrev pub the_items : (X : Type 0) → List X → List X
the_items X items = items

pub the_items_listed : (X : Type 0) (items : List X) → listed _ (children (the_former this) X items) ≡ the_items X items
the_items_listed X items = list-listed X items

-- the one field, the vector
abbrev the_fields : Former {0}
the_fields =
    via (vec.the_former this Global) Inside (λ X fields. fields.list) (λ X vector. record { list = vector }) (λ X fields. refl)
    (λ X vector. refl)

module _ (R S : RattleType) (h : R.Denot → S.Denot) where
  pub the_places : Alike R S h → Alike (contract.the_row R) (contract.the_row S) ((the_former this).map R.Denot S.Denot h)
  the_places alike =
      view_places the_fields (list this) view (λ X Y k fields. refl) (λ X fields. refl) R.Denot S.Denot h
      (contract.the_row R).coded (contract.the_row S).coded (invariant R.Denot) (invariant S.Denot) (λ fields p q. refl)
      (λ fields p q. refl) (λ fields kept. tt) (λ fields kept. tt) (over (inside.the_row R)) (over (inside.the_row S))
      (struct_places (inside.the_type R) (inside.the_type S) (vec.mapped h, tt) _ (λ d. refl) refl
      (laid _ _ _ (vec.the_places heap.the_row ghosts R S h alike), tt))

  pub the_codes_placed : Recodes R S h → Recodes (contract.the_row R) (contract.the_row S) ((the_former this).map R.Denot S.Denot h)
  the_codes_placed recodes items = sym (code_map R.coded.code S.coded.code h (λ x. sym (recodes x)) items)
