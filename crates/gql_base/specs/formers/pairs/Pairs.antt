-- `Pairs` leads back to a type that holds it: as a shape it is a list of names beside what it holds, and its layout is that
-- of the vector of values beside the names.
use Rattle.std.specs.Prelude.{◌≡◌, ℕ, List, [], ◌∷◌, map, length}
use mathlib.Core.Path.{refl, sym, ap, ◌∙◌}
use mathlib.Core.Former.{Former, one_more, this, const, pair, list, children, via}
use native.Mathlib.Nat.{ℕ_set}
use native.Mathlib.Omega.{arith}
use lib.ListN.{length-map}
use base.Stored.{code_map, coded×, coded_list, coded_ℕ, gcons}
use denote.RattleType.{RattleType}
use denote.HoleLaws.{Alike}
use denote.HolePlaces.{Recodes, struct_places, laid}
use denote.Hole.Carrier.{listed}
use denote.Hole.Fix.{over}
use denote.Param.Weighed.{Weighed, w_list, w_pair, w_const}
use denote.Model.Placed.{held, view_places_where}
use Rattle.std.specs.List.{zip}
use Rattle.std.specs.declared.alloc.Global.{Global}
use Rattle.std.specs.contracts.alloc.Global as heap
use Rattle.std.specs.contracts.impls.GlobalAllocator.TheImpl.{ghosts}
use Rattle.std.specs.formers.vec.Vec as vec
use Rattle.gql_base.specs.declared.pairs.Pairs.TheInside.{Inside}
use Rattle.gql_base.specs.declared.pairs.Pairs.TheView.{view, invariant}
use Rattle.gql_base.specs.contracts.pairs.Pairs as contract
use Rattle.gql_base.specs.contracts.pairs.Pairs.TheInside as inside

abbrev Named : Type 0 → Type 0
Named X = List ℕ × X

abbrev pub the_former : Former {0} → Former {0}
the_former held_type = list (pair (const (List ℕ)) held_type)

abbrev pub the_weighed : {held_type : Former {0}} → Weighed held_type → Weighed (the_former held_type)
the_weighed weight = w_list (w_pair (w_const (List ℕ)) weight)

pub the_empty : List (Named ⊥)
the_empty = []

abbrev pub the_items : (X : Type 0) → List (Named X) → List X
the_items X ps = map (λ p. p.1) ps

pub the_items_listed : (X : Type 0) (ps : List (Named X)) → listed _ (children (the_former this) X ps) ≡ the_items X ps
the_items_listed X [] = refl
the_items_listed X (p ∷ ps) = ap (λ xs. p.1 ∷ xs) (the_items_listed X ps)

abbrev Names : Type 0
Names = List (List ℕ)

-- the two fields, the names and the vector of values
abbrev the_fields : Former {0}
the_fields =
    via (pair (const Names) (vec.the_former this Global)) Inside (λ X fields. (fields.names, fields.values))
    (λ X parts. record { names = parts.0; values = parts.1 }) (λ X fields. refl) (λ X parts. refl)

zip-map : {K X Y : Type 0} (h : X → Y) (ks : List K) (vs : List X) → zip ks (map h vs) ≡ map (λ p. (p.0, h p.1)) (zip ks vs)
zip-map h [] vs = refl
zip-map h (k ∷ ks) [] = refl
zip-map h (k ∷ ks) (v ∷ vs) = ap (λ ps. (k, h v) ∷ ps) (zip-map h ks vs)

zip-held : (X : Type 0) (ks : List (List ℕ)) (vs : List X) → length vs ≡ length ks
    → held (the_former this) X (zip ks vs) ≡ held (list this) X vs
zip-held X [] [] e = refl
zip-held X [] (v ∷ vs) e = absurd (omega arith)
zip-held X (k ∷ ks) [] e = absurd (omega arith)
zip-held X (k ∷ ks) (v ∷ vs) e =
    λ i. (one_more (zip-held X ks vs (omega arith) i).0, (v, (zip-held X ks vs (omega arith) i).1))

module _ (R S : RattleType) (h : R.Denot → S.Denot) where
  pub the_places : Alike R S h → Alike (contract.the_row R) (contract.the_row S) ((the_former this).map R.Denot S.Denot h)
  the_places alike =
      view_places_where the_fields (the_former this) view (λ X Y k fields. zip-map k fields.names fields.values.items)
      (λ X fields. length fields.values.items ≡ length fields.names)
      (λ X Y k fields same. sym (length-map fields.values.items k) ∙ same)
      (λ X fields same. zip-held X fields.names fields.values.items same)
      R.Denot S.Denot h (contract.the_row R).coded (contract.the_row S).coded (invariant R.Denot) (invariant S.Denot) (λ fields. ℕ_set _ _)
      (λ fields. ℕ_set _ _) (λ fields same. length-map fields.values.items h ∙ same)
      (λ fields same. sym (length-map fields.values.items h) ∙ same) (λ fields same. same)
      (over (inside.the_row R)) (over (inside.the_row S))
      (struct_places (inside.the_type R) (inside.the_type S) (λ n. n, (vec.mapped h, tt)) _ (λ d. refl) refl
      ((refl, (λ n. refl, λ n. refl)), (laid _ _ _ (vec.the_places heap.the_row ghosts R S h alike), tt)))

  pub the_codes_placed : Recodes R S h → Recodes (contract.the_row R) (contract.the_row S) ((the_former this).map R.Denot S.Denot h)
  the_codes_placed recodes ps =
      sym (code_map (coded× (coded_list coded_ℕ) R.coded).code (coded× (coded_list coded_ℕ) S.coded).code (λ p. (p.0, h p.1))
      (λ p i. gcons ((coded_list coded_ℕ).code p.0) (sym (recodes p.1) i)) ps)
