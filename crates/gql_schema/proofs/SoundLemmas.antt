-- The first type of a table that has a fault.
use Rattle.std.proofs.Common.{◌≡◌, ℕ, ◌+◌, ◌<◌, ◌≤◌, Bool, true, false, List, length, Option, Some, None, is_some, slice_get, ap, sym, ◌∙◌, subst, arith, below_more}
use Rattle.std.proofs.lemmas.List.{length-map}
use Rattle.std.proofs.lemmas.Option.{slice_get_within}
use Rattle.std.specs.Bool.{one_answer}
use Rattle.gql_base.specs.Pairs.{values_of}
use Rattle.gql_schema.specs.Faults.{fault_of}
use Rattle.gql_schema.specs.Sound.{AreFaultFree, IsFaultOf, IsFaultOfAll, IsFirstRefusal, IsSound}
use Rattle.gql_schema.specs.TableReading.{TypeTable}
use Rattle.gql_schema.specs.declared.schema_error.SchemaError.{SchemaError}
use Rattle.gql_schema.specs.declared.schema_type.SchemaType.{SchemaType}

module _ (table : TypeTable) where
  -- a type with a fault after types without
  pub refuses_here : (place : ℕ) (ty : SchemaType) (found : Option SchemaError) (there : Bool) → AreFaultFree table place
      → slice_get (values_of table) place ≡ Some ty → IsFaultOf table ty found → there ≡ is_some found → there ≡ true → IsFaultOfAll table found
  refuses_here place ty found there before at fault test so =
      let P : Option SchemaError → Type 0 = λ o. is_some o ≡ true → IsFaultOf table ty o → IsFaultOfAll table o in
      (elim found as P [
        | None ↦ λ h f. cc
        | Some e ↦ λ h f. record { place = place; ty = ty; at = at; before = before; here = f }
      ]) (sym test ∙ so) fault

  -- one more type without a fault
  pub free_more : (place : ℕ) (ty : SchemaType) (found : Option SchemaError) (there : Bool) → AreFaultFree table place
      → slice_get (values_of table) place ≡ Some ty → IsFaultOf table ty found → there ≡ is_some found → there ≡ false → AreFaultFree table (place + 1)
  free_more place ty found there before at fault test so =
      let P : Option SchemaError → Type 0 = λ o. is_some o ≡ false → IsFaultOf table ty o → IsFaultOf table ty None in
      let none : IsFaultOf table ty None = (elim found as P [ None ↦ λ h f. f | Some e ↦ λ h f. cc ]) (sym test ∙ so) fault in
      let here : (other : SchemaType) → slice_get (values_of table) place ≡ Some other → IsFaultOf table other None
      = λ other there. let same : ty ≡ other = cc in let Q : SchemaType → Type 0 = λ t. IsFaultOf table t None in subst Q same none in
      below_more (λ k. (other : SchemaType) → slice_get (values_of table) k ≡ Some other → IsFaultOf table other None) place before here

  pub sound_then : (place : ℕ) → AreFaultFree table place → length table ≤ place → IsSound table
  sound_then place free over = λ k below. free k (omega arith)

  -- a table that has a first refusal isn't sound
  pub refused_unsound : (error : SchemaError) → IsFirstRefusal table error → IsSound table → ⊥
  refused_unsound error refusal sound =
      let within = slice_get_within (values_of table) refusal.place refusal.ty refusal.at in
      let inside : refusal.place < length table = omega (arith, within, length-map table (λ (p : List ℕ × SchemaType). p.1)) in
      let free = sound refusal.place inside refusal.ty refusal.at in
      let same = one_answer free.contains refusal.here.contains free.decides refusal.here.decides in
      let both : None ≡ Some error = free.is ∙ ap (λ b. fault_of table b refusal.ty) same ∙ sym refusal.here.is in
      cc
