-- A table has one first refusal at most, and none where it is sound.
use Rattle.std.proofs.Common.{◌≡◌, ◌⊎◌, ℕ, ◌<◌, List, length, Option, Some, None, slice_get, inl, inr, ap, sym, ◌∙◌, subst, arith}
use Rattle.std.proofs.lemmas.Bool.{cases_order}
use Rattle.std.proofs.lemmas.List.{length-map}
use Rattle.std.proofs.lemmas.Option.{slice_get_within}
use Rattle.std.specs.Bool.{one_answer}
use Rattle.gql_base.specs.Pairs.{values_of}
use Rattle.gql_schema.specs.Faults.{fault_of}
use Rattle.gql_schema.specs.Sound.{AreFaultFree, IsFaultOf, IsFirstRefusal, IsSound}
use Rattle.gql_schema.specs.TableReading.{TypeTable}
use Rattle.gql_schema.specs.declared.schema_error.SchemaError.{SchemaError}
use Rattle.gql_schema.specs.declared.schema_type.SchemaType.{SchemaType}

module _ (table : TypeTable) where
  -- a type has one first fault, or none
  one-fault : (ty : SchemaType) (one other : Option SchemaError) → IsFaultOf table ty one → IsFaultOf table ty other → one ≡ other
  one-fault ty one other a b =
      a.is ∙ ap (λ b. fault_of table b ty) (one_answer a.contains b.contains a.decides b.decides) ∙ sym b.is

  -- the first type with a fault doesn't stand among those without one
  never-free : (count : ℕ) (error : SchemaError) → AreFaultFree table count → (refusal : IsFirstRefusal table error) → refusal.place < count → ⊥
  never-free count error free refusal within =
      let wrong : None ≡ Some error = one-fault refusal.ty None (Some error) (free refusal.place within refusal.ty refusal.at) refusal.here in
      cc

  pub never-sound : (error : SchemaError) → IsFirstRefusal table error → IsSound table → ⊥
  never-sound error refusal sound =
      let within = slice_get_within (values_of table) refusal.place refusal.ty refusal.at in
      never-free (length table) error sound refusal (omega (arith, within, length-map table (λ (p : List ℕ × SchemaType). p.1)))

  pub one-refusal : (one other : SchemaError) → IsFirstRefusal table one → IsFirstRefusal table other → one ≡ other
  one-refusal one other a b = by (cases_order a.place b.place)
    where
      by : (a.place ≡ b.place) ⊎ ((a.place < b.place) ⊎ (b.place < a.place)) → one ≡ other
      by (inr (inl before)) = absurd (never-free b.place one b.before a before)
      by (inr (inr behind)) = absurd (never-free a.place other a.before b behind)
      by (inl same) =
          let types : Some a.ty ≡ Some b.ty = sym a.at ∙ ap (slice_get (values_of table)) same ∙ b.at in
          let ty : a.ty ≡ b.ty = cc in
          let both : Some one ≡ Some other = one-fault b.ty (Some one) (Some other) (subst (λ t. IsFaultOf table t (Some one)) ty a.here) b.here in
          cc
