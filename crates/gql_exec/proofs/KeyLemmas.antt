-- The keys of a set that ask an answer are the same, whether its fragments' fields are collected once or as often as they stand.
use Rattle.std.proofs.Common.{◌≡◌, ℕ, zero, suc, Bool, true, false, cond, List, [], ◌∷◌, filter, is_some, length, take, Option}
use Rattle.std.proofs.Common.{refl, ap, sym, subst, ◌∙◌}
use Rattle.gql_doc.specs.declared.document.Field.{Field}
use Rattle.gql_doc.specs.declared.document.Positioned.{Positioned}
use Rattle.gql_collect.specs.Basis.{execution_of}
use Rattle.gql_collect.specs.Execution.{Asking}
use Rattle.gql_collect.specs.declared.basis.Grouping.{Grouping}
use Rattle.gql_collect.specs.declared.basis.Grouping.TheVariants as grouping
use Rattle.gql_engine.proofs.FewerKeyLemmas.{asking_both, is_read, keys_paired, world_first}
use Rattle.gql_engine.specs.ExecuteMutation.{keys_by, keys_of, root_asked}
use Rattle.gql_engine.specs.ExecuteQuery.{basis_of, reading_in}
use Rattle.gql_engine.specs.declared.scene.Scene.{Scene}
use Rattle.gql_meaning.specs.Responses.{root_asking, world_after}
use Rattle.gql_resolve.specs.Call.{Call}
use Rattle.gql_select.proofs.FewerLemmas.{Close, close_itself, of_first}
use Rattle.gql_select.proofs.ThinLemmas.{ArePaired}
use Rattle.gql_select.specs.Grouped.{world_behind}
use Rattle.gql_select.specs.Reading.{IsReading, Reading}

-- pairs of one key, of which each two values have the same first occurrence
module _ {O F X : Type 0} (reading : Reading O F X) (is : IsReading reading) where
  abbrev Paired : List (List ℕ × F) → List (List ℕ × F) → Type 0
  Paired = ArePaired (Close reading is)

  pub paired_itself : (ps : List (List ℕ × F)) → Paired ps ps
  paired_itself [] = tt
  paired_itself (p ∷ ps) = (refl, (close_itself reading is p.1, paired_itself ps))

  -- as many of both
  pub as_long : (ps qs : List (List ℕ × F)) → Paired ps qs → length ps ≡ length qs
  as_long [] [] paired = refl
  as_long [] (q ∷ qs) paired = absurd paired
  as_long (p ∷ ps) [] paired = absurd paired
  as_long (p ∷ ps) (q ∷ qs) paired = ap suc (as_long ps qs paired.1.1)

  -- so many of both
  pub taken : (count : ℕ) (ps qs : List (List ℕ × F)) → Paired ps qs → Paired (take count ps) (take count qs)
  taken zero ps qs paired = tt
  taken (suc count) [] [] paired = tt
  taken (suc count) [] (q ∷ qs) paired = absurd paired
  taken (suc count) (p ∷ ps) [] paired = absurd paired
  taken (suc count) (p ∷ ps) (q ∷ qs) paired = (paired.0, (paired.1.0, taken count ps qs paired.1.1))

  -- those for which there is something that hangs on the first occurrence alone
  module _ {A : Type 0} (asks : F → Option A) (counts : (f g : F) → asks (reading.both f g) ≡ asks f) where
    abbrev with_one : List (List ℕ × F) → List (List ℕ × F)
    with_one keys = filter (λ (key : List ℕ × F). is_some (asks key.1)) keys

    by_test : (b : Bool) (p q : List ℕ × F) (ps qs : List (List ℕ × F)) → Paired (p ∷ []) (q ∷ []) → Paired ps qs
        → Paired (cond b (p ∷ ps) ps) (cond b (q ∷ qs) qs)
    by_test true p q ps qs one rest = (one.0, (one.1.0, rest))
    by_test false p q ps qs one rest = rest

    pub asking_paired : (ps qs : List (List ℕ × F)) → Paired ps qs → Paired (with_one ps) (with_one qs)
    asking_paired [] [] paired = tt
    asking_paired [] (q ∷ qs) paired = absurd paired
    asking_paired (p ∷ ps) [] paired = absurd paired
    asking_paired (p ∷ ps) (q ∷ qs) paired =
        let same : is_some (asks p.1) ≡ is_some (asks q.1) = ap is_some (of_first reading is asks counts p.1 q.1 paired.1.0.0) in
        subst (λ b. Paired (with_one (p ∷ ps)) (cond b (q ∷ with_one qs) (with_one qs))) same
        (by_test (is_some (asks p.1)) p q (with_one ps) (with_one qs) (paired.0, (paired.1.0, tt)) (asking_paired ps qs paired.1.1))

  -- they leave the same world, where each changes it by its first occurrence alone
  module _ {W : Type 0} (step : W → F → W) (counts : (world : W) (f g : F) → step world (reading.both f g) ≡ step world f) where
    pub behind_paired : (ps qs : List (List ℕ × F)) → Paired ps qs → (world : W) → world_behind step world ps ≡ world_behind step world qs
    behind_paired [] [] paired world = refl
    behind_paired [] (q ∷ qs) paired world = absurd paired
    behind_paired (p ∷ ps) [] paired world = absurd paired
    behind_paired (p ∷ ps) (q ∷ qs) paired world =
        behind_paired ps qs paired.1.1 (step world p.1)
        ∙ ap (λ w. world_behind step w qs) (of_first reading is (step world) (counts world) p.1 q.1 paired.1.0.0)

module _ {V : Type 0} (scene : Scene V) where
  -- what a root key asks
  abbrev asked : Positioned Field → Option (Asking V)
  asked field = root_asking (execution_of (basis_of scene)) (root_asked scene) field

  -- the root keys that ask an answer
  abbrev asking_of : List (List ℕ × Positioned Field) → List (List ℕ × Positioned Field)
  asking_of keys = filter (λ (key : List ℕ × Positioned Field). is_some (asked key.1)) keys

  -- the root keys are paired with those that are collected, however these are grouped
  all_paired : (by : Grouping) → Paired (reading_in scene) (is_read scene) (keys_of scene) (keys_by by scene)
  all_paired grouping.ByKey = keys_paired scene
  all_paired grouping.ByKeyWhole = keys_paired scene
  all_paired grouping.Each = paired_itself (reading_in scene) (is_read scene) (keys_of scene)

  paired : (by : Grouping) → Paired (reading_in scene) (is_read scene) (asking_of (keys_of scene)) (asking_of (keys_by by scene))
  paired by =
      asking_paired (reading_in scene) (is_read scene) asked
      (asking_both true (execution_of (basis_of scene)) (root_asked scene).object (root_asked scene).parent)
      (keys_of scene) (keys_by by scene) (all_paired by)

  -- as many of both ask an answer
  pub keys_as_many : (by : Grouping) → length (asking_of (keys_by by scene)) ≡ length (asking_of (keys_of scene))
  keys_as_many by = sym (as_long (reading_in scene) (is_read scene) (asking_of (keys_of scene)) (asking_of (keys_by by scene)) (paired by))

  module _ {W : Type 0} (effect : Call V → W → W) where
    -- the world that a root key leaves
    abbrev step : W → Positioned Field → W
    step = world_after (execution_of (basis_of scene)) effect (root_asked scene)

    -- so many of either leave the same world
    pub keys_behind : (by : Grouping) (count : ℕ) (world : W)
        → world_behind step world (take count (asking_of (keys_by by scene)))
        ≡ world_behind step world (take count (asking_of (keys_of scene)))
    keys_behind by count world =
        sym (behind_paired (reading_in scene) (is_read scene) step (world_first (execution_of (basis_of scene)) effect (root_asked scene))
        (take count (asking_of (keys_of scene))) (take count (asking_of (keys_by by scene)))
        (taken (reading_in scene) (is_read scene) count (asking_of (keys_of scene)) (asking_of (keys_by by scene)) (paired by)) world)
