-- The fragments of a document with their sets kept, of the names and the fragments apart.
use Rattle.std.proofs.Common.{◌≡◌, ℕ, suc, List, [], ◌∷◌, ◌++◌, length, map, refl, ap, sym, ◌∙◌, append_assoc}
use Rattle.std.specs.List.{zip}
use Rattle.gql_base.specs.Pairs.{names_of, values_of}
use Rattle.gql_base.specs.declared.value.Value.{Value}
use Rattle.gql_doc.specs.Depth.{Fragments}
use Rattle.gql_select.specs.Kept.{kept_fragment, kept_fragments}

-- the kept fragments beside the names
pub kept_whole : (known : List ℕ → Value) (fragments : Fragments)
    → zip (names_of fragments) (map (kept_fragment known) (values_of fragments))
    ≡ kept_fragments known fragments
kept_whole known [] = refl
kept_whole known (f ∷ fs) = ap (λ xs. (f.0, kept_fragment known f.1) ∷ xs) (kept_whole known fs)

-- they are as many as the names
pub kept_long : (known : List ℕ → Value) (fragments : Fragments)
    → length (map (kept_fragment known) (values_of fragments)) ≡ length (names_of fragments)
kept_long known [] = refl
kept_long known (f ∷ fs) = ap suc (kept_long known fs)

-- one fragment more that is kept
pub kept_next : {F : Type 0} (keep : F → F) (made new rest left : List F) (next : F) → rest ≡ next ∷ left → new ≡ made ++ keep next ∷ []
    → new ++ map keep left ≡ made ++ map keep rest
kept_next keep made new rest left next is step =
    ap (λ fs. fs ++ map keep left) step ∙ append_assoc made (keep next ∷ []) (map keep left) ∙ ap (λ fs. made ++ map keep fs) (sym is)
