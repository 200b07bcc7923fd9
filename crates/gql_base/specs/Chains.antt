-- Chains of the places of names, in which a name is found without going through all.
use Rattle.std.specs.Prelude.{◌≡◌, ℕ, ◌+◌, ◌*◌, ◌%◌, ◌^◌, ◌<◌, List, [], ◌∷◌, length, Option, Some}
use Rattle.std.specs.Prelude.{slice_get}
use Rattle.gql_base.specs.declared.chains.Chains.{Chains}

-- a hash once the bytes of a name are mixed in
abbrev pub mixed_with : ℕ → List ℕ → ℕ
mixed_with hash [] = hash
mixed_with hash (byte ∷ bytes) =
    mixed_with ((((hash + byte) % 2 ^ 64) * 1099511628211) % 2 ^ 64) bytes

-- the hash of the bytes of a name
abbrev pub hash_of : List ℕ → ℕ
hash_of bytes = mixed_with 14695981039346656037 bytes

-- the chain of a name among so many
abbrev pub chain_of : List ℕ → ℕ → ℕ
chain_of name count = hash_of name % count

-- a place is met on the way from the last place of a chain to its first
pub data Leads (before : List (Option ℕ)) : Option ℕ → ℕ → Type 0 where
  here : (place : ℕ) → Leads before (Some place) place
  further : (place to : ℕ) (next : Option ℕ) → slice_get before place ≡ Some next
      → Leads before next to → Leads before (Some place) to

-- lists of last places and of places before others, as those of chains of these names
pub record AreLinked (heads before : List (Option ℕ)) (names : List (List ℕ)) : Type 0 where
  pub some : 0 < length heads
  pub paired : length before ≡ length names
  pub falls : (place next : ℕ) → slice_get before place ≡ Some (Some next) → next < place
  pub starts : (chain place : ℕ) → slice_get heads chain ≡ Some (Some place)
      → place < length names
  pub leads : (place : ℕ) (name : List ℕ) (last : Option ℕ) → slice_get names place ≡ Some name
      → slice_get heads (chain_of name (length heads)) ≡ Some last → Leads before last place

-- each place of these names is in the chain of its name
abbrev pub AreChained : Chains → List (List ℕ) → Type 0
AreChained chains names = AreLinked chains.heads.items chains.before.items names
