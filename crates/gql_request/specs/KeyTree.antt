-- How data find their keys: each key has two links to keys that were added later. The way to a key
-- begins at the first key, and where a key is another one it takes the link of the lowest bit of
-- the key that is sought, which is then left out.
use Rattle.std.specs.Prelude.{◌≡◌, ℕ, ◌+◌, ◌*◌, ◌/◌, ◌%◌, ◌<◌, ◌≤◌, ◌==◌, List, [], Option, Some}
use Rattle.std.specs.Prelude.{None}
use Rattle.std.specs.Prelude.{length, slice_get, slice_set, slice_index_or}
use Rattle.std.specs.List.{position_or_len}
use Rattle.gql_request.specs.declared.key_tree.Sought.{Sought}
use Rattle.gql_request.specs.declared.key_tree.Sought.TheVariants.{At, Missing}

-- the number of the link that the way takes at a place, where these bits of the key are left
abbrev pub link_at : ℕ → ℕ → ℕ
link_at place bits = 2 * place + bits % 2

-- the place that a link goes to, if any
abbrev pub end_of : List (Option ℕ) → ℕ → Option ℕ
end_of links link = slice_index_or links link None

-- that the way from a place, by the bits that are left, comes to the goal
pub data Leads (links : List (Option ℕ)) (goal : ℕ) : ℕ → ℕ → Type 0 where
  Arrives : (bits : ℕ) → Leads links goal goal bits
  GoesOn : (place bits next : ℕ) → end_of links (link_at place bits) ≡ Some next
      → Leads links goal next (bits / 2) → Leads links goal place bits

pub record IsKeyTree (keys : List ℕ) (links : List (Option ℕ)) : Type 0 where
  -- each key has two links
  pub two : length links ≡ 2 * length keys
  -- a link goes to a key that was added later
  pub later : (link next : ℕ) → end_of links link ≡ Some next
      → (link < 2 * next) × (next < length keys)
  -- the way to each key comes to it
  pub reached : (place key : ℕ) → slice_get keys place ≡ Some key → Leads links place 0 key

-- the first place of a key, or the number of keys
abbrev pub first_place : ℕ → List ℕ → ℕ
first_place sought keys = position_or_len (λ key. sought == key) keys

-- links that have all of these
abbrev pub Extends : List (Option ℕ) → List (Option ℕ) → Type 0
Extends links more = (link next : ℕ) → end_of links link ≡ Some next → end_of more link ≡ Some next

-- that the way from a place, by the bits that are left, ends at a link that goes nowhere: a key at
-- that link would be reached
pub record Ends (links : List (Option ℕ)) (place bits link : ℕ) : Type 0 where
  pub within : link < length links
  pub free : end_of links link ≡ None
  pub leads : (more : List (Option ℕ)) (goal : ℕ) → Extends links more
      → end_of more link ≡ Some goal
      → Leads more goal place bits

-- where the way from a place by these bits ends: there is no key at all, or there is such a link
abbrev pub EndsAt : List (Option ℕ) → ℕ → ℕ → Option ℕ → Type 0
EndsAt links place bits None = links ≡ []
EndsAt links place bits (Some link) = Ends links place bits link

-- that an end is a link that there is
abbrev pub EndsWithin : List (Option ℕ) → Option ℕ → Type 0
EndsWithin links None = Unit {0}
EndsWithin links (Some link) = link < length links

-- the links once the one at an end, if any, goes to a place
abbrev pub with_end : List (Option ℕ) → Option ℕ → ℕ → List (Option ℕ)
with_end links None place = links
with_end links (Some link) place = slice_set links link (Some place)

-- what a search for a key along the way from a place finds
abbrev pub Finds : List ℕ → List (Option ℕ) → ℕ → ℕ → ℕ → Sought → Type 0
Finds keys links key place bits (At found) = (first_place key keys ≡ found) × (found < length keys)
Finds keys links key place bits (Missing end) =
    (length keys ≤ first_place key keys) × EndsAt links place bits end
